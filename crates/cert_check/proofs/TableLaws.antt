-- The table of a proof, and the lines that all records share.
use Rattle.std.proofs.Common.{◌≡◌, ℕ, ◌+◌, ◌<◌, ◌^◌, ◌⊎◌, inl, inr, Bool, true, false, List, [], ◌∷◌, ◌++◌, Some, None, Result, Ok, Err, length, map}
use Rattle.std.proofs.Common.{option_map, refl, ap, arith}
use Rattle.std.specs.List.{flat_map}
use Rattle.std.specs.Result.{result_err, result_unwrap_or}
use Rattle.std.proofs.lemmas.List.{length-map}
use Rattle.edit_model.specs.Parts.{SurveyParts}
use Rattle.edit_line.specs.Lines.{AreOver, LineParts}
use Rattle.edit_line.specs.Reductions.{IsIn}
use Rattle.edit_line.specs.Shapes.{Domain}
use Rattle.edit_line.proofs.Members.{all-in, in-all, in-either}
use Rattle.edit_normal.specs.RuleLines.{normal_lines_of}
use Rattle.derivation.specs.LineLists.{AreLinesOf, no_record}
use Rattle.derivation.specs.Premises.{usable_lines}
use Rattle.proof_grammar.specs.Limits.{IsPlain, IsTable}
use Rattle.proof_grammar.specs.ProofLines.{has_table, step_line, table_lines, verdict_lines}
use Rattle.derivation.specs.declared.step.Step.{Step}
use Rattle.proof_grammar.specs.declared.proof.Proof.{Proof}
use Rattle.cert_check.specs.Dropped.{kept_flags}
use Rattle.cert_check.specs.Places.{table_line}
use Rattle.cert_check.specs.Tables.{shared_lines, table_fault, table_result}
use Rattle.cert_check.specs.inner.Counts.{IsCounted}
use Rattle.cert_check.proofs.LineNumbers.{all-lines}

-- where no step is at fault, these are the lines of the table
pub table-lines : (survey : SurveyParts) (p : Proof) → table_fault survey p ≡ None → AreLinesOf (no_record survey (normal_lines_of survey) (kept_flags p))
    p.table (shared_lines survey p)
table-lines survey p none = by (table_result survey p) none
  where
    by : (r : Result (List LineParts) ℕ) → option_map (λ place. table_line p + 1 + place) (result_err r) ≡ None → r ≡ Ok (result_unwrap_or r [])
    by (Ok lines) h = refl
    by (Err place) h = absurd (cc)

-- what the table gives, by the answer on its steps
pub given-lines : (survey : SurveyParts) (p : Proof) (lines : List LineParts) → AreLinesOf (no_record survey (normal_lines_of survey) (kept_flags p)) p.table
    lines → (table_fault survey p ≡ None) × (shared_lines survey p ≡ lines)
given-lines survey p lines are = (
  ap (λ (r : Result (List LineParts) ℕ). option_map (λ place. table_line p + 1 + place) (result_err r)) are,
  ap (λ (r : Result (List LineParts) ℕ). result_unwrap_or r []) are,
)

pub given-fault : (survey : SurveyParts) (p : Proof) (place : ℕ) → table_result survey p ≡ Err place → table_fault survey p ≡ Some (table_line p + 1 + place)
given-fault survey p place is = ap (λ (r : Result (List LineParts) ℕ). option_map (λ n. table_line p + 1 + n) (result_err r)) is

-- lines of which all may be used
all-usable : (lines : List LineParts) (l : LineParts) → IsIn l (usable_lines lines (map (λ line. true) lines)) → IsIn l lines
all-usable [] l there = there
all-usable (line ∷ lines) l (inl same) = inl same
all-usable (line ∷ lines) l (inr there) = inr (all-usable lines l there)

-- a usable line is one of the first, or one of the table
pub usable-with : (given : List LineParts) (usable : List Bool) (lines : List LineParts) (l : LineParts) → length given ≡ length usable
    → IsIn l (usable_lines (given ++ lines) (usable ++ map (λ line. true) lines)) → IsIn l (usable_lines given usable) ⊎ IsIn l lines
usable-with [] [] lines l even there = inr (all-usable lines l there)
usable-with [] (flag ∷ usable) lines l even there = absurd (omega arith)
usable-with (g ∷ given) [] lines l even there = absurd (omega arith)
usable-with (g ∷ given) (false ∷ usable) lines l even there = usable-with given usable lines l (omega arith) there
usable-with (g ∷ given) (true ∷ usable) lines l even (inl same) = inl (inl same)
usable-with (g ∷ given) (true ∷ usable) lines l even (inr there) = by (usable-with given usable lines l (omega arith) there)
  where
    by : IsIn l (usable_lines given usable) ⊎ IsIn l lines → IsIn l (g ∷ usable_lines given usable) ⊎ IsIn l lines
    by (inl h) = inl (inr h)
    by (inr h) = inr h

-- lines over the same fields, one list behind the other
pub over-both : (shape : List Domain) (first second : List LineParts) → AreOver shape first → AreOver shape second → AreOver shape (first ++ second)
over-both shape first second one other = all-in (λ (line : LineParts). line.shape ≡ shape) (first ++ second)
    (λ line there. by line (in-either line first second there))
  where
    by : (line : LineParts) → IsIn line first ⊎ IsIn line second → line.shape ≡ shape
    by line (inl h) = in-all (λ (l : LineParts). l.shape ≡ shape) line first one h
    by line (inr h) = in-all (λ (l : LineParts). l.shape ≡ shape) line second other h

-- the number of a line of the table is one of 64 bits
pub place-fits : (p : Proof) (place : ℕ) → IsPlain p → IsCounted p → place < length p.table → table_line p + 1 + place < 2 ^ 64
place-fits p place plain counted below = by (has_table p.version) p.table plain.table below (omega (arith, all-lines p, counted))
  where
    by : (b : Bool) (table : List Step) → IsTable b table → place < length table
        → 6 + (length (flat_map verdict_lines p.verdicts) + length (table_lines b table)) < 2 ^ 64 → table_line p + 1 + place < 2 ^ 64
    by false table none there fits = absurd (omega (arith, ap length none, there))
    by true table fit there fits = omega (arith, there, fits, length-map table step_line)
