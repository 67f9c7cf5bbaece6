-- The proof of an edit says of each dropped line of the rules steps that refute its negation.
use Rattle.std.proofs.Common.{◌≡◌, ◌≢◌, ℕ, suc, ◌+◌, Bool, true, false, if◌then◌else◌, List, [], ◌∷◌, Option, Some, None, IfSome, Result, length, map}
use Rattle.std.proofs.Common.{slice_get, refl, ap, ◌∙◌, subst, arith}
use Rattle.std.specs.Prelude.{option_map}
use Rattle.std.specs.List.{AllByRecursion}
use Rattle.edit_model.specs.Parts.{SurveyParts}
use Rattle.edit_model.specs.Surveys.{IsWellFormed}
use Rattle.edit_line.specs.Lines.{LineParts, is_equal}
use Rattle.edit_line.specs.declared.relation.Relation.TheVariants.{Equal}
use Rattle.edit_line.proofs.RelationLaws.{is_equal-Decides}
use Rattle.edit_normal.specs.RuleLines.{normal_lines_of}
use Rattle.derivation.specs.Premises.{Premises}
use Rattle.derivation.specs.Refutations.{RefutedBy}
use Rattle.derivation.specs.declared.proved.Proved.{Proved}
use Rattle.derivation.specs.declared.step.Step.{Step}
use Rattle.redundancy.specs.declared.verdict.Verdict.{Verdict}
use Rattle.redundancy.specs.declared.verdict.Verdict.TheVariants.{Dropped, Kept}
use Rattle.redundancy.proofs.BaseLaws.{verdicts-count}
use Rattle.pruned_rules.specs.Pruned.{rule_flags, rule_verdicts}
use Rattle.pruned_rules.proofs.KeptLaws.{rule-refuted}
use Rattle.pruned_rules.specs.Limits.{pruning_budget}
use Rattle.proof_grammar.specs.ProofLines.{verdict_lines}
use Rattle.proof_grammar.specs.Sizes.{AreCoherentSteps}
use Rattle.edit_report.specs.declared.end.RowEnd.{RowEnd}
use Rattle.cert_check.specs.Dropped.{drop_fault, dropped_fault, fault_by, or_later, refutation_at, refutation_fault, verdict_fault, verdicts_fault}
use Rattle.edit_release.specs.Edits.{proof_of, refutation_by}
use Rattle.edit_release.proofs.CoherentLaws.{valid-coherent}
use Rattle.edit_release.proofs.SaidLaws.{flags-said}
use Rattle.record_editing.specs.declared.terms.Terms.{Terms}
use Rattle.donor_book.specs.declared.claim.Entry.{Entry}

-- steps that refute have no fault
no-fault : (p : Premises) (steps : List Step) → RefutedBy p steps → refutation_fault p steps ≡ None
no-fault p [] (x, valid, wrong) = absurd (cc)
no-fault p (step ∷ steps) (x, valid, wrong) = ap (λ (r : Result Proved ℕ). fault_by p.shape r) valid ∙ ap (λ b. if b then None else Some 0) wrong

-- a line that is no equality, and steps that refute its negation
abbrev IsDropped : Premises → LineParts → List Step → Type 0
IsDropped p line steps = (line.relation ≢ Equal) × RefutedBy p steps

no-drop-fault : (p : Premises) (line : LineParts) (steps : List Step) → IsDropped p line steps → dropped_fault p line steps ≡ None
no-drop-fault p line steps (apart, refutes) = by (is_equal line.relation) refl
  where
    by : (b : Bool) → is_equal line.relation ≡ b → (if b then Some 0 else refutation_fault p steps) ≡ None
    by true e = absurd (apart ((is_equal-Decides line.relation).0 e))
    by false e = no-fault p steps refutes

-- neither of two
neither : (first : Option ℕ) (lines : ℕ) (next : Option ℕ) → first ≡ None → next ≡ None → or_later first lines next ≡ None
neither None lines None none later = refl
neither None lines (Some n) none later = absurd (cc)
neither (Some n) lines next none later = absurd (cc)

module _ (survey : SurveyParts) (kept : List Bool) where
  -- what is said of a line has no fault
  own-fault : (place : ℕ) (line : LineParts) (verdict : Verdict) → ((steps : List Step) → verdict ≡ Dropped steps
      → IsDropped (refutation_at survey kept place line) line steps)
      → verdict_fault (refutation_at survey kept place line) line (refutation_by verdict) ≡ None
  own-fault place line (Kept why) refuted = refl
  own-fault place line (Dropped steps) refuted = no-drop-fault (refutation_at survey kept place line) line steps (refuted steps refl)

  -- nor what is said of the lines from a place on
  none-from : (place : ℕ) (lines : List LineParts) (verdicts : List Verdict)
      → ((k : ℕ) (line : LineParts) (steps : List Step) → slice_get lines k ≡ Some line → slice_get verdicts k ≡ Some (Dropped steps)
      → IsDropped (refutation_at survey kept (place + k) line) line steps)
      → verdicts_fault survey kept place lines (map refutation_by verdicts) ≡ None
  none-from place [] verdicts refuted = refl
  none-from place (line ∷ lines) [] refuted = refl
  none-from place (line ∷ lines) (verdict ∷ verdicts) refuted =
      neither (verdict_fault (refutation_at survey kept place line) line (refutation_by verdict)) (length (verdict_lines (refutation_by verdict)))
      (verdicts_fault survey kept (suc place) lines (map refutation_by verdicts))
      (own-fault place line verdict (λ steps is. subst (λ n. IsDropped (refutation_at survey kept n line) line steps) (here place)
      (refuted 0 line steps refl (ap (λ (v : Verdict). Some v) is))))
      (none-from (suc place) lines verdicts (λ k l steps at told. subst (λ n. IsDropped (refutation_at survey kept n l) l steps) (later place k)
      (refuted (suc k) l steps at told)))
    where
      here : (n : ℕ) → n + 0 ≡ n
      here n = omega arith

      later : (n k : ℕ) → n + suc k ≡ suc n + k
      later n k = omega arith

-- no line that says what becomes of a line of the rules is at fault
pub none-faulty : (survey : SurveyParts) (formed : IsWellFormed survey) (terms : Terms) (ends : List RowEnd) (history : List Entry)
    → drop_fault survey (proof_of survey terms ends history) ≡ None
none-faulty survey formed terms ends history =
    ap (λ (kept : List Bool). option_map (λ offset. 4 + offset) (verdicts_fault survey kept 0 (normal_lines_of survey)
    (map refutation_by (rule_verdicts survey)))) (flags-said (rule_verdicts survey))
    ∙ ap (λ (fault : Option ℕ). option_map (λ offset. 4 + offset) fault) (none-from survey (rule_flags survey) 0 (normal_lines_of survey) (rule_verdicts survey)
    (λ place line steps at told.
    subst (λ n. IsDropped (refutation_at survey (rule_flags survey) n line) line steps) (first place) (rule-refuted survey formed place line steps at told)))
  where
    first : (n : ℕ) → n ≡ 0 + n
    first n = omega arith

-- ---- coherent steps

-- what is said of lines is coherent, if the steps of each dropped one are
coherent-steps : (lines : List LineParts) (verdicts : List Verdict) → length verdicts ≡ length lines
    → ((k : ℕ) (line : LineParts) (steps : List Step) → slice_get lines k ≡ Some line → slice_get verdicts k ≡ Some (Dropped steps) → AreCoherentSteps steps)
    → AllByRecursion (λ v. IfSome v AreCoherentSteps) (map refutation_by verdicts)
coherent-steps lines [] same positive = tt
coherent-steps [] (verdict ∷ verdicts) same positive = absurd (omega arith)
coherent-steps (line ∷ lines) (Kept why ∷ verdicts) same positive = (tt, coherent-steps lines verdicts (omega arith) (λ k. positive (suc k)))
coherent-steps (line ∷ lines) (Dropped steps ∷ verdicts) same positive =
    (positive 0 line steps refl refl, coherent-steps lines verdicts (omega arith) (λ k. positive (suc k)))

-- what is said of the lines of the rules is coherent
pub verdicts-coherent : (survey : SurveyParts) → IsWellFormed survey → AllByRecursion (λ v. IfSome v AreCoherentSteps)
    (map refutation_by (rule_verdicts survey))
verdicts-coherent survey formed =
    coherent-steps (normal_lines_of survey) (rule_verdicts survey) (verdicts-count survey (normal_lines_of survey) pruning_budget 0 (normal_lines_of survey))
    (λ place line steps at told.
    let (apart, refutes) = rule-refuted survey formed place line steps at told in
    let (x, valid, wrong) = refutes in valid-coherent (refutation_at survey (rule_flags survey) place line) steps x valid)
