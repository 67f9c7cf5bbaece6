-- What the lines of the rules show, where each that a proof drops is refuted.
use Rattle.std.proofs.Common.{◌≡◌, ◌≢◌, ℕ, zero, suc, ◌+◌, ◌<◌, Bool, true, false, if◌then◌else◌, is_none, List, [], ◌∷◌, Option, Some, None, Result, Ok, Err}
use Rattle.std.proofs.Common.{length, map, option_map, slice_get, slice_index_or, refl, sym, ap, ◌∙◌, arith}
use Rattle.std.proofs.lemmas.List.{length-map}
use Rattle.edit_model.specs.Parts.{SurveyParts}
use Rattle.edit_model.specs.Surveys.{IsWellFormed}
use Rattle.edit_line.specs.Lines.{Follows, LineParts, is_equal}
use Rattle.edit_line.specs.Reductions.{IsIn}
use Rattle.edit_line.specs.declared.relation.Relation.TheVariants.{Equal}
use Rattle.edit_line.proofs.RelationLaws.{not_equal}
use Rattle.edit_normal.specs.RuleLines.{normal_lines_of}
use Rattle.edit_normal.proofs.NormalLines.{normal-lines, normal-over}
use Rattle.derivation.specs.Premises.{Premises, usable_lines}
use Rattle.derivation.specs.Refutations.{RefutedBy, is_absurd, no_values}
use Rattle.derivation.specs.ValidSteps.{steps_result}
use Rattle.derivation.specs.declared.proved.Proved.{Proved}
use Rattle.derivation.specs.declared.step.Step.{Step}
use Rattle.derivation.proofs.RefutationLaws.{get-below, kept-follow, row-no_values}
use Rattle.proof_grammar.specs.ProofLines.{verdict_lines}
use Rattle.proof_grammar.specs.declared.proof.Proof.{Proof}
use Rattle.cert_check.specs.Dropped.{dropped_fault, fault_by, kept_flags, or_later, refutation_at, refutation_fault, verdict_fault, verdicts_fault}
use Rattle.cert_check.specs.Releases.{Audit, Fits}
use Rattle.cert_check.proofs.AuditLaws.{counts-fit}

-- steps without a fault refute
refutes : (p : Premises) (steps : List Step) → refutation_fault p steps ≡ None → RefutedBy p steps
refutes p [] none = absurd (cc)
refutes p (step ∷ steps) none = by (steps_result p (step ∷ steps)) refl none
  where
    tested : (b : Bool) → if◌then◌else◌ {A = Option ℕ} b None (Some 0) ≡ None → b ≡ true
    tested true h = refl
    tested false h = absurd (cc)

    by : (r : Result Proved ℕ) → steps_result p (step ∷ steps) ≡ r → fault_by p.shape r ≡ None → RefutedBy p (step ∷ steps)
    by (Ok proved) is h = (proved, is, tested (is_absurd p.shape proved) h)
    by (Err place) is h = absurd (cc)

-- a dropped line without a fault is no equality, and its steps have none
not-at-fault : (p : Premises) (line : LineParts) (steps : List Step) → dropped_fault p line steps ≡ None → (line.relation ≢ Equal)
    × (refutation_fault p steps ≡ None)
not-at-fault p line steps none = by (is_equal line.relation) refl none
  where
    by : (b : Bool) → is_equal line.relation ≡ b → (if b then Some 0 else refutation_fault p steps) ≡ None → (line.relation ≢ Equal)
        × (refutation_fault p steps ≡ None)
    by true e h = absurd (cc)
    by false e h = (not_equal line.relation e, h)

-- where no line is at fault, none of a place is
none-at : (survey : SurveyParts) (kept : List Bool) (place : ℕ) (lines : List LineParts) (verdicts : List (Option (List Step)))
    → verdicts_fault survey kept place lines verdicts ≡ None
    → (k : ℕ) (line : LineParts) (steps : List Step) → slice_get lines k ≡ Some line → slice_get verdicts k ≡ Some (Some steps)
    → dropped_fault (refutation_at survey kept (place + k) line) line steps ≡ None
none-at survey kept place [] verdicts none k line steps line_at verdict_at = absurd (cc)
none-at survey kept place (l ∷ lines) [] none k line steps line_at verdict_at = absurd (cc)
none-at survey kept place (l ∷ lines) (v ∷ verdicts) none k line steps line_at verdict_at =
    let (here, later) = neither (verdict_fault (refutation_at survey kept place l) l v) (length (verdict_lines v))
    (verdicts_fault survey kept (suc place) lines verdicts) none in
    at k line_at verdict_at here (λ j below_line below_verdict. none-at survey kept (suc place) lines verdicts later j line steps below_line below_verdict)
  where
    neither : (o : Option ℕ) (n : ℕ) (next : Option ℕ) → or_later o n next ≡ None → (o ≡ None) × (next ≡ None)
    neither None n None h = (refl, refl)
    neither None n (Some m) h = absurd (cc)
    neither (Some m) n next h = absurd (cc)

    nothing : (n : ℕ) → n ≡ n + 0
    nothing n = omega arith

    shifted : (n j : ℕ) → suc n + j ≡ n + suc j
    shifted n j = omega arith

    at : (k : ℕ) → slice_get (l ∷ lines) k ≡ Some line → slice_get (v ∷ verdicts) k ≡ Some (Some steps) → verdict_fault (refutation_at survey kept place l) l v
        ≡ None
        → ((j : ℕ) → slice_get lines j ≡ Some line → slice_get verdicts j ≡ Some (Some steps)
        → dropped_fault (refutation_at survey kept (suc place + j) line) line steps ≡ None)
        → dropped_fault (refutation_at survey kept (place + k) line) line steps ≡ None
    at zero line_at verdict_at here later =
        let same : l ≡ line = cc in
        let told : v ≡ Some steps = cc in
        ap (λ n. dropped_fault (refutation_at survey kept n line) line steps) (sym (nothing place))
        ∙ ap (λ (m : LineParts). dropped_fault (refutation_at survey kept place m) m steps) (sym same)
        ∙ ap (λ (o : Option (List Step)). verdict_fault (refutation_at survey kept place l) l o) (sym told) ∙ here
    at (suc j) line_at verdict_at here later = ap (λ n. dropped_fault (refutation_at survey kept n line) line steps) (sym (shifted place j))
        ∙ later j line_at verdict_at

-- a line that is not kept is dropped with steps
dropped-with : {X : Type 0} (verdicts : List (Option X)) (place : ℕ) → place < length verdicts → slice_index_or (map is_none verdicts) place false ≡ false
    → (x : X) × (slice_get verdicts place ≡ Some (Some x))
dropped-with [] place below flag = absurd (omega arith)
dropped-with (None ∷ verdicts) zero below flag = absurd (cc)
dropped-with (Some x ∷ verdicts) zero below flag = (x, refl)
dropped-with (v ∷ verdicts) (suc place) below flag = dropped-with verdicts place (omega arith) flag

-- each line of the rules follows from those that a proof that fits keeps
module _ (a : Audit) (p : Proof) (well : IsWellFormed a.survey) (fits : Fits a p) where
  none-faulty : verdicts_fault a.survey (kept_flags p) 0 (normal_lines_of a.survey) p.verdicts ≡ None
  none-faulty = by (verdicts_fault a.survey (kept_flags p) 0 (normal_lines_of a.survey) p.verdicts) fits.dropped
    where
      by : (o : Option ℕ) → option_map (λ n. 4 + n) o ≡ None → o ≡ None
      by None h = refl
      by (Some n) h = absurd (cc)

  nothing-first : (n : ℕ) → n ≡ 0 + n
  nothing-first n = omega arith

  pub rules-follow : (line : LineParts) → IsIn line (normal_lines_of a.survey) → Follows (usable_lines (normal_lines_of a.survey) (kept_flags p)) line
  rules-follow =
      kept-follow a.survey.fields (normal_lines_of a.survey) (kept_flags p) (no_values a.survey.fields) (row-no_values a.survey.fields)
      (sym (counts-fit a p fits.head).0 ∙ sym (length-map p.verdicts is_none)) (normal-over a.survey)
      (normal-lines a.survey well) (λ j line at flag.
      let (steps, told) = dropped-with p.verdicts j (omega (arith, get-below (normal_lines_of a.survey) j line at, (counts-fit a p fits.head).0)) flag in
      let (apart, none) = not-at-fault (refutation_at a.survey (kept_flags p) j line) line steps
      (ap (λ n. dropped_fault (refutation_at a.survey (kept_flags p) n line) line steps) (nothing-first j)
      ∙ none-at a.survey (kept_flags p) 0 (normal_lines_of a.survey) p.verdicts none-faulty j line steps at told) in
      (apart, steps, refutes (refutation_at a.survey (kept_flags p) j line) steps none))
