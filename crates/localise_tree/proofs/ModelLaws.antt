use Rattle.std.proofs.Common.{◌≡◌, ℕ, List, Result, Ok, Err, IfOk, sym, ◌∙◌, subst}
use Rattle.edit_model.specs.Corrections.{IsLeastWeight}
use Rattle.edit_model.specs.Parts.{SurveyParts}
use Rattle.edit_model.specs.declared.value.Value.{Value}
use Rattle.edit_line.specs.EditSets.{EditsParts}
use Rattle.bound_cert.specs.declared.outcome.Outcome.{Outcome}
use Rattle.edit_paths.specs.Cases.{SearchCase, IsCase, case_of}
use Rattle.edit_paths.specs.Outcomes.{outcome_of}
use Rattle.edit_paths.proofs.BudgetLaws.{always-change, enough-budget}
use Rattle.edit_paths.proofs.CertificateTrees.{change-tree, contradiction-tree}
use Rattle.edit_paths.proofs.ChoiceLaws.{change-choice, contradictory}
use Rattle.edit_paths.proofs.LeastLaws.{choice-first, choice-least}
use Rattle.edit_paths.specs.Answers.{Certifies, ChoosesFirst, ChoosesLeast, FindsChange, IsBudgetEnough, NoneMeets, ShowsContradiction}

-- What an exact outcome says in the words of the model.

module _ (survey : SurveyParts) (edits : EditsParts) (row : List Value) (budget : ℕ) (is : IsCase (case_of survey edits row)) where
  abbrev c : SearchCase
  c = case_of survey edits row

  pub told-choice : {E : Type 0} (r : Result Outcome E) → IfOk r (λ o. o ≡ outcome_of (case_of survey edits row) budget)
      → IfOk r (ChoosesFirst (case_of survey edits row))
  told-choice (Ok o) exact = λ path weight cert e. change-choice c is budget path weight cert (sym exact ∙ e)
  told-choice (Err x) exact = tt

  pub told-least : {E : Type 0} (r : Result Outcome E) → IfOk r (λ o. o ≡ outcome_of (case_of survey edits row) budget) → IfOk r (ChoosesLeast survey edits row)
  told-least (Ok o) exact = λ path weight cert e same.
      let told = change-choice c is budget path weight cert (sym exact ∙ e) in (
        subst (λ (n : ℕ). IsLeastWeight survey row n) (sym told.1) (choice-least survey edits row is same path told.0),
        choice-first survey edits row is
            same path told.0,
      )
  told-least (Err x) exact = tt

  pub told-tree : {E : Type 0} (r : Result Outcome E) → IfOk r (λ o. o ≡ outcome_of (case_of survey edits row) budget)
      → IfOk r (Certifies (case_of survey edits row))
  told-tree (Ok o) exact = λ path weight cert e given usable are. change-tree c is given usable are budget path weight cert (sym exact ∙ e)
  told-tree (Err x) exact = tt

  pub told-contradictory : {E : Type 0} (r : Result Outcome E) → IfOk r (λ o. o ≡ outcome_of (case_of survey edits row) budget)
      → IfOk r (NoneMeets (case_of survey edits row))
  told-contradictory (Ok o) exact = λ cert e p meets. contradictory c is budget cert (sym exact ∙ e) p meets
  told-contradictory (Err x) exact = tt

  pub told-refuted : {E : Type 0} (r : Result Outcome E) → IfOk r (λ o. o ≡ outcome_of (case_of survey edits row) budget)
      → IfOk r (ShowsContradiction (case_of survey edits row))
  told-refuted (Ok o) exact = λ cert e given usable are. contradiction-tree c is given usable are budget cert (sym exact ∙ e)
  told-refuted (Err x) exact = tt

  pub told-enough : {E : Type 0} (r : Result Outcome E) → IfOk r (λ o. o ≡ outcome_of (case_of survey edits row) budget)
      → IfOk r (IsBudgetEnough (case_of survey edits row) budget)
  told-enough (Ok o) exact = λ fits path work e. enough-budget c budget fits path work (sym exact ∙ e)
  told-enough (Err x) exact = tt

  pub told-found : {E : Type 0} (r : Result Outcome E) → IfOk r (λ o. o ≡ outcome_of (case_of survey edits row) budget)
      → IfOk r (FindsChange (case_of survey edits row) budget)
  told-found (Ok o) exact = λ p meets fits none.
      let (path, weight, cert, e) = always-change c is budget p meets fits (λ path event e. none path event (exact ∙ e)) in (path, weight, cert, exact ∙ e)
  told-found (Err x) exact = tt
