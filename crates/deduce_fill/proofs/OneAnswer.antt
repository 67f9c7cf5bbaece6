use Rattle.std.proofs.Common.{◌≡◌, inl, inr, ℕ, List, [], ◌∷◌, None, sym, ap, ◌∙◌}
use Rattle.edit_line.specs.EditSets.{EditsParts}
use Rattle.edit_line.specs.Lines.{HaveShape}
use Rattle.edit_line.specs.Shapes.{shape_of}
use Rattle.edit_model.specs.Parts.{SurveyParts}
use Rattle.edit_model.specs.declared.value.Value.{Value}
use Rattle.edit_paths.specs.Cases.{case_of}
use Rattle.edit_paths.proofs.CaseSystems.{start_over}
use Rattle.prefix_walk.specs.PathWalks.{walk_along}
use Rattle.prefix_walk.specs.declared.walk_end.WalkEnd.{WalkEnd}
use Rattle.prefix_walk.specs.declared.walk_end.WalkEnd.TheVariants as walk
use Rattle.back_subst.specs.GiveFaults.{StopsThere}
use Rattle.back_subst.specs.inner.Systems.{start_lines}
use Rattle.back_subst.specs.declared.gift.GiveFault.{GiveFault}
use Rattle.back_subst.proofs.FaultLaws.{no-fault, one-gift}
use Rattle.back_subst.proofs.GivenAlike.{first-all}
use Rattle.back_subst.specs.Given.{giving_order, target_of}
use Rattle.deduce_fill.specs.Filled.{IsCandidate, IsFilled, IsFilledAfter, IsFilledWith, filled_from}
use Rattle.deduce_fill.specs.Laws.{IsRuleCase}
use Rattle.deduce_fill.specs.Tests.{bad_fields, bad_set, own_path}
use Rattle.deduce_fill.specs.declared.filled.Filled.{Filled}

-- There is one answer: one candidate alone is given, or the giving stops.

module _ (survey : SurveyParts) (edits : EditsParts) (row : List Value) (is : IsRuleCase survey edits row) where
  over : HaveShape (shape_of survey.fields) (start_lines edits)
  over = start_over (case_of survey edits row) is.case

  one-candidate : (a b : List Value) → IsCandidate survey edits row a → IsCandidate survey edits row b → b ≡ a
  one-candidate a b first second =
      one-gift survey edits row (bad_set survey.fields row) None over a b first.imputed first.computed second.imputed second.computed

  candidate-given : (new : List Value) → IsCandidate survey edits row new → (fault : GiveFault)
      → StopsThere survey edits row (bad_set survey.fields row) None fault → ⊥
  candidate-given new first fault stops =
      no-fault survey edits row (bad_set survey.fields row) None over new first.imputed.fits first.imputed.keeps
      (first-all survey (start_lines edits) (target_of None) new (giving_order survey.fields (bad_set survey.fields row)) first.imputed.given) first.computed
      first.tested fault stops

  one-after : (budget : ℕ) (end : WalkEnd) (answer other : Filled) → IsFilledAfter survey edits row budget end answer
      → IsFilledAfter survey edits row budget end other → other ≡ answer
  one-after budget (walk.Open work) answer other (inl (a, first, told)) (inl (b, second, also)) =
      also ∙ ap (λ (new : List Value). filled_from (case_of survey edits row) new budget 0 work row [] (bad_fields survey.fields row))
      (one-candidate a b first second) ∙ sym told
  one-after budget (walk.Open work) answer other (inl (a, first, told)) (inr (fault, stops, also)) = absurd (candidate-given a first fault stops)
  one-after budget (walk.Open work) answer other (inr (fault, stops, told)) (inl (b, second, also)) = absurd (candidate-given b second fault stops)
  one-after budget (walk.Open work) answer other (inr (fault, stops, told)) (inr (f, s, also)) = also ∙ sym told
  one-after budget (walk.Closed steps work) answer other told also = also ∙ sym told
  one-after budget (walk.Budget work) answer other told also = also ∙ sym told
  one-after budget walk.Overflow answer other told also = also ∙ sym told

  pub one-answer : (budget : ℕ) (answer other : Filled) → IsFilled survey edits row budget answer → IsFilled survey edits row budget other → other ≡ answer
  one-answer budget answer other = by (bad_fields survey.fields row)
    where
      by : (fields : List ℕ) → IsFilledWith survey edits row budget fields answer → IsFilledWith survey edits row budget fields other → other ≡ answer
      by [] told also = also ∙ sym told
      by (f ∷ fields) told also = one-after budget (walk_along (case_of survey edits row) (own_path survey.fields row) budget 0) answer other told also
