-- An answer's end can be told.
use Rattle.std.proofs.Common.{◌≡◌, ℕ, Bool, true, false, List, inl, inr, length, sym, ap, ◌∙◌, subst, arith}
use Rattle.std.specs.Prelude.{IfOk, Result, Ok, Err}
use Rattle.std.specs.List.{filter}
use Rattle.std.proofs.lemmas.List.{length-map}
use Rattle.foundation.specs.declared.memory.OutOfMemory.{OutOfMemory}
use Rattle.edit_model.specs.Corrections.{path_order}
use Rattle.edit_model.specs.FieldSets.{has_number}
use Rattle.edit_model.specs.Parts.{SurveyParts}
use Rattle.edit_model.specs.declared.value.Value.{Value}
use Rattle.edit_model.proofs.OrderLaws.{order-length}
use Rattle.edit_line.specs.EditSets.{EditsParts}
use Rattle.edit_line.specs.Reductions.{IsIn}
use Rattle.edit_line.proofs.FieldLists.{there-has}
use Rattle.bound_cert.specs.Paths.{changes}
use Rattle.bound_cert.specs.declared.outcome.Outcome.{Outcome}
use Rattle.bound_cert.specs.declared.outcome.Outcome.TheVariants as outcome
use Rattle.bound_cert.proofs.Letters.{filter-agree}
use Rattle.edit_paths.specs.Outcomes.{outcome_of}
use Rattle.edit_paths.proofs.ChoiceLaws.{word-at}
use Rattle.back_subst.specs.declared.gift.Gift.{Gift}
use Rattle.back_subst.specs.declared.gift.How.{How}
use Rattle.edit_report.specs.Ends.{IsEnd, IsGift, changed_fields}
use Rattle.panel_link.specs.Answers.{FollowsOn, IsGiftAlong, IsLinked, IsLinkedWith}
use Rattle.panel_link.specs.Laws.{IsShown, Says}
use Rattle.panel_link.specs.LinkedCorrections.{lacks_value}
use Rattle.panel_link.specs.Pins.{linked_case, linked_edits}
use Rattle.panel_link.specs.declared.linked.Linked.{Linked}
use Rattle.panel_release.specs.PanelReleases.{IsAnswerAmong, end_of}

-- the values that are given along a path can be told
module _ (survey : SurveyParts) (edits : EditsParts) (row : List Value) (path : List Bool) (gift : Gift)
    (given : IsGiftAlong survey edits row path gift) where
  -- the path says something of all fields
  whole : length path ≡ length survey.fields
  whole =
      ap (λ (p : List Bool). length p) (sym given.fields) ∙ length-map (path_order survey.fields) (has_number given.changed)
      ∙ order-length survey.fields

  -- it changes the fields of the set
  changes-is : (f : ℕ) → IsIn f (path_order survey.fields) → has_number given.changed f ≡ changes survey.fields path f
  changes-is f there =
      sym (word-at (has_number given.changed) (path_order survey.fields) f false (there-has f (path_order survey.fields) there))
      ∙ ap (λ (p : List Bool). changes survey.fields p f) given.fields

  hows-many : length gift.how ≡ length (changed_fields survey.fields path)
  hows-many =
      ap (λ (hs : List How). length hs) given.how ∙ length-map (filter (has_number given.changed) (path_order survey.fields)) _
      ∙ ap (λ (fs : List ℕ). length fs)
      (filter-agree (has_number given.changed) (changes survey.fields path) (path_order survey.fields) changes-is)

  gift-told : IsGift survey.fields path gift
  gift-told = record {
    short = omega (arith, whole);
    row = given.imputed.fits;
    how = hows-many;
  }

-- and so can what follows on an outcome
follows-told : (survey : SurveyParts) (edits : EditsParts) (row : List Value) (o : Outcome) (answer : Linked)
    → FollowsOn survey edits row o answer → IsEnd survey.fields (end_of answer)
follows-told survey edits row (outcome.Change path weight cert) answer (inl (gift, given, told)) =
    subst (λ (a : Linked). IsEnd survey.fields (end_of a)) (sym told) (gift-told survey edits row path gift given)
follows-told survey edits row (outcome.Change path weight cert) answer (inr (at, stops, told)) =
    subst (λ (a : Linked). IsEnd survey.fields (end_of a)) (sym told) tt
follows-told survey edits row (outcome.Contradictory cert) answer told =
    subst (λ (a : Linked). IsEnd survey.fields (end_of a)) (sym told) tt
follows-told survey edits row (outcome.Budget path work) answer told =
    subst (λ (a : Linked). IsEnd survey.fields (end_of a)) (sym told) tt
follows-told survey edits row (outcome.Overflow path event) answer told =
    subst (λ (a : Linked). IsEnd survey.fields (end_of a)) (sym told) tt

-- and the answer for a record
pub answer-told : (survey : SurveyParts) (row : List Value) (fixed budget : ℕ) (answer : Linked) → IsLinked survey row fixed budget answer
    → IsEnd survey.fields (end_of answer)
answer-told survey row fixed budget answer = by (lacks_value survey row fixed)
  where
    by : (b : Bool) → IsLinkedWith b survey row fixed budget answer → IsEnd survey.fields (end_of answer)
    by true told = subst (λ (a : Linked). IsEnd survey.fields (end_of a)) (sym told) tt
    by false told = follows-told survey (linked_edits survey row fixed) row (outcome_of (linked_case survey row fixed) budget) answer told

-- what comes of a search for a record is an answer
pub linked-answer : (survey : SurveyParts) (row : List Value) (fixed budget : ℕ) (result : Result Linked OutOfMemory)
    → IfOk result (IsLinked survey row fixed budget) → IfOk result (Says survey row fixed) → IfOk result (IsShown survey row fixed)
    → IfOk result (IsAnswerAmong survey fixed budget row)
linked-answer survey row fixed budget (Ok answer) exact says shown = record { exact = exact; says = says; shown = shown }
linked-answer survey row fixed budget (Err fault) exact says shown = tt
