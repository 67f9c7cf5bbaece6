use Rattle.std.proofs.Common.{◌≡◌, ◌<◌, not, ℕ, Bool, true, List, ◌∷◌, inl, inr, Option, length, reverse, refl, sym, ◌∙◌, subst}
use Rattle.std.specs.List.{filter}
use Rattle.std.proofs.lemmas.Bool.Decides.{Decides-ltb}
use Rattle.std.proofs.lemmas.Option.{slice_get_within}
use Rattle.edit_model.specs.Corrections.{code_fields, is_numerical, number_fields, numbers_from}
use Rattle.edit_model.specs.FieldSets.{has_field, has_number}
use Rattle.edit_model.specs.Parts.{SurveyParts}
use Rattle.edit_model.specs.declared.field.Field.{Field}
use Rattle.edit_model.specs.declared.field.Kind.{Kind}
use Rattle.edit_model.specs.declared.value.Value.{Value}
use Rattle.edit_model.proofs.OrderLaws.{field-below}
use Rattle.edit_line.specs.EditSets.{EditsParts}
use Rattle.edit_line.specs.Reductions.{IsIn}
use Rattle.edit_line.proofs.FieldLists.{there-has}
use Rattle.edit_line.proofs.Members.{in-either, in-right}
use Rattle.bound_cert.specs.declared.outcome.GiftFault.{GiftFault}
use Rattle.bound_cert.specs.declared.outcome.GiftFault.TheVariants as gift
use Rattle.back_subst.specs.Given.{giving_order}
use Rattle.back_subst.proofs.OrderLaws.{has-filtered}
use Rattle.back_subst.proofs.WalkLaws.{has-reverse}
use Rattle.record_ends.specs.Ends.{StopsAt}
use Rattle.cert_check.specs.RowChecks.{gift_exists}

-- A giving stops at a field or a rule that is there.

-- a changed field of one kind is one of the fields
kind-below : (fields : List Field) (changed f : ℕ) (test : Kind → Bool) → has_field (reverse (filter (has_number changed) (numbers_from test 0 fields))) f
    ≡ true → f < length fields
kind-below fields changed f test there = field-below test fields f (has-filtered (has_number changed) (numbers_from test 0 fields) f
    (sym (has-reverse f (filter (has_number changed) (numbers_from test 0 fields))) ∙ there)).0

-- so is a field that is given a value
order-below : (fields : List Field) (changed f : ℕ) → IsIn f (giving_order fields changed) → f < length fields
order-below fields changed f there =
    elim (in-either f (reverse (filter (has_number changed) (code_fields fields))) (reverse (filter (has_number changed) (number_fields fields))) there) [
      | inl code ↦ kind-below fields changed f (λ k. not (is_numerical k)) (there-has f _ code)
      | inr number ↦ kind-below fields changed f is_numerical (there-has f _ number)
    ]

pub stop-there : (survey : SurveyParts) (edits : EditsParts) (row : List Value) (changed : ℕ) (donor : Option (List Value)) (stop : GiftFault)
    → StopsAt survey edits row changed donor stop → gift_exists survey stop ≡ true
stop-there survey edits row changed donor (gift.Bound field line) stops =
    let there : IsIn field (giving_order survey.fields changed) = subst (λ (fs : List ℕ). IsIn field fs) (sym stops.order)
    (in-right field stops.given (field ∷ stops.left) (inl refl)) in
    (Decides-ltb field (length survey.fields)).1 (order-below survey.fields changed field there)
stop-there survey edits row changed donor (gift.Test rule) stops = (Decides-ltb rule (length survey.rules)).1
    (slice_get_within survey.rules rule stops.first.tested stops.first.there)
