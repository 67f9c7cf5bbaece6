use Rattle.std.proofs.Common.{Option, [], ◌≡◌, ◌<◌, not, ℕ, Bool, true, false, List, ◌||◌, length, refl, sym, ap, ◌∙◌, arith}
use Rattle.edit_model.specs.Corrections.{Differs, IsFirstLeast, IsLeastWeight, code_fields, differs_from, is_numerical, number_fields, path_order, word_of}
use Rattle.edit_model.specs.FieldSets.{has_number}
use Rattle.edit_model.specs.Parts.{SurveyParts}
use Rattle.edit_model.specs.Points.{Point}
use Rattle.edit_model.specs.Rows.{IsRow, value_of}
use Rattle.edit_model.specs.declared.field.Field.{Field}
use Rattle.edit_model.specs.declared.value.Value.{Value}
use Rattle.edit_model.proofs.OrderLaws.{field-below}
use Rattle.edit_model.proofs.RowLaws.{row-length}
use Rattle.edit_line.specs.Shapes.{has_field}
use Rattle.edit_line.proofs.FieldLists.{has-append}
use Rattle.linear_elim.proofs.PointLaws.{map-agree}
use Rattle.bound_cert.specs.Paths.{path_weight}
use Rattle.bound_cert.proofs.PathLaws.{point-weighs}
use Rattle.back_subst.specs.Allowed.{Completes}
use Rattle.back_subst.specs.Gifts.{path_of}
use Rattle.back_subst.specs.Given.{IsImputed}
use Rattle.record_ends.specs.Said.{IsCorrected}

-- A record with values at a least set of fields is a correction of least weight.

-- a field in path order is one of the fields
order-within : (fields : List Field) (f : ℕ) → has_field (path_order fields) f ≡ true → f < length fields
order-within fields f there = by (has_field (number_fields fields) f) refl (sym (has-append f (number_fields fields) (code_fields fields)) ∙ there)
  where
    by : (b : Bool) → has_field (number_fields fields) f ≡ b → (b || has_field (code_fields fields) f) ≡ true → f < length fields
    by true e h = field-below is_numerical fields f e
    by false e h = field-below (λ k. not (is_numerical k)) fields f h

module _ (survey : SurveyParts) (row new : List Value) (changed : ℕ) (donor : Option (List Value)) (p : Point) (is_row : IsRow survey.fields row)
    (imputed : IsImputed survey row changed donor new)
    (completes : Completes survey new [] p) (differs : (f : ℕ) → has_number changed f ≡ true → Differs row p f) where
  -- the letter of a field is whether the set has it
  letter : (f : ℕ) → f < length survey.fields → differs_from (value_of row f) p f ≡ has_number changed f
  letter f below = by (has_number changed f) refl
    where
      by : (b : Bool) → has_number changed f ≡ b → differs_from (value_of row f) p f ≡ b
      by true there = differs f there
      by false out =
          ap (λ (v : Value). differs_from v p f) (sym (imputed.keeps f out))
          ∙ completes.agrees f (omega (arith, below, row-length survey.fields new imputed.fits)) refl

  word-is : word_of survey row p ≡ path_of survey.fields changed
  word-is = map-agree (λ f. differs_from (value_of row f) p f) (has_number changed) (path_order survey.fields)
      (λ f there. letter f (order-within survey.fields f there))

  pub corrected : (path : List Bool) (weight : ℕ) → path_of survey.fields changed ≡ path → weight ≡ path_weight survey.fields path
      → IsLeastWeight survey row weight → IsFirstLeast survey row path → IsCorrected survey row new path weight
  corrected path weight path_is weight_is least first = record {
    point = p;
    correction = completes;
    differs = word-is ∙ path_is;
    weighs = sym (point-weighs survey row p is_row) ∙ ap (path_weight survey.fields) (word-is ∙ path_is) ∙ sym weight_is;
    least = least;
    first = first;
  }
