use Rattle.std.proofs.Common.{◌≡◌, ℕ, true, false, List, ap, ◌∙◌}
use Rattle.edit_model.specs.Corrections.{numbers_from}
use Rattle.edit_model.specs.inner.Indexes.{IsKept, is_of_sort}
use Rattle.edit_model.specs.Parts.{survey_of}
use Rattle.edit_model.specs.Surveys.{IsWellFormed}
use Rattle.edit_model.specs.declared.field.Field.{Field}
use Rattle.edit_model.specs.declared.rule.Rule.{Rule}

-- what a survey of well-formed parts keeps, of lists that are seen through a loan
pub kept : (fields declared : List Field) (rules : List Rule) (numbers categories : List ℕ) → declared ≡ fields
    → IsWellFormed (survey_of fields rules)
    → numbers ≡ numbers_from (is_of_sort true) 0 declared → categories ≡ numbers_from (is_of_sort false) 0 declared
    → IsKept (survey_of fields rules) numbers categories
kept fields declared rules numbers categories same well_formed numerical categorical = record {
  well_formed = well_formed;
  numbers_are = numerical ∙ ap (λ (fs : List Field). numbers_from (is_of_sort true) 0 fs) same;
  codes_are = categorical ∙ ap (λ (fs : List Field). numbers_from (is_of_sort false) 0 fs) same;
}
