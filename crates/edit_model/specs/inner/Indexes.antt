use Rattle.std.specs.Prelude.{◌≡◌, ℕ, not, Bool, if◌then◌else◌, List, map}
use Rattle.edit_model.specs.Corrections.{code_fields, is_numerical, number_fields}
use Rattle.edit_model.specs.Parts.{SurveyParts}
use Rattle.edit_model.specs.Surveys.{IsWellFormed}
use Rattle.edit_model.specs.declared.field.Field.{Field}
use Rattle.edit_model.specs.declared.field.Kind.{Kind}

-- the fields' names, in declared order
abbrev pub names_of : List Field → List (List ℕ)
names_of fields = map (λ (f : Field). f.name) fields

-- whether the kind is the one that is asked for: numerical, or categorical
abbrev pub is_of_sort : Bool → Kind → Bool
is_of_sort numerical k = if numerical then is_numerical k else not (is_numerical k)

-- what is kept of every survey: it is well formed, and beside its parts stand its fields of each kind
pub record IsKept (survey : SurveyParts) (numbers categories : List ℕ) : Type 0 where
  pub well_formed : IsWellFormed survey
  pub numbers_are : numbers ≡ number_fields survey.fields
  pub codes_are : categories ≡ code_fields survey.fields
