-- The field by whose codes records are in imputation classes, as it is asked for by its name.
use Rattle.std.specs.Prelude.{◌≡◌, ℕ, false, List, Option, None, Some, IsSomeAnd, slice_get}
use Rattle.edit_model.specs.Corrections.{is_numerical}
use Rattle.edit_model.specs.declared.field.Field.{Field}

-- a categorical field of this name
pub record IsCategorical (name : List ℕ) (field : Field) : Type 0 where
  pub named : field.name ≡ name
  pub categorical : is_numerical field.kind ≡ false

-- the field of this number is categorical, and has this name
abbrev pub IsClassField : List Field → List ℕ → ℕ → Type 0
IsClassField fields name number = IsSomeAnd (slice_get fields number) (IsCategorical name)

-- some categorical field has this name
abbrev pub HasClass : List Field → List ℕ → Type 0
HasClass fields name = (number : ℕ) × IsClassField fields name number

-- the class field of an edit: there is none where none is asked for, and else it is the one that has the name
abbrev pub IsClassAsked : List Field → Option (List ℕ) → Option ℕ → Type 0
IsClassAsked fields None class_field = class_field ≡ None
IsClassAsked fields (Some name) class_field = IsSomeAnd class_field (IsClassField fields name)
