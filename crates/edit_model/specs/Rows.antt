use Rattle.std.specs.Prelude.{ℕ, ◌<◌, Bool, true, false, List, [], ◌∷◌, length, slice_index_or}
use Rattle.edit_model.specs.declared.field.Field.{Field}
use Rattle.edit_model.specs.declared.field.Kind.{Kind}
use Rattle.edit_model.specs.declared.field.Kind.TheVariants as kind
use Rattle.edit_model.specs.declared.value.Value.{Value}
use Rattle.edit_model.specs.declared.value.Value.TheVariants.{Code, Number, Bad}

-- whether a field of this kind may hold the value
abbrev pub IsOfKind : Kind → Value → Type 0
IsOfKind k Bad = Unit {0}
IsOfKind (kind.Number scale) (Number x) = Unit {0}
IsOfKind (kind.Code codes) (Code c) = c < length codes
IsOfKind k v = ⊥

-- a record of the survey: one value for each field, of its kind or Bad
abbrev pub IsRow : List Field → List Value → Type 0
IsRow [] [] = Unit {0}
IsRow (field ∷ fields) (v ∷ values) = IsOfKind field.kind v × IsRow fields values
IsRow _ _ = ⊥

-- the record's value at a field, Bad past the end
abbrev pub value_of : List Value → ℕ → Value
value_of row i = slice_index_or row i Bad

-- whether there is no value
abbrev pub is_bad : Value → Bool
is_bad Bad = true
is_bad (Code c) = false
is_bad (Number x) = false
