-- Last fields: what a respondent answered in the last period, beside the answers of this one.
use Rattle.std.specs.Prelude.{◌≡◌, ◌↔◌, ℕ, suc, ◌++◌, Bool, true, if◌then◌else◌, List, [], ◌∷◌, IsSomeAnd, codes, drop, map, slice_get}
use Rattle.edit_model.specs.FieldSets.{has_number}
use Rattle.edit_model.specs.Surveys.{IsName}
use Rattle.edit_model.specs.declared.field.Field.{Field}

-- the name is `last_` and a name, under which the field stands in the file of the last period
abbrev pub IsLastName : List ℕ → List ℕ → Type 0
IsLastName whole name = (whole ≡ codes "last_" ++ name) × IsName name

-- the field is a last field
abbrev pub IsLastField : Field → Type 0
IsLastField field = (name : List ℕ) × IsLastName field.name name

-- the set has just the last fields
abbrev pub AreLastFields : List Field → ℕ → Type 0
AreLastFields fields set = (f : ℕ) → has_number set f ≡ true ↔ IsSomeAnd (slice_get fields f) IsLastField

-- ---- the fields of either file

-- whether each of the fields, from number f on, is in the set
abbrev pub flags_from : ℕ → ℕ → List Field → List Bool
flags_from set f [] = []
flags_from set f (field ∷ fields) = has_number set f ∷ flags_from set (suc f) fields

-- whether each of the fields is in the set
abbrev pub flags_of : ℕ → List Field → List Bool
flags_of set fields = flags_from set 0 fields

-- the elements whose flag is set, in order
abbrev pub flagged : {A : Type 0} → List Bool → List A → List A
flagged (flag ∷ flags) (x ∷ xs) = if flag then x ∷ flagged flags xs else flagged flags xs
flagged _ _ = []

-- the elements whose flag is not set, in order
abbrev pub unflagged : {A : Type 0} → List Bool → List A → List A
unflagged (flag ∷ flags) (x ∷ xs) = if flag then unflagged flags xs else x ∷ unflagged flags xs
unflagged _ _ = []

-- a last field as it stands in the file of the last period: without the five letters of `last_` in front of its name
abbrev pub under_last_name : Field → Field
under_last_name field = record { name = drop 5 field.name; weight = field.weight; kind = field.kind }

-- the fields that the file of the records has, where those of the set are the last fields
abbrev pub own_fields : List Field → ℕ → List Field
own_fields fields set = unflagged (flags_of set fields) fields

-- the fields that the file of the last period has
abbrev pub last_fields : List Field → ℕ → List Field
last_fields fields set = map under_last_name (flagged (flags_of set fields) fields)
