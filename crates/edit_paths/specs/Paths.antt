use Rattle.std.specs.Prelude.{◌≡◌, ℕ, ◌-◌, ◌==◌, ◌||◌, Bool, true, false, List, IsTrue, length, slice_index_or, take}
use Rattle.std.specs.List.{filter}
use Rattle.edit_model.specs.Corrections.{Differs, path_order}
use Rattle.edit_model.specs.FieldSets.{has_field}
use Rattle.edit_model.specs.Points.{Point}
use Rattle.edit_model.specs.RowPoints.{Agrees}
use Rattle.edit_line.specs.Shapes.{code_fields, number_fields, shape_of}
use Rattle.bound_cert.specs.Paths.{changes, keeps}
use Rattle.edit_paths.specs.Cases.{SearchCase}

-- A path says of the first fields in path order whether each is kept (false) or changed (true).

-- how many fields there are
abbrev pub field_count : SearchCase → ℕ
field_count c = length c.survey.fields

-- how many of them are numerical
abbrev pub number_count : SearchCase → ℕ
number_count c = length (number_fields (shape_of c.survey.fields))

-- whether the path says something of the field
abbrev pub treats : SearchCase → List Bool → ℕ → Bool
treats c path f = keeps c.survey.fields path f || changes c.survey.fields path f

-- the numerical fields that the path changes, in declared order
abbrev pub changed_numbers : SearchCase → List Bool → List ℕ
changed_numbers c path = filter (changes c.survey.fields path) (number_fields (shape_of c.survey.fields))

-- the categorical fields of which it says something, in declared order
abbrev pub treated_codes : SearchCase → List Bool → List ℕ
treated_codes c path = filter (treats c path) (code_fields (shape_of c.survey.fields))

-- whether it says something of all fields
abbrev pub is_complete : SearchCase → List Bool → Bool
is_complete c path = length path == field_count c

-- the path before its last letter
abbrev pub before_last : List Bool → List Bool
before_last path = take (length path - 1) path

-- whether its last letter says changed
abbrev pub last_letter : List Bool → Bool
last_letter path = slice_index_or path (length path - 1) false

-- the field of its last letter
abbrev pub last_field : SearchCase → List Bool → ℕ
last_field c path = slice_index_or (path_order c.survey.fields) (length path - 1) 0

-- the point has the record's value at each field that the path keeps
abbrev pub AgreesAlong : SearchCase → List Bool → Point → Type 0
AgreesAlong c path p =
    (f : ℕ) → IsTrue (has_field (path_order c.survey.fields) f) → keeps c.survey.fields path f ≡ true → Agrees c.row p f

-- the point differs from the record only at fields that the path changes
abbrev pub DiffersOnlyOn : SearchCase → List Bool → Point → Type 0
DiffersOnlyOn c path p =
    (f : ℕ) → IsTrue (has_field (path_order c.survey.fields) f) → Differs c.row p f → changes c.survey.fields path f ≡ true
