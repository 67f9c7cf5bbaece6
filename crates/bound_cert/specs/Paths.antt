use Rattle.std.specs.Prelude.{ℕ, ◌+◌, ◌&&◌, not, Bool, true, false, List, [], ◌∷◌, codes, map, slice_index_or}
use Rattle.std.specs.Fmt.{decimal}
use Rattle.std.specs.List.{filter, list_any, sum_by}
use Rattle.edit_model.specs.Corrections.{path_order}
use Rattle.edit_model.specs.FieldSets.{set_of}
use Rattle.edit_model.specs.Rows.{is_bad, value_of}
use Rattle.edit_model.specs.Words.{weight_at}
use Rattle.edit_model.specs.declared.field.Field.{Field}
use Rattle.edit_model.specs.declared.value.Value.{Value}
use Rattle.edit_line.specs.Shapes.{place_in}

-- A path says of the first fields in path order, numerical before categorical, whether each is kept (false) or changed (true).

-- the field's place in path order
abbrev pub path_place : List Field → ℕ → ℕ
path_place fields f = place_in (path_order fields) f

-- the path changes the field
abbrev pub changes : List Field → List Bool → ℕ → Bool
changes fields path f = slice_index_or path (path_place fields f) false

-- the path keeps the field
abbrev pub keeps : List Field → List Bool → ℕ → Bool
keeps fields path f = not (slice_index_or path (path_place fields f) true)

-- what the path weighs: the sum of the weights of the fields that it changes
abbrev pub path_weight : List Field → List Bool → ℕ
path_weight fields path = sum_by (weight_at fields) (filter (changes fields path) (path_order fields))

-- whether the path keeps a field at which the record has no value
abbrev pub keeps_bad : List Field → List Value → List Bool → Bool
keeps_bad fields row path = list_any (λ f. keeps fields path f && is_bad (value_of row f)) (path_order fields)

-- the set of the fields that the path keeps and at which the record has a value
abbrev pub kept_set : List Field → List Value → List Bool → ℕ
kept_set fields row path = set_of (filter (λ f. keeps fields path f && not (is_bad (value_of row f))) (path_order fields))

-- K for a kept field, C for a changed one
abbrev pub letter : Bool → ℕ
letter false = 75
letter true = 67

-- the text of a path: its letters, or a stroke (-) where it has none
abbrev pub path_text : List Bool → List ℕ
path_text [] = codes "-"
path_text (first ∷ rest) = map letter (first ∷ rest)

-- the text of a number that counts from 0, where it is told from 1 on
abbrev pub named : ℕ → List ℕ
named i = decimal (i + 1)
