use Rattle.std.specs.Prelude.{ℕ, ◌&&◌, not, Bool, List, if◌then◌else◌, slice_index_or}
use Rattle.edit_model.specs.Corrections.{path_order}
use Rattle.edit_model.specs.FieldSets.{with_number}
use Rattle.edit_model.specs.Rows.{is_bad, value_of}
use Rattle.edit_model.specs.declared.field.Field.{Field}
use Rattle.edit_model.specs.declared.value.Value.{Value}

-- the field at a place of the path order
abbrev pub field_at : List Field → ℕ → ℕ
field_at fields place = slice_index_or (path_order fields) place 0

-- whether the field at a place of the path order is kept, and has a value
abbrev pub keeps_value : List Field → List Value → ℕ → Bool → Bool
keeps_value fields row place changed = not changed && not (is_bad (value_of row (field_at fields place)))

-- the set with the field at a place of the path order, if it is kept and has a value
abbrev pub with_kept : ℕ → List Field → List Value → ℕ → Bool → ℕ
with_kept set fields row place changed = if keeps_value fields row place changed then with_number set (field_at fields place) else set
