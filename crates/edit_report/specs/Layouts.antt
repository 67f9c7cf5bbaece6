-- Where the fields stand in the rows of a file.
use Rattle.std.specs.Prelude.{◌≡◌, ◌==◌, ℕ, List, Option, length, position}
use Rattle.edit_model.specs.declared.field.Field.{Field}

-- the number of the field that stands in a column, if one does
abbrev pub field_in : List ℕ → ℕ → Option ℕ
field_in columns column = position (λ c. c == column) columns

-- how many columns the rows have, and the column of each field
pub record LayoutParts : Type 0 where
  pub width : ℕ
  pub columns : List ℕ

-- each field has a column; one whose column is past those of the rows does not stand in them
pub record IsLayout (fields : List Field) (layout : LayoutParts) : Type 0 where
  pub one_each : length layout.columns ≡ length fields
