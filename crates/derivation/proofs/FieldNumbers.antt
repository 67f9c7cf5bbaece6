use Rattle.std.proofs.Common.{◌≡◌, ℕ, ◌<◌, ◌≤◌, true, not, List, length, ap, ◌∙◌, sym, arith}
use Rattle.edit_model.specs.Corrections as corrections
use Rattle.edit_model.specs.Corrections.{is_numerical}
use Rattle.edit_model.specs.Rows.{IsRow}
use Rattle.edit_model.specs.declared.field.Field.{Field}
use Rattle.edit_model.specs.declared.value.Value.{Value}
use Rattle.edit_model.proofs.OrderLaws.{field-below}
use Rattle.edit_model.proofs.RowLaws as rows
use Rattle.edit_line.specs.Shapes.{code_fields, has_field, shape_of}
use Rattle.edit_line.proofs.ShapeLaws.{code_fields-same}

-- The categorical fields of a shape are a survey's, and have values in a record.

-- a field that is categorical by the shape is one by its kind
by-kind : (fields : List Field) (f : ℕ) → has_field (code_fields (shape_of fields)) f ≡ true → has_field (corrections.code_fields fields) f ≡ true
by-kind fields f there = ap (λ (ns : List ℕ). has_field ns f) (sym (code_fields-same fields)) ∙ there

-- it has a value in a record
pub code-within : (fields : List Field) (row : List Value) (f : ℕ) → IsRow fields row → has_field (code_fields (shape_of fields)) f ≡ true → f < length row
code-within fields row f are there = rows.code-within fields row f are (by-kind fields f there)

-- and its number is below 64 where there are at most 64 fields
pub code-small : (fields : List Field) (f : ℕ) → length fields ≤ 64 → has_field (code_fields (shape_of fields)) f ≡ true → f < 64
code-small fields f few there = let below = field-below (λ k. not (is_numerical k)) fields f (by-kind fields f there) in omega (arith, below)
