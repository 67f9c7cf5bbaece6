-- How many codes a kind of field has.
use Rattle.std.specs.Prelude.{ℕ, length}
use Rattle.edit_model.specs.declared.field.Kind.{Kind}
use Rattle.edit_model.specs.declared.field.Kind.TheVariants as kind

-- the number of codes of a kind of field, none where it is numerical
abbrev pub code_count : Kind → ℕ
code_count (kind.Number scale) = 0
code_count (kind.Code codes) = length codes
