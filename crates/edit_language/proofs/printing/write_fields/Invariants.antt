use Rattle.std.proofs.Common.{◌≡◌, ◌++◌, take}
use Rattle.edit_language.specs.Printing.{field_lines}
use Rattle.edit_language.proofs.printing.write_fields.Given as goal

abbrev pub invariant-loop-field : goal.invariant-loop-field
invariant-loop-field l = l.text.items ≡ l.fn.text.items ++ field_lines (take l.field-index l.fields)
