use Rattle.std.proofs.Common.{◌≡◌, take}
use Rattle.page_counts.specs.Columns.{column_of}
use Rattle.page_counts.proofs.columns.column.Given as goal

abbrev pub invariant-loop-number : goal.invariant-loop-number
invariant-loop-number l = l.values.items ≡ column_of l.sheet.rows l.field (take l.number-index l.numbers)
