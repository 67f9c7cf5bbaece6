use Rattle.std.proofs.Common.{◌≡◌, length}
use Rattle.record_text.proofs.RowsRead.{IsReadTo}
use Rattle.record_text.proofs.row_texts.read_row_texts.Given as goal

abbrev pub invariant-loop-row_no : goal.invariant-loop-row_no
invariant-loop-row_no l = IsReadTo l.most l.width l.fn.reader l.reader l.row_texts.items × (length l.row_texts.items ≡ l.row_no)
