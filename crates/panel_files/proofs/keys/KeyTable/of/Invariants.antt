use Rattle.panel_files.proofs.KeyLaws.{IsTableTo}
use Rattle.panel_files.proofs.keys.KeyTable.of.Given as goal

abbrev pub invariant-loop-row_no : goal.invariant-loop-row_no
invariant-loop-row_no l = IsTableTo l.column l.sheet.row_texts l.row_no l.table
