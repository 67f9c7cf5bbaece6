use Rattle.std.proofs.Common.{◌≡◌, map, take}
use Rattle.panel_files.specs.Joined.{key_of}
use Rattle.panel_files.specs.inner.KeyRows.{row_in}
use Rattle.panel_files.proofs.keys.KeyTable.rows_for.Given as goal

abbrev pub invariant-loop-row_no : goal.invariant-loop-row_no
invariant-loop-row_no l = l.rows.items ≡ map (λ texts. row_in l.self (key_of l.column texts)) (take l.row_no l.sheet.row_texts)
