use Rattle.std.proofs.Common.{◌≡◌, ◌++◌, drop, string_bytes}
use Rattle.search_bench.specs.inner.Texts.{record_lines, search_text}
use Rattle.search_bench.proofs.search.search_text.Given as goal

abbrev pub invariant-loop-row_no : goal.invariant-loop-row_no
invariant-loop-row_no l = string_bytes l.text ++ record_lines l.survey l.row_no (drop l.row_no l.sheet.rows) ≡ search_text l.survey l.sheet.rows
