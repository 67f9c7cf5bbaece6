use Rattle.std.proofs.Common.{◌≡◌, drop, map}
use Rattle.page_markup.specs.OpenPages.{added}
use Rattle.page_figures.specs.Tables.{entry_of, rows_content}
use Rattle.page_figures.proofs.table.push_rows.Given as goal

abbrev pub invariant-loop-row : goal.invariant-loop-row
invariant-loop-row l =
    added (rows_content (map (λ r. map entry_of r.items) (drop l.row-index l.rows))) l.page
    ≡ added (rows_content (map (λ r. map entry_of r.items) l.rows)) l.initial.page
