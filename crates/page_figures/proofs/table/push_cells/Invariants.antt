use Rattle.std.proofs.Common.{◌≡◌, drop, map}
use Rattle.page_markup.specs.OpenPages.{added}
use Rattle.page_figures.specs.Tables.{cells_content, entry_of}
use Rattle.page_figures.proofs.table.push_cells.Given as goal

abbrev pub invariant-loop-cell : goal.invariant-loop-cell
invariant-loop-cell l =
    added (cells_content (map entry_of (drop l.cell-index l.rest))) l.page
    ≡ added (cells_content (map entry_of l.rest)) l.initial.page
