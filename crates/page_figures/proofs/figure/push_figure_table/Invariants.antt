use Rattle.std.proofs.Common.{◌≡◌, map, take}
use Rattle.page_figures.specs.Tables.{entry_of}
use Rattle.page_figures.specs.Drawings.{parts_of}
use Rattle.page_figures.specs.Figures.{entries_of}
use Rattle.page_figures.proofs.figure.push_figure_table.Given as goal

abbrev pub invariant-loop-bar : goal.invariant-loop-bar
invariant-loop-bar l =
    map (λ r. map entry_of r.items) l.rows.items ≡ map (entries_of l.totals) (map parts_of (take l.bar-index l.bars))
