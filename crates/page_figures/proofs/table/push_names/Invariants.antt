use Rattle.std.proofs.Common.{◌≡◌, drop, map}
use Rattle.page_markup.specs.OpenPages.{added}
use Rattle.page_figures.specs.Tables.{columns_content}
use Rattle.page_figures.proofs.table.push_names.Given as goal

abbrev pub invariant-loop-column : goal.invariant-loop-column
invariant-loop-column l =
    added (columns_content (map (λ w. w.now) (drop l.column-index l.columns))) l.page
    ≡ added (columns_content (map (λ w. w.now) l.columns)) l.initial.page
