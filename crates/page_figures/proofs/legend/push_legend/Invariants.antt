use Rattle.std.proofs.Common.{◌≡◌, drop, map}
use Rattle.page_markup.specs.OpenPages.{added}
use Rattle.page_figures.specs.Drawings.{keys_content}
use Rattle.page_figures.proofs.legend.push_legend.Given as goal

abbrev pub invariant-loop-name : goal.invariant-loop-name
invariant-loop-name l =
    added (keys_content l.colour (map (λ w. w.now) (drop l.name-index l.series))) l.page
    ≡ added (keys_content l.initial.colour (map (λ w. w.now) l.series)) l.initial.page
