use Rattle.std.proofs.Common.{◌≡◌, drop, map}
use Rattle.page_markup.specs.OpenPages.{added}
use Rattle.page_figures.specs.Drawings.{bars_below, parts_of}
use Rattle.page_figures.proofs.bars.push_bars_below.Given as goal

abbrev pub invariant-loop-bar : goal.invariant-loop-bar
invariant-loop-bar l =
    added (bars_below l.greatest l.y (map parts_of (drop l.bar-index l.bars))) l.page
    ≡ added (bars_below l.greatest l.initial.y (map parts_of l.bars)) l.initial.page
