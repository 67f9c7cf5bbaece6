use Rattle.std.proofs.Common.{◌≡◌, map, take}
use Rattle.page_figures.specs.Drawings.{parts_of}
use Rattle.page_figures.specs.Figures.{sum_at}
use Rattle.page_figures.proofs.others.sum_at.Given as goal

abbrev pub invariant-loop-bar : goal.invariant-loop-bar
invariant-loop-bar l = l.sum ≡ sum_at l.place (map parts_of (take l.bar-index l.bars))
