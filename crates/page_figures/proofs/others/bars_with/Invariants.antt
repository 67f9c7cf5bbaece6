use Rattle.std.proofs.Common.{◌≡◌, map, take}
use Rattle.page_figures.specs.Drawings.{parts_of}
use Rattle.page_figures.proofs.others.bars_with.Given as goal

abbrev pub invariant-loop-bar : goal.invariant-loop-bar
invariant-loop-bar l = map parts_of l.all.items ≡ map parts_of (take l.bar-index l.bars)
