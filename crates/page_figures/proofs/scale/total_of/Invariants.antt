use Rattle.std.proofs.Common.{◌≡◌, take}
use Rattle.page_figures.specs.Sums.{total_of}
use Rattle.page_figures.proofs.scale.total_of.Given as goal

abbrev pub invariant-loop-part : goal.invariant-loop-part
invariant-loop-part l = l.total ≡ total_of (take l.part-index l.parts)
