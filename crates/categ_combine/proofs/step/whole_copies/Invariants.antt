use Rattle.std.proofs.Common.{◌≡◌, take}
use Rattle.categ_combine.specs.inner.FitBoxes.{AreBoxes}
use Rattle.categ_combine.specs.Covers.{unchanged_one}
use Rattle.categ_combine.specs.Each.{each_from}
use Rattle.categ_combine.proofs.step.whole_copies.Given as goal

abbrev pub invariant-loop-i : goal.invariant-loop-i
invariant-loop-i l = (l.whole.items ≡ each_from (unchanged_one l.spot.place l.spot.whole) 0 (take l.i l.boxes)) × AreBoxes (take l.i l.boxes)
