use Rattle.std.proofs.Common.{◌≡◌, drop, take, true}
use Rattle.categ_combine.specs.BoxLists.{reduce_from}
use Rattle.categ_combine.specs.inner.Clear.{AllClear}
use Rattle.categ_combine.specs.inner.FitBoxes.{AreBoxes}
use Rattle.categ_combine.specs.Each.{each_from}
use Rattle.categ_combine.specs.Fixing.{fixed_one}
use Rattle.categ_combine.proofs.fixing.fix_at.Given as goal

abbrev pub invariant-loop-i : goal.invariant-loop-i
invariant-loop-i l =
    (l.kept.items ≡ reduce_from (each_from (fixed_one l.by.spot.place l.by.spot.whole l.by.code) 0 (take l.i l.boxes)))
    × AreBoxes (take l.i l.boxes)
    × (l.by.apart ≡ true → AllClear l.by.spot.place l.by.spot.whole l.kept.items (drop l.i l.boxes))
