use Rattle.std.proofs.Common.{◌≡◌, take}
use Rattle.std.specs.List.{fold}
use Rattle.categ_combine.specs.BoxLists.{with_from}
use Rattle.categ_combine.specs.Covers.{joined_for}
use Rattle.categ_combine.specs.Each.{each_from}
use Rattle.categ_combine.proofs.cover.take_intersections.Given as goal

abbrev pub invariant-loop-i : goal.invariant-loop-i
invariant-loop-i l =
    l.work.next.items ≡ fold with_from l.initial.work.next.items (each_from (joined_for l.at.spot.place l.at.spot.whole l.at.code l.cover) 0 (take l.i l.boxes))
