use Rattle.std.proofs.Common.{◌≡◌, take}
use Rattle.std.specs.List.{flat_map}
use Rattle.categ_combine.specs.BoxLists.{reduce_from}
use Rattle.categ_combine.specs.Covers.{row_of}
use Rattle.categ_combine.proofs.cover.with_code.Given as goal

abbrev pub invariant-loop-cover : goal.invariant-loop-cover
invariant-loop-cover l = l.work.next.items ≡ reduce_from (flat_map (row_of l.at.spot.place l.at.spot.whole l.at.code l.boxes) (take l.cover-index l.covers))
