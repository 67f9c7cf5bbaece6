use Rattle.std.proofs.Common.{take}
use Rattle.page_counts.specs.inner.Gifts.{AreAllGifts}
use Rattle.page_counts.proofs.giving.gifts_of.Given as goal

abbrev pub invariant-loop-change : goal.invariant-loop-change
invariant-loop-change l = AreAllGifts l.rows (take l.change-index l.changes) l.gifts.items
