use Rattle.std.proofs.Common.{take}
use Rattle.donor_book.proofs.ReplayLaws.{HasRead}
use Rattle.donor_book.proofs.replay.first_illegal.Given as goal

abbrev pub invariant-loop-place : goal.invariant-loop-place
invariant-loop-place l = HasRead l.limit l.donors l.rows (take l.place l.claims) l.uses.items l.replies.items
