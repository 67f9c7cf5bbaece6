use Rattle.std.proofs.Common.{◌≡◌, None, replicate}
use Rattle.donor_book.proofs.indexes.no_replies.Given as goal

abbrev pub invariant-loop : goal.invariant-loop
invariant-loop l = (l.replies.items ≡ replicate l.counter None) × (l.replies.cap ≡ l.initial.replies.cap)
