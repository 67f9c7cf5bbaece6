use Rattle.std.proofs.Common.{◌≡◌, ◌-◌, length}
use Rattle.donor_book.specs.Passes.{StartsWith}
use Rattle.donor_book.proofs.shared.SharedBook.claim.Given as goal

abbrev pub invariant-loop-reply : goal.invariant-loop-reply
invariant-loop-reply l = (l.pass.book ≡ l.fn.pass.book) × StartsWith l.pass.seen l.fn.pass.seen × (l.pass.mine ≡ l.fn.pass.mine)

abbrev pub decreases-loop-reply : goal.decreases-loop-reply
decreases-loop-reply l = l.self.terms.rows - length l.pass.seen
