use Rattle.std.proofs.Common.{◌≡◌, []}
use Rattle.std.specs.List.{All}
use Rattle.donor_book.specs.Passes.{PassState}
use Rattle.donor_book.proofs.Taking.{HasTaken}
use Rattle.donor_book.proofs.shared.SharedBook.close.Given as goal

abbrev pub invariant-loop-pass : goal.invariant-loop-pass
invariant-loop-pass l =
    All (λ (p : PassState). p.book ≡ l.fn.self) l.pass-iterator.rest.items
    × (l.taker.table_id ≡ l.fn.self.table)
    × (l.taker.me.1 ≡ [])
    × HasTaken l.fn.passes.items l.pass-iterator.rest.items l.taker.me.0
