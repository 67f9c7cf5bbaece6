use Rattle.std.proofs.Common.{◌≡◌, ◌+◌, [], length}
use Rattle.std.specs.List.{All}
use Rattle.donor_book.specs.Passes.{IsFresh}
use Rattle.donor_book.proofs.shared.SharedBook.share.Given as goal

abbrev pub invariant-loop : goal.invariant-loop
invariant-loop l =
    (length l.all.items + 1 ≡ l.counter)
    × (l.all.cap ≡ l.initial.all.cap)
    × All (IsFresh record { table = l.table.shared.table_id; terms = l.terms }) l.all.items
    × (l.first.table_id ≡ l.table.shared.table_id)
    × (l.first.me.1 ≡ [])
    × (l.first.me.0.terms ≡ l.terms)
    × (l.first.me.0.seen ≡ [])
    × (l.first.me.0.mine ≡ [])
    × (l.first.me.0.heard ≡ [])
    × (l.first.me.0.passes + l.counter ≡ l.passes + 1)
