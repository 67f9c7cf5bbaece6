use Rattle.std.proofs.Common.{◌≡◌, ◌++◌, map, take}
use Rattle.std.specs.List.{flat_map}
use Rattle.class_books.specs.Histories.{joined}
use Rattle.record_workers.specs.inner.Gatherings.{entry_by, unanswered}
use Rattle.record_workers.proofs.history.history_of.Given as goal

abbrev pub invariant-loop-wins : goal.invariant-loop-wins
invariant-loop-wins l = l.history.items ≡ flat_map (λ h. map (entry_by l.pieces) h.items) (take l.wins-index l.wins-items)

abbrev pub invariant-loop-piece : goal.invariant-loop-piece
invariant-loop-piece l = l.history.items
    ≡ map (entry_by l.pieces) (joined (take l.last (map (λ h. h.items) l.histories))) ++ unanswered l.last (take l.piece-index l.pieces)
