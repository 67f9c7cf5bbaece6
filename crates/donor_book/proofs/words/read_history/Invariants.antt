use Rattle.std.proofs.Common.{◌≡◌, ◌≤◌, List, length, take}
use Rattle.std.specs.Slots.{slots_items}
use Rattle.donor_book.specs.declared.claim.Won.{Won}
use Rattle.donor_book.specs.inner.Tries.{AreWordsOf}
use Rattle.donor_book.proofs.words.read_history.Given as goal

abbrev pub invariant-loop-i : goal.invariant-loop-i
invariant-loop-i l = (l.history.cap ≡ l.initial.history.cap) × ((h : List Won) → AreWordsOf l.fn.terms (slots_items l.closed.words) h
    → (l.history.items ≡ take l.i h) × (l.i ≤ length h))
