use Rattle.std.proofs.Common.{◌≡◌, ◌≤◌, drop, length}
use Rattle.localise_tree.specs.inner.Knowns.{letters_number}
use Rattle.localise_tree.proofs.known.letters_number.Given as goal

abbrev pub invariant-loop-left : goal.invariant-loop-left
invariant-loop-left l = (l.number ≡ letters_number (drop l.left l.letters)) × (l.left ≤ length l.letters)

abbrev pub decreases-loop-left : goal.decreases-loop-left
decreases-loop-left l = l.left
