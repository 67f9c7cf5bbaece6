use Rattle.std.proofs.Common.{◌≡◌, length}
use Rattle.proof_calls.proofs.derivations.all_but.Given as goal

abbrev pub invariant-loop-i : goal.invariant-loop-i
invariant-loop-i l = length l.usable.items ≡ l.i
