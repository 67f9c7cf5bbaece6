use Rattle.std.proofs.Common.{◌≤◌}
use Rattle.donor_search.specs.inner.Passings.{AreFar}
use Rattle.donor_search.proofs.passing.pass_downward.Given as goal

abbrev pub invariant-loop-place : goal.invariant-loop-place
invariant-loop-place g l = record {
  upto : l.place ≤ l.end;
  far : AreFar l.passing l.place l.end;
}

abbrev pub decreases-loop-place : goal.decreases-loop-place
decreases-loop-place g l = l.place
