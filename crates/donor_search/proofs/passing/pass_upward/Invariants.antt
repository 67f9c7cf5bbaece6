use Rattle.std.proofs.Common.{◌≤◌, ◌-◌, length}
use Rattle.donor_search.specs.inner.Passings.{AreFar, slots_of}
use Rattle.donor_search.proofs.passing.pass_upward.Given as goal

abbrev pub invariant-loop-place : goal.invariant-loop-place
invariant-loop-place g l = record {
  from : l.start ≤ l.place;
  upto : l.place ≤ l.end;
  within : l.end ≤ length (slots_of l.passing);
  far : AreFar l.passing l.start l.place;
}

abbrev pub decreases-loop-place : goal.decreases-loop-place
decreases-loop-place g l = l.end - l.place
