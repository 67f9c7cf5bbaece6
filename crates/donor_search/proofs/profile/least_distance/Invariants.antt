use Rattle.std.proofs.Common.{◌≡◌, ◌≤◌, ◌+◌, ◌*◌, drop}
use Rattle.donor_search.specs.inner.Profiles.{told}
use Rattle.donor_search.proofs.profile.least_distance.Given as goal

abbrev pub invariant-loop-i : goal.invariant-loop-i
invariant-loop-i l = record {
  rest : l.sum + told (drop l.i l.own) (drop l.i l.marks) ≡ told l.own l.marks;
  few : l.sum ≤ l.i * 1000000;
}
