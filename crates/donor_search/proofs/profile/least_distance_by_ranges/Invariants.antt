use Rattle.std.proofs.Common.{◌≡◌, ◌≤◌, ◌+◌, ◌*◌, drop}
use Rattle.donor_search.specs.inner.Profiles.{told_by_ranges}
use Rattle.donor_search.proofs.profile.least_distance_by_ranges.Given as goal

abbrev pub invariant-loop-i : goal.invariant-loop-i
invariant-loop-i l = record {
  rest : l.sum + told_by_ranges (drop l.i l.own) (drop l.i l.ranges) ≡ told_by_ranges l.own l.ranges;
  few : l.sum ≤ l.i * 1000000;
}
