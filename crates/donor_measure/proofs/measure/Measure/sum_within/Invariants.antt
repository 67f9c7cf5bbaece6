use Rattle.std.proofs.Common.{◌≡◌, ◌≤◌, ◌+◌, ◌*◌, drop}
use Rattle.donor_measure.specs.Distances.{distance, distance_from}
use Rattle.donor_measure.proofs.measure.Measure.sum_within.Given as goal

abbrev pub invariant-loop-field : goal.invariant-loop-field
invariant-loop-field g l = record {
  rest : l.sum + distance_from l.field (drop l.field l.self.yardsticks) l.kept l.a l.b ≡ distance l.self.yardsticks l.kept l.a l.b;
  few : l.sum ≤ l.field * 1000000;
}
