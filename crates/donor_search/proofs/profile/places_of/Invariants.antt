use Rattle.std.proofs.Common.{◌≡◌, ◌++◌, drop, length, take}
use Rattle.donor_search.specs.inner.Profiles.{weighed_from}
use Rattle.donor_search.proofs.profile.places_of.Given as goal

abbrev pub invariant-loop-field : goal.invariant-loop-field
invariant-loop-field l = record {
  rest : take l.field l.places ++ weighed_from l.field (drop l.field l.yardsticks) l.kept l.row ≡ weighed_from 0 l.yardsticks l.kept l.row;
  size : length l.places ≡ 64;
}
