use Rattle.std.proofs.Common.{◌≡◌, ◌≤◌, ◌+◌, length, map, take}
use Rattle.donor_search.specs.inner.Candidates.{candidate_of, is_before}
use Rattle.donor_search.specs.inner.Searches.{far_in}
use Rattle.donor_search.specs.Rankings.{in_order}
use Rattle.donor_search.proofs.nearest.scan.Given as goal

abbrev pub invariant-loop-donor : goal.invariant-loop-donor
invariant-loop-donor g l = record {
  ranked : l.nearest.items ≡ take l.search.near (in_order is_before (map (candidate_of (far_in l.search)) (take l.donor-index l.donor-items)));
  few : length l.nearest.items ≤ l.search.near;
  most : l.steps ≤ l.fn.steps + l.donor-index;
}
