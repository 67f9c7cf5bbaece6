use Rattle.std.proofs.Common.{◌≡◌, ◌++◌, All, drop, length, take}
use Rattle.fraction128.specs.Range.{InRange}
use Rattle.edit_line.specs.Combinations.{combined, first_overflow}
use Rattle.edit_line.proofs.line_sum.write_sums.Given as goal

abbrev pub invariant-loop-i : goal.invariant-loop-i
invariant-loop-i l = record {
  sums : take l.i l.sums.items ++ combined l.m l.n (drop l.i l.first) (drop l.i l.second) ≡ combined l.m l.n l.first l.second;
  place : first_overflow l.i l.m l.n (drop l.i l.first) (drop l.i l.second) ≡ first_overflow 0 l.m l.n l.first l.second;
  in_range : All InRange l.sums.items;
  count : length l.sums.items ≡ length l.first;
}
