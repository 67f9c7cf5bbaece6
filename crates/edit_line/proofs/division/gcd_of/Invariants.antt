use Rattle.std.proofs.Common.{◌≡◌, ◌∷◌, pos, take}
use Rattle.fraction128.specs.Range.{InRange}
use Rattle.edit_line.specs.Divisors.{gcd_all}
use Rattle.edit_line.proofs.division.gcd_of.Given as goal

abbrev pub invariant-loop-factor : goal.invariant-loop-factor
invariant-loop-factor l = record {
  value : l.divisor ≡ pos (gcd_all (l.constant ∷ take l.factor-index l.factors));
  in_range : InRange l.divisor;
}
