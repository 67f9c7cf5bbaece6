use Rattle.std.proofs.Common.{◌≡◌, ◌<◌, ◌^◌, unsigned_abs, refl, ap, ◌∙◌, arith}
use Rattle.std.proofs.lemmas.Int.{ints, to_z_pos, to_z-of_z}
use mir.Syntax.{w128}
use Rattle.fraction128.specs.Divisor.{gcd}
use Rattle.fraction128.proofs.DivisorLaws.{IsGcd-gcd, gcd-below}
use Rattle.fraction128.proofs.divisor.gcd.Goals as goal
use Rattle.fraction128.proofs.divisor.gcd.Goals.{After-gcd_of_sizes}

module _ (c : After-gcd_of_sizes) where
  result_is : c.gcd_of_sizes.result ≡ gcd (unsigned_abs c.args.a) (unsigned_abs c.args.b)
  result_is =
      let a_fits = c.ranges.a in
      let b_fits = c.ranges.b in
      let first = simp to_z-of_z at c.unsigned_abs.ensures.value in
      let second = simp to_z-of_z at c.unsigned_abs-2.ensures.value in
      c.gcd_of_sizes.ensures ∙ ap (λ m. gcd m c.unsigned_abs-2.result) first ∙ ap (λ n. gcd (unsigned_abs c.args.a) n) second

  below : gcd (unsigned_abs c.args.a) (unsigned_abs c.args.b) < 2 ^ 127
  below = gcd-below _ _ _ c.requires.a_in_range c.requires.b_in_range

pub overflow_cast-result : goal.overflow_cast-result
overflow_cast-result c = let small : c.gcd_of_sizes.result < 2 ^ 127 = rw (result_is c) (below c) in omega (arith, ints)

pub returns : goal.returns
returns c = rw (result_is c, to_z_pos w128 (gcd (unsigned_abs c.args.a) (unsigned_abs c.args.b)) (below c)) record {
  value = refl;
  greatest = IsGcd-gcd _ _;
  in_range = below c;
}
