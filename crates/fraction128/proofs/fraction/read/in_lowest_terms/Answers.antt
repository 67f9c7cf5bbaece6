use Rattle.std.proofs.Common.{◌≡◌, ℤ, pos, unsigned_abs, Some, sym, ap, subst, ◌∙◌, FitsSigned, rules, arith}
use Rattle.std.specs.Int.{IsGcd}
use Rattle.std.proofs.lemmas.Int.{ints, to_z-of_z}
use mir.Syntax.{w128}
use Rattle.fraction128.specs.Divisor.{gcd}
use Rattle.fraction128.proofs.DivisorLaws.{gcd-from_IsGcd}
use Rattle.fraction128.proofs.LowestLaws.{Fraction-same}
use Rattle.fraction128.proofs.fraction.read.in_lowest_terms.Goals as goal
use Rattle.fraction128.proofs.fraction.read.in_lowest_terms.Goals.{else-denominator-gt0-via-then-denominator-gt0+else-gcd-eq1}
use Rattle.fraction128.proofs.fraction.read.in_lowest_terms.Goals.{else-denominator-gt0-via-else-denominator-gt0}

pub from_lowest_terms-requires-clause-coprime : goal.from_lowest_terms-requires-clause-coprime
from_lowest_terms-requires-clause-coprime c =
    let numerator_fits = c.ranges.numerator in
    let denominator_fits = c.ranges.denominator in
    let greatest = simp to_z-of_z at c.gcd.ensures.greatest in
    let gcd_fits : FitsSigned w128 c.gcd.result = search rules in
    let one : c.gcd.result ≡ pos 1 = omega (arith, ints) in
    simp to_z-of_z
    (subst (λ (g : ℤ). IsGcd (unsigned_abs c.args.numerator) (unsigned_abs c.args.denominator) (unsigned_abs g)) one greatest)

pub returns-then-gcd-eq1-clause-found : goal.returns-then-gcd-eq1-clause-found
returns-then-gcd-eq1-clause-found c x p q =
    let numerator_fits = c.ranges.numerator in
    let denominator_fits = c.ranges.denominator in
    let numerator_is = simp to_z-of_z at c.from_lowest_terms.ensures.numerator in
    let denominator_is = simp to_z-of_z at c.from_lowest_terms.ensures.denominator in
    ap Some (Fraction-same c.from_lowest_terms.result x (numerator_is ∙ sym p) (denominator_is ∙ sym q))

pub returns-else-denominator-gt0-clause-found : goal.returns-else-denominator-gt0-clause-found
returns-else-denominator-gt0-clause-found c x p q =
    let numerator_fits = c.ranges.numerator in
    let denominator_fits = c.ranges.denominator in
    elim c.else-denominator-gt0.branch [
      | else-denominator-gt0-via-then-denominator-gt0+else-gcd-eq1 w ↦
          let gcd_fits : FitsSigned w128 w.gcd.result = search rules in
          let value = simp to_z-of_z at w.gcd.ensures.value in
          let coprime = gcd-from_IsGcd _ _ 1 x.reduced in
          let one : w.gcd.result ≡ pos 1 = value ∙ ap pos (ap (λ (n : ℤ). gcd (unsigned_abs n) (unsigned_abs c.args.denominator)) (sym p)
          ∙ ap (λ (n : ℤ). gcd (unsigned_abs x.numerator) (unsigned_abs n)) (sym q) ∙ sym coprime) in
          absurd (omega (arith, ints, w.if-gcd-eq1.false))
      | else-denominator-gt0-via-else-denominator-gt0 w ↦ absurd (omega (arith, ints, x.positive, w.if-denominator-gt0.false))
    ]
