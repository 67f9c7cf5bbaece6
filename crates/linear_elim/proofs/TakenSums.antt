use Rattle.std.proofs.Common.{List, None, length, pos, refl, subst, sym, ℕ, ℤ, ◌*ℤ◌, ◌≡◌}
use Rattle.edit_line.specs.Combinations.{first_overflow, numbers, sum_of}
use Rattle.edit_line.proofs.AllowedSums.{IsAllowedSum}
use Rattle.edit_line.specs.Divisors.{reduced}
use Rattle.edit_line.specs.Lines.{LineParts, factor}
use Rattle.fraction128.specs.Range.{InRange}
use Rattle.edit_line.specs.Shapes.{Domain, beside, number_fields}
use Rattle.edit_line.proofs.RelationLaws.{keeps-may}
use Rattle.edit_line.proofs.TakenCombinations.{divides-divisor, allowed-may, may-allowed}
use Rattle.linear_elim.specs.Combinations.{combination, first_multiplier, second_multiplier}
use Rattle.linear_elim.specs.Origins.{IsTakenSum}
use Rattle.linear_elim.proofs.MultiplierRanges.{factor-ranged, products-beside}
use Rattle.linear_elim.proofs.PairLaws.{IsAllowedPair, above_stands, combination-is, combination_divisor, first-apart, second-above}

-- The combinations that a step makes may be taken, and those that may be taken are allowed sums.

-- the combination of a pair may be taken, where it does not leave the range
pub combination-taken : (s t : LineParts) (f : ℕ) → t.shape ≡ s.shape → length s.factors ≡ length t.factors → IsAllowedPair f s t
    → first_overflow 0 (first_multiplier s t f) (second_multiplier s t f) (numbers s) (numbers t) ≡ None
    → IsTakenSum (first_multiplier s t f) (second_multiplier s t f) (combination_divisor s t f) s t (combination s t f)
unfolding reduced
combination-taken s t f same count pair fits =
    let sum = combination-is s t f same pair in
    let (first, second) = products-beside 0 (first_multiplier s t f) (second_multiplier s t f) s.constant t.constant (number_fields s.shape) s.factors
    t.factors f count fits in
    let own : InRange (second_multiplier s t f *ℤ factor t f) =
    subst (λ (d : List Domain). InRange (second_multiplier s t f *ℤ beside (pos 0) (number_fields d) t.factors f)) (sym same) second in
    let m_may = keeps-may s.relation (first_multiplier s t f) pair.first_keeps
    (factor-ranged (first_multiplier s t f) (factor s f) pair.first_stands first) (first-apart s t f pair.second_stands) in
    let n_may = keeps-may t.relation (second_multiplier s t f) pair.second_keeps
    (factor-ranged (second_multiplier s t f) (factor t f) pair.second_stands own)
    (above_stands (second_multiplier s t f) (second-above s t f pair.first_stands)) in
    record {
      same = same;
      may = allowed-may _ _ _ s t m_may n_may sum.g_above pair.meet fits (divides-divisor (sum_of (first_multiplier s t f) (second_multiplier s t f) s t));
      line_is = refl;
    }

-- a combination that may be taken is an allowed sum
pub taken-allowed : (m n g : ℤ) (s t line : LineParts) → IsTakenSum m n g s t line → IsAllowedSum m n g s t line
taken-allowed m n g s t line is = subst (λ (l : LineParts). IsAllowedSum m n g s t l) (sym is.line_is) (may-allowed m n g s t is.same is.may)
