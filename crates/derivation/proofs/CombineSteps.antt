use Rattle.std.proofs.Common.{◌≡◌, ◌&&◌, ℕ, true, Option, Some, None, ℤ, pos, ◌<ℤ◌, int_lt, is_none, sym, ap, ◌∙◌}
use Rattle.edit_line.specs.Combinations.{all_meet, divides, first_overflow, may_combine, may_multiply, numbers, sum_of}
use Rattle.edit_line.specs.Divisors.{divided_by}
use Rattle.edit_line.specs.Lines.{LineParts}
use Rattle.edit_line.specs.declared.relation.Relation.TheVariants.{Above}
use Rattle.edit_line.proofs.Enough.{is_enough-Decides}
use Rattle.edit_line.proofs.BoolLaws.{both_true}
use Rattle.derivation.specs.ValidSteps.{combined_line, only_if}
use Rattle.derivation.specs.declared.proved.Proved.TheVariants as proved

-- The tests of a combination, one after the other.

module _ (m n g : ℤ) (s t : LineParts) (allowed : (may_multiply s.relation m && (may_multiply t.relation n && int_lt (pos 0) g)) ≡ true) where
  -- the divisor is above 0
  pub above-divisor : pos 0 <ℤ g
  above-divisor = (is_enough-Decides Above g).0 (both_true (may_multiply t.relation n) (int_lt (pos 0) g)
      (both_true (may_multiply s.relation m) (may_multiply t.relation n && int_lt (pos 0) g) allowed).1).1

  -- what is left to test, where the lines meet
  left-over : all_meet s.sets t.sets ≡ true → may_combine m n g s t ≡ (is_none (first_overflow 0 m n (numbers s) (numbers t)) && divides g (sum_of m n s t))
  left-over meet =
      let (first, later) = both_true (may_multiply s.relation m) (may_multiply t.relation n && int_lt (pos 0) g) allowed in
      let (second, last) = both_true (may_multiply t.relation n) (int_lt (pos 0) g) later in
      λ i. first i && (second i && (last i && (meet i && (is_none (first_overflow 0 m n (numbers s) (numbers t)) && divides g (sum_of m n s t)))))

  -- a number out of range
  pub overflowing : all_meet s.sets t.sets ≡ true → (place : ℕ) → first_overflow 0 m n (numbers s) (numbers t) ≡ Some place → None ≡ combined_line m n g s t
  overflowing meet place out =
      ap (λ b. only_if b (proved.Line (divided_by g (sum_of m n s t))))
      (sym (left-over meet ∙ ap (λ (o : Option ℕ). is_none o && divides g (sum_of m n s t)) out))

  -- and none
  pub in-range : all_meet s.sets t.sets ≡ true → first_overflow 0 m n (numbers s) (numbers t) ≡ None
      → only_if (divides g (sum_of m n s t)) (proved.Line (divided_by g (sum_of m n s t))) ≡ combined_line m n g s t
  in-range meet fits = ap (λ b. only_if b (proved.Line (divided_by g (sum_of m n s t))))
      (sym (left-over meet ∙ ap (λ (o : Option ℕ). is_none o && divides g (sum_of m n s t)) fits))
