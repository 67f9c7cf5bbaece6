use Rattle.std.proofs.Common.{◌≡◌, ◌≢◌, ◌↔◌, ℕ, ◌^◌, ◌==◌, not, Bool, true, false, List, inl, inr, ℤ, pos, ◌+ℤ◌, ◌*ℤ◌, refl, sym, ap, ◌∙◌}
use Rattle.std.proofs.Common.{subst, arith}
use lib.IntN.{neg_ℤ}
use Rattle.std.specs.Int.{bit_at}
use Rattle.std.specs.List.{AllByRecursion}
use Rattle.std.specs.Ordering.{int_eq}
use Rattle.std.proofs.lemmas.Bool.Decides.{Decides-eqb, Decides-int_eq}
use Rattle.std.proofs.lemmas.Nat.Bits.{bit_at-pow_other, bit_at-pow_same}
use Rattle.fraction128.specs.declared.fraction.Fraction.{Fraction}
use Rattle.fraction128.proofs.Whole.{parts, ring, same_dif}
use Rattle.edit_model.specs.Corrections.{differs_from}
use Rattle.edit_model.specs.Points.{Holds, Point, has_code}
use Rattle.edit_model.specs.Rows.{IsRow, value_of}
use Rattle.edit_model.specs.declared.field.Field.{Field}
use Rattle.edit_model.specs.declared.rule.Rule.{Rule}
use Rattle.edit_model.specs.declared.value.Value.{Value}
use Rattle.edit_model.specs.declared.value.Value.TheVariants.{Bad, Code, Number}
use Rattle.edit_line.specs.Reductions.{IsIn}
use Rattle.edit_line.specs.Shapes.{shape_of}
use Rattle.edit_normal.proofs.NormalLaws.{FitsRule}
use Rattle.back_subst.proofs.GivenAlike.{has-code, has-number}
use Rattle.panel_link.specs.Pins.{code_kept, number_kept, value_kept}

-- The rule that a field keeps its value holds at a point exactly where that has the value there.

-- ---- a number

sum-zero : (n d y q : ℤ) → (d *ℤ y +ℤ pos 0) +ℤ neg_ℤ n *ℤ q ≡ pos 0 → y *ℤ d ≡ n *ℤ q
sum-zero n d y q e = apart d y n q ∙ ap (λ (z : ℤ). z +ℤ n *ℤ q) e ∙ from_zero (n *ℤ q)
  where
    apart : (d y n q : ℤ) → y *ℤ d ≡ ((d *ℤ y +ℤ pos 0) +ℤ neg_ℤ n *ℤ q) +ℤ n *ℤ q
    apart d y n q = rw (parts d, parts y, parts n, parts q) (simp ring (same_dif _ _ _ _ (omega arith)))

    from_zero : (z : ℤ) → pos 0 +ℤ z ≡ z
    from_zero z = rw (parts z) (simp ring (same_dif _ _ _ _ (omega arith)))

zero-sum : (n d y q : ℤ) → y *ℤ d ≡ n *ℤ q → (d *ℤ y +ℤ pos 0) +ℤ neg_ℤ n *ℤ q ≡ pos 0
zero-sum n d y q same = turned d y n q ∙ ap (λ (z : ℤ). z +ℤ neg_ℤ (n *ℤ q)) same ∙ gone (n *ℤ q)
  where
    turned : (d y n q : ℤ) → (d *ℤ y +ℤ pos 0) +ℤ neg_ℤ n *ℤ q ≡ y *ℤ d +ℤ neg_ℤ (n *ℤ q)
    turned d y n q = rw (parts d, parts y, parts n, parts q) (simp ring (same_dif _ _ _ _ (omega arith)))

    gone : (z : ℤ) → z +ℤ neg_ℤ z ≡ pos 0
    gone z = rw (parts z) (simp ring (same_dif _ _ _ _ (omega arith)))

undo : (b : Bool) → not b ≡ false → b ≡ true
undo true h = refl
undo false h = absurd (cc)

module _ (p : Point) (f : ℕ) where
  number-kept : (x : Fraction) → Holds (number_kept f x) p ↔ (differs_from (Number x) p f ≡ false)
  number-kept x = (
    λ holds. ap not ((Decides-int_eq _ _).1 (sum-zero x.numerator x.denominator (p.numerator f) p.denominator ((Decides-int_eq _ _).0 holds))),
    λ agrees. (Decides-int_eq _ _).1 (zero-sum x.numerator x.denominator (p.numerator f) p.denominator
        ((Decides-int_eq _ _).0 (undo (int_eq (p.numerator f *ℤ x.denominator) (x.numerator *ℤ p.denominator)) agrees))),
  )

  -- ---- a code

  one-code : (c k : ℕ) → has_code (2 ^ c) k ≡ (c == k)
  one-code c k = by (c == k) refl
    where
      by : (b : Bool) → (c == k) ≡ b → has_code (2 ^ c) k ≡ b
      by true e = ap (λ n. n == 1) (ap (bit_at (2 ^ c)) (sym ((Decides-eqb c k).0 e)) ∙ bit_at-pow_same c)
      by false e = ap (λ n. n == 1) (bit_at-pow_other c k (λ same. cc (sym e ∙ (Decides-eqb c k).1 (sym same))))

  code-kept : (c : ℕ) → Holds (code_kept f c) p ↔ (differs_from (Code c) p f ≡ false)
  code-kept c = (
    λ holds. ap not (sym (one-code c (p.code f)) ∙ holds),
    λ agrees. one-code c (p.code f) ∙ undo (c == p.code f) agrees,
  )

  -- ---- a value

  pub value-kept : (v : Value) → v ≢ Bad → AllByRecursion (λ (rule : Rule). Holds rule p) (value_kept f v) ↔ (differs_from v p f ≡ false)
  value-kept (Number x) some = (λ hold. (number-kept x).0 hold.0, λ agrees. ((number-kept x).1 agrees, tt))
  value-kept (Code c) some = (λ hold. (code-kept c).0 hold.0, λ agrees. ((code-kept c).1 agrees, tt))
  value-kept Bad some = absurd (some refl)

-- such a rule fits the fields of the survey
pub kept-fits : (fields : List Field) (row : List Value) (f : ℕ) (rule : Rule) → IsRow fields row → IsIn rule (value_kept f (value_of row f))
    → FitsRule (shape_of fields) rule.conditions rule.conclusion
kept-fits fields row f rule is there = by (value_of row f) refl there
  where
    by : (v : Value) → value_of row f ≡ v → IsIn rule (value_kept f v) → FitsRule (shape_of fields) rule.conditions rule.conclusion
    by (Number x) e (inl same) =
        subst (λ (r : Rule). FitsRule (shape_of fields) r.conditions r.conclusion) (sym same) (has-number fields row f is x e, refl, tt)
    by (Number x) e (inr none) = absurd none
    by (Code c) e (inl same) = subst (λ (r : Rule). FitsRule (shape_of fields) r.conditions r.conclusion) (sym same) (has-code fields row f is c e)
    by (Code c) e (inr none) = absurd none
    by Bad e none = absurd none
