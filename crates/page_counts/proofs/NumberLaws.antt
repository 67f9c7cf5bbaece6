use Rattle.std.proofs.Common.{◌≡◌, ◌⊎◌, inl, inr, List, [], ◌∷◌, ◌++◌, Option, Some, None, Contains, MatchOption, subst, sym, ℤ, ◌*ℤ◌, ◌≤ℤ◌, arith}
use Rattle.std.proofs.lemmas.List.Elements.{Contains-append_left, Contains-push, Contains-push_cases}
use Rattle.std.proofs.lemmas.Int.{ints}
use Rattle.fraction128.proofs.FractionOrder.{cross_at_most-trans}
use Rattle.fraction128.specs.declared.fraction.Fraction.{Fraction}
use Rattle.edit_model.specs.declared.value.Value.{Value}
use Rattle.edit_model.specs.declared.value.Value.TheVariants.{Number}
use Rattle.page_counts.specs.Numbers.{HaveNoNumber, IsAtLeast, IsAtMost, IsFirstBy}

-- The first of some numbers by an order, and of one more.

-- ---- the two orders

pub IsAtMost-itself : (x : Fraction) → IsAtMost x x
IsAtMost-itself x = same (x.numerator *ℤ x.denominator)
  where
    same : (z : ℤ) → z ≤ℤ z
    same z = omega (arith, ints)

pub IsAtMost-trans : (x y z : Fraction) → IsAtMost x y → IsAtMost y z → IsAtMost x z
IsAtMost-trans x y z p q = cross_at_most-trans _ _ _ _ _ _ x.positive y.positive z.positive p q

pub IsAtLeast-itself : (x : Fraction) → IsAtLeast x x
IsAtLeast-itself x = IsAtMost-itself x

pub IsAtLeast-trans : (x y z : Fraction) → IsAtLeast x y → IsAtLeast y z → IsAtLeast x z
IsAtLeast-trans x y z p q = IsAtMost-trans z y x q p

-- ---- one number more

number_same : (x y : Fraction) → Number x ≡ Number y → x ≡ y
number_same x y same = cc

module _ (order : Fraction → Fraction → Type 0) (itself : (x : Fraction) → order x x) (trans : (x y z : Fraction) → order x y → order y z → order x z)
    (values : List Value) where
  -- of a first number
  pub first_alone : (y : Fraction) → HaveNoNumber values → IsFirstBy order (values ++ Number y ∷ []) y
  first_alone y none = record {
    among = Contains-push values (Number y);
    first = λ z there. elim (Contains-push_cases values (Number y) (Number z) there) [
      | inl before ↦ absurd (none z before)
      | inr same ↦ subst (λ (w : Fraction). order y w) (number_same y z same) (itself y)
    ];
  }

  -- of a number more
  pub first_of_both : (x y z : Fraction) → IsFirstBy order values x → (z ≡ x) ⊎ (z ≡ y) → order z x → order z y → IsFirstBy order (values ++ Number y ∷ []) z
  first_of_both x y z is one x_after y_after = record {
    among = elim one [
      | inl old ↦ subst (λ (w : Fraction). Contains (values ++ Number y ∷ []) (Number w)) (sym old) (Contains-append_left values (Number y ∷ [])
          (Number x) is.among)
      | inr new ↦ subst (λ (w : Fraction). Contains (values ++ Number y ∷ []) (Number w)) (sym new) (Contains-push values (Number y))
    ];
    first = λ w there. elim (Contains-push_cases values (Number y) (Number w) there) [
      | inl before ↦ trans z x w x_after (is.first w before)
      | inr same ↦ subst (λ (v : Fraction). order z v) (number_same y w same) y_after
    ];
  }

  -- of a value more that is no number
  pub first_beside : (v : Value) → ((x : Fraction) → v ≡ Number x → ⊥) → (o : Option Fraction) → MatchOption o (HaveNoNumber values) (IsFirstBy order values)
      → MatchOption o (HaveNoNumber (values ++ v ∷ [])) (IsFirstBy order (values ++ v ∷ []))
  first_beside v other None none = λ x there. elim (Contains-push_cases values v (Number x) there) [ inl before ↦ none x before | inr same ↦ other x same ]
  first_beside v other (Some x) is = record {
    among = Contains-append_left values (v ∷ []) (Number x) is.among;
    first = λ y there. elim (Contains-push_cases values v (Number y) there) [ inl before ↦ is.first y before | inr same ↦ absurd (other y same) ];
  }
