use Rattle.std.proofs.Common.{◌≡◌, ℕ, zero, suc, ◌+◌, ◌<◌, ◌≤◌, ◌&&◌, not, nat_eq, ◌^◌, unsigned_abs, Bool, true, false, if◌then◌else◌, List, [], ◌∷◌, ◌++◌}
use Rattle.std.proofs.Common.{get_or, length, drop, take, slice_set, bit_and, Option, Some, None, ℤ, pos, ◌+ℤ◌, ◌*ℤ◌, refl, sym, ap, ◌∙◌, subst, append_assoc}
use Rattle.std.proofs.Common.{arith, add-one}
use Rattle.std.proofs.Math.Seq.{drop-cons}
use Rattle.std.proofs.lemmas.List.{drop_all}
use Rattle.std.proofs.lemmas.Bool.Decides.{Decides-ltb}
use Rattle.fraction128.specs.Range.{InRange}
use Rattle.edit_line.proofs.SetLaws.{both_true}
use Rattle.edit_line.specs.Combinations.{all_meet, combined, first_overflow, in_range, in_both, sum_fits}

-- Two lists, number by number or set by set.

-- a sum of two products is formed where both products and it are in range
pub sum-formed : (m n a b x y : ℤ) (first second sum : Option ℤ) → first ≡ (if in_range (m *ℤ a) then Some (m *ℤ a) else None) → first ≡ Some x
    → second ≡ (if in_range (n *ℤ b) then Some (n *ℤ b) else None) → second ≡ Some y → sum ≡ (if in_range (x +ℤ y) then Some (x +ℤ y) else None)
    → sum ≡ (if sum_fits m n a b then Some (m *ℤ a +ℤ n *ℤ b) else None)
sum-formed m n a b x y first second sum first_is is second_is also sum_is = by (in_range (m *ℤ a)) (in_range (n *ℤ b)) (m *ℤ a) (n *ℤ b) (sym first_is ∙ is)
    (sym second_is ∙ also)
  where
    by : (p q : Bool) (u v : ℤ) → (if p then Some u else None) ≡ Some x → (if q then Some v else None) ≡ Some y → sum
        ≡ (if p && (q && in_range (u +ℤ v)) then Some (u +ℤ v) else None)
    by true true u v h k = let hx : u ≡ x = cc in let ky : v ≡ y = cc in rw (hx, ky) sum_is
    by true false u v h k = absurd (cc)
    by false q u v h k = absurd (cc)

-- and is not where one of the products is not
pub unformed-first : (p q : Bool) (u z : ℤ) → (if p then Some u else None) ≡ None → None ≡ (if p && q then Some z else None)
unformed-first true q u z out = absurd (cc)
unformed-first false q u z out = refl

pub unformed-second : (p q r : Bool) (u z : ℤ) → (if q then Some u else None) ≡ None → None ≡ (if p && (q && r) then Some z else None)
unformed-second true true r u z out = absurd (cc)
unformed-second true false r u z out = refl
unformed-second false q r u z out = refl

-- where it is formed it is in range
pub fits-sum : (m n a b : ℤ) → sum_fits m n a b ≡ true → InRange (m *ℤ a +ℤ n *ℤ b)
fits-sum m n a b fits = (Decides-ltb (unsigned_abs (m *ℤ a +ℤ n *ℤ b)) (2 ^ 127)).0 (both_true _ _ (both_true _ _ fits).1).1

-- ---- from one place on

-- what is written up to a place, and the number there
written-next : {X : Type 0} (xs : List X) (i : ℕ) (z : X) → i < length xs → take (suc i) (slice_set xs i z) ≡ take i xs ++ z ∷ []
written-next [] i z below = absurd (omega arith)
written-next (x ∷ xs) zero z below = refl
written-next (x ∷ xs) (suc i) z below = ap (λ ys. x ∷ ys) (written-next xs i z (omega arith))

pub written-more : {X : Type 0} (xs : List X) (i : ℕ) (z : X) → i < length xs → take (i + 1) (slice_set xs i z) ≡ take i xs ++ z ∷ []
written-more xs i z below = rw (add-one) (written-next xs i z below)

module _ (m n : ℤ) (first second : List ℤ) (same : length first ≡ length second) where
  pub combined-at : (i : ℕ) → i < length first → combined m n (drop i first) (drop i second) ≡ (m *ℤ get_or first i (pos 0) +ℤ n *ℤ get_or second i (pos 0))
      ∷ combined m n (drop (i + 1) first) (drop (i + 1) second)
  combined-at i below =
      rw (add-one) (ap (λ xs. combined m n xs (drop i second)) (drop-cons first i (pos 0) below)
      ∙ ap (λ ys. combined m n (get_or first i (pos 0) ∷ drop (suc i) first) ys) (drop-cons second i (pos 0) (omega (arith, same))))

  pub overflow-at : (i : ℕ) → i < length first → first_overflow i m n (drop i first) (drop i second)
      ≡ (if sum_fits m n (get_or first i (pos 0)) (get_or second i (pos 0)) then first_overflow (i + 1) m n (drop (i + 1) first) (drop (i + 1) second) else Some
      i)
  overflow-at i below =
      rw (add-one) (ap (λ xs. first_overflow i m n xs (drop i second)) (drop-cons first i (pos 0) below)
      ∙ ap (λ ys. first_overflow i m n (get_or first i (pos 0) ∷ drop (suc i) first) ys) (drop-cons second i (pos 0) (omega (arith, same))))

  -- a number that is not formed is the first overflow
  pub overflow-there : (i : ℕ) (sum : Option ℤ) → i < length first
      → sum ≡ (if sum_fits m n (get_or first i (pos 0)) (get_or second i (pos 0)) then Some (m *ℤ get_or first i (pos 0) +ℤ n *ℤ get_or second i (pos 0)) else
      None) → sum ≡ None
      → first_overflow i m n (drop i first) (drop i second) ≡ first_overflow 0 m n first second → Some i ≡ first_overflow 0 m n first second
  overflow-there i sum below is none before = sym (by (sum_fits m n (get_or first i (pos 0)) (get_or second i (pos 0))) _ _ (sym is ∙ none))
      ∙ sym (overflow-at i below) ∙ before
    where
      by : (b : Bool) (z : ℤ) (rest : Option ℕ) → (if b then Some z else None) ≡ None → (if b then rest else Some i) ≡ Some i
      by true z rest h = absurd (cc)
      by false z rest h = refl

  -- with a number that is formed, what is written and what is left give the whole
  pub combined-more : (i : ℕ) (sum : Option ℤ) (z : ℤ) (sums : List ℤ) → i < length first → length first ≡ length sums
      → sum ≡ (if sum_fits m n (get_or first i (pos 0)) (get_or second i (pos 0)) then Some (m *ℤ get_or first i (pos 0) +ℤ n *ℤ get_or second i (pos 0)) else
      None) → sum ≡ Some z
      → take i sums ++ combined m n (drop i first) (drop i second) ≡ combined m n first second
      → first_overflow i m n (drop i first) (drop i second) ≡ first_overflow 0 m n first second
      → (take (i + 1) (slice_set sums i z) ++ combined m n (drop (i + 1) first) (drop (i + 1) second) ≡ combined m n first second)
      × (first_overflow (i + 1) m n (drop (i + 1) first) (drop (i + 1) second) ≡ first_overflow 0 m n first second) × InRange z
  combined-more i sum z sums below many is some before none =
      let formed = by (sum_fits m n (get_or first i (pos 0)) (get_or second i (pos 0))) _ refl (sym is ∙ some) in (
        ap (λ ys. ys ++ combined m n (drop (i + 1) first) (drop (i + 1) second)) (written-more sums i z (omega (arith, many)))
            ∙ append_assoc (take i sums) (z ∷ []) _
            ∙ ap (λ ys. take i sums ++ ys) (sym (combined-at i below ∙ ap (λ y. y ∷ combined m n (drop (i + 1) first) (drop (i + 1) second)) formed.1))
            ∙ before,
        sym (overflow-at i below ∙ ap (λ b. if b then first_overflow (i + 1) m n (drop (i + 1) first) (drop (i + 1) second) else Some i) formed.0) ∙ none,
        subst InRange formed.1 (fits-sum m n (get_or first i (pos 0)) (get_or second i (pos 0)) formed.0),
      )
    where
      by : (b : Bool) (y : ℤ) → y ≡ y → (if b then Some y else None) ≡ Some z → (b ≡ true) × (y ≡ z)
      by true y e h = (refl, cc)
      by false y e h = absurd (cc)

  pub combined-end : (i : ℕ) → length first ≤ i → combined m n (drop i first) (drop i second) ≡ []
  combined-end i past = ap (λ xs. combined m n xs (drop i second)) (drop_all i first past)
      ∙ ap (λ ys. combined m n [] ys) (drop_all i second (omega (arith, same)))

  pub overflow-end : (i : ℕ) → length first ≤ i → first_overflow i m n (drop i first) (drop i second) ≡ None
  overflow-end i past = ap (λ xs. first_overflow i m n xs (drop i second)) (drop_all i first past)

module _ (first second : List ℕ) (same : length first ≡ length second) where
  pub meets-at : (i : ℕ) → i < length first → in_both (drop i first) (drop i second) ≡ bit_and (get_or first i 0) (get_or second i 0)
      ∷ in_both (drop (i + 1) first) (drop (i + 1) second)
  meets-at i below =
      rw (add-one) (ap (λ xs. in_both xs (drop i second)) (drop-cons first i 0 below) ∙ ap (λ ys. in_both (get_or first i 0 ∷ drop (suc i) first) ys)
      (drop-cons second i 0 (omega (arith, same))))

  -- with a set that is written, what is written and what is left give the whole
  pub meets-more : (i : ℕ) (sets : List ℕ) → i < length first → length first ≡ length sets → take i sets ++ in_both (drop i first) (drop i second)
      ≡ in_both first second
      → take (i + 1) (slice_set sets i (bit_and (get_or first i 0) (get_or second i 0))) ++ in_both (drop (i + 1) first) (drop (i + 1) second)
      ≡ in_both first second
  meets-more i sets below many before =
      ap (λ ys. ys ++ in_both (drop (i + 1) first) (drop (i + 1) second)) (written-more sets i _ (omega (arith, many))) ∙ append_assoc (take i sets) _ _
      ∙ ap (λ ys. take i sets ++ ys) (sym (meets-at i below)) ∙ before

  pub meets-end : (i : ℕ) → length first ≤ i → in_both (drop i first) (drop i second) ≡ []
  meets-end i past = ap (λ xs. in_both xs (drop i second)) (drop_all i first past) ∙ ap (λ ys. in_both [] ys) (drop_all i second (omega (arith, same)))

  pub all_meet-at : (i : ℕ) → i < length first → all_meet (drop i first) (drop i second)
      ≡ (not (nat_eq (bit_and (get_or first i 0) (get_or second i 0)) 0) && all_meet (drop (i + 1) first) (drop (i + 1) second))
  all_meet-at i below =
      rw (add-one) (ap (λ xs. all_meet xs (drop i second)) (drop-cons first i 0 below) ∙ ap (λ ys. all_meet (get_or first i 0 ∷ drop (suc i) first) ys)
      (drop-cons second i 0 (omega (arith, same))))

  pub all_meet-end : (i : ℕ) → length first ≤ i → all_meet (drop i first) (drop i second) ≡ true
  all_meet-end i past = ap (λ xs. all_meet xs (drop i second)) (drop_all i first past)
