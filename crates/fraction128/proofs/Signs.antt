use Rattle.std.proofs.Common.{◌≡◌, ℕ, zero, suc, ◌<◌, ◌*◌, ℤ, pos, negsuc, ◌<ℤ◌, ◌≤ℤ◌, ◌*ℤ◌, ◌-ℤ◌, unsigned_abs, refl, sym, subst, arith}
use Rattle.std.proofs.lemmas.Int.{ints}
use Rattle.fraction128.proofs.Whole.{parts, ring, same_dif, swap_last}
use Rattle.std.proofs.Math.Nat.{mul-le-mul_left}

-- The signs of products of whole numbers, and bounds that a positive factor may be taken from.

-- ---- products

-- the product of two positive numbers is positive
pub above-* : (a b : ℤ) → pos 0 <ℤ a → pos 0 <ℤ b → pos 0 <ℤ (a *ℤ b)
above-* (pos m) (pos n) p q =
    let m_above : 0 < m = omega (arith, ints) in
    let n_above : 0 < n = omega (arith, ints) in
    above (m * n) (omega (arith, mul-le-mul_left m n_above))
  where
    above : (n : ℕ) → 0 < n → pos 0 <ℤ pos n
    above n h = omega (arith, ints)
above-* (negsuc m) b p q = absurd p.lt
above-* (pos m) (negsuc n) p q = absurd q.lt

-- the product of two numbers that are at least 0 is at least 0
pub at_least-* : (a b : ℤ) → pos 0 ≤ℤ a → pos 0 ≤ℤ b → pos 0 ≤ℤ (a *ℤ b)
at_least-* (pos m) (pos n) p q = above (m * n)
  where
    above : (n : ℕ) → pos 0 ≤ℤ pos n
    above n = omega (arith, ints)
at_least-* (negsuc m) b p q = absurd p.le
at_least-* (pos m) (negsuc n) p q = absurd q.le

-- where the product with a positive number is positive, so is the other factor
pub above_cancel : (a b : ℤ) → pos 0 <ℤ b → pos 0 <ℤ (a *ℤ b) → pos 0 <ℤ a
above_cancel (pos zero) b p q = absurd (omega (arith, ints))
above_cancel (pos (suc n)) b p q = omega (arith, ints)
above_cancel (negsuc n) (pos m) p q = absurd (omega (arith, ints))
above_cancel (negsuc n) (negsuc m) p q = absurd p.lt

-- and where it is at least 0, the other factor is at least 0
pub at_least_cancel : (a b : ℤ) → pos 0 <ℤ b → pos 0 ≤ℤ (a *ℤ b) → pos 0 ≤ℤ a
at_least_cancel (pos n) b p q = omega (arith, ints)
at_least_cancel (negsuc n) (pos m) p q = absurd (omega (arith, ints))
at_least_cancel (negsuc n) (negsuc m) p q = absurd p.lt

-- a positive number is its own size
pub positive_size : (z : ℤ) → pos 0 <ℤ z → pos (unsigned_abs z) ≡ z
positive_size (pos n) h = refl
positive_size (negsuc n) h = absurd h.lt

-- ---- orders

-- the difference of two products with one factor
apart : (a b w : ℤ) → (b -ℤ a) *ℤ w ≡ b *ℤ w -ℤ a *ℤ w
apart a b w = rw (parts a, parts b, parts w) (simp ring (same_dif _ _ _ _ (omega arith)))

-- an order as the sign of a difference
above_from_below : (x y : ℤ) → x <ℤ y → pos 0 <ℤ (y -ℤ x)
above_from_below x y h = omega (arith, ints)

below_from_above : (x y : ℤ) → pos 0 <ℤ (y -ℤ x) → x <ℤ y
below_from_above x y h = omega (arith, ints)

at_least_from_at_most : (x y : ℤ) → x ≤ℤ y → pos 0 ≤ℤ (y -ℤ x)
at_least_from_at_most x y h = omega (arith, ints)

at_most_from_at_least : (x y : ℤ) → pos 0 ≤ℤ (y -ℤ x) → x ≤ℤ y
at_most_from_at_least x y h = omega (arith, ints)

-- a positive factor keeps an order
pub below-* : (a b w : ℤ) → pos 0 <ℤ w → a <ℤ b → (a *ℤ w) <ℤ (b *ℤ w)
below-* a b w p h = below_from_above (a *ℤ w) (b *ℤ w) (rw (← apart a b w) (above-* (b -ℤ a) w (above_from_below a b h) p))

-- the same where the two may be equal
pub at_most-* : (a b w : ℤ) → pos 0 <ℤ w → a ≤ℤ b → (a *ℤ w) ≤ℤ (b *ℤ w)
at_most-* a b w p h =
    at_most_from_at_least (a *ℤ w) (b *ℤ w)
    (rw (← apart a b w) (at_least-* (b -ℤ a) w (at_least_from_at_most a b h) (omega (arith, ints))))

-- and cancels from it
pub below_cancel : (a b w : ℤ) → pos 0 <ℤ w → (a *ℤ w) <ℤ (b *ℤ w) → a <ℤ b
below_cancel a b w p h = below_from_above a b (above_cancel (b -ℤ a) w p (rw (apart a b w) (above_from_below (a *ℤ w) (b *ℤ w) h)))

-- the same where the two may be equal
pub at_most_cancel : (a b w : ℤ) → pos 0 <ℤ w → (a *ℤ w) ≤ℤ (b *ℤ w) → a ≤ℤ b
at_most_cancel a b w p h =
    at_most_from_at_least a b (at_least_cancel (b -ℤ a) w p (rw (apart a b w) (at_least_from_at_most (a *ℤ w) (b *ℤ w) h)))

-- and from an equation
pub same_cancel : (a b w : ℤ) → pos 0 <ℤ w → a *ℤ w ≡ b *ℤ w → a ≡ b
same_cancel a b w p e = both (at_most_cancel a b w p (equal (a *ℤ w) (b *ℤ w) e)) (at_most_cancel b a w p (equal (b *ℤ w) (a *ℤ w) (sym e)))
  where
    equal : (x y : ℤ) → x ≡ y → x ≤ℤ y
    equal x y e = omega (arith, ints)

    both : a ≤ℤ b → b ≤ℤ a → a ≡ b
    both p q = omega (arith, ints)

-- ---- bounds: a whole number n that bounds a/u bounds b/v, where a/u and b/v are the same

-- n is at most the value
pub low_carried : (n a b u v : ℤ) → pos 0 <ℤ u → pos 0 <ℤ v → a *ℤ v ≡ b *ℤ u → (n *ℤ u) ≤ℤ a → (n *ℤ v) ≤ℤ b
low_carried n a b u v p q e h =
    at_most_cancel (n *ℤ v) b u p (subst (λ (k : ℤ). (n *ℤ v *ℤ u) ≤ℤ k) e (rw (swap_last n v u) (at_most-* (n *ℤ u) a v q h)))

-- n is at least the value
pub high_carried : (n a b u v : ℤ) → pos 0 <ℤ u → pos 0 <ℤ v → a *ℤ v ≡ b *ℤ u → a ≤ℤ (n *ℤ u) → b ≤ℤ (n *ℤ v)
high_carried n a b u v p q e h =
    at_most_cancel b (n *ℤ v) u p (subst (λ (k : ℤ). k ≤ℤ (n *ℤ v *ℤ u)) e (rw (swap_last n v u) (at_most-* a (n *ℤ u) v q h)))

-- n is below the value
pub strict_low_carried : (n a b u v : ℤ) → pos 0 <ℤ u → pos 0 <ℤ v → a *ℤ v ≡ b *ℤ u → (n *ℤ u) <ℤ a → (n *ℤ v) <ℤ b
strict_low_carried n a b u v p q e h =
    below_cancel (n *ℤ v) b u p (subst (λ (k : ℤ). (n *ℤ v *ℤ u) <ℤ k) e (rw (swap_last n v u) (below-* (n *ℤ u) a v q h)))

-- n is above the value
pub strict_high_carried : (n a b u v : ℤ) → pos 0 <ℤ u → pos 0 <ℤ v → a *ℤ v ≡ b *ℤ u → a <ℤ (n *ℤ u) → b <ℤ (n *ℤ v)
strict_high_carried n a b u v p q e h =
    below_cancel b (n *ℤ v) u p (subst (λ (k : ℤ). k <ℤ (n *ℤ v *ℤ u)) e (rw (swap_last n v u) (below-* a (n *ℤ u) v q h)))
