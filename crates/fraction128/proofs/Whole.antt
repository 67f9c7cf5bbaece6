use Rattle.std.proofs.Common.{◌≡◌, ℕ, suc, ◌+◌, ◌*◌, ℤ, pos, negsuc, ◌+ℤ◌, ◌-ℤ◌, ◌*ℤ◌, ap, arith}
use Rattle.std.proofs.lemmas.Int.{ints}
use borrow.Author.Differences.{up, down}
use lib.IntN.{neg_ℤ}

-- Identities of sums and products of whole numbers. List the variables once: for example
-- `rw (parts a, parts b) (simp ring (same_dif _ _ _ _ (omega arith)))`.

-- the whole number p - q
unfoldable pub dif : ℕ → ℕ → ℤ
dif p q = pos p -ℤ pos q

-- each whole number is the difference of two natural ones
pub parts : (z : ℤ) → z ≡ dif (up z) (down z)
unfolding dif
parts z = omega (arith, ints)

-- when two differences are the same whole number
pub same_dif : (p q r s : ℕ) → p + s ≡ r + q → dif p q ≡ dif r s
unfolding dif
same_dif p q r s h = omega (arith, ints)

-- the sum of two differences
pub dif-+ : (p q r s : ℕ) → dif p q +ℤ dif r s ≡ dif (p + r) (q + s)
unfolding dif
dif-+ p q r s = omega (arith, ints)

-- the negative of a difference
pub dif_neg : (p q : ℕ) → neg_ℤ (dif p q) ≡ dif q p
unfolding dif
dif_neg p q = omega (arith, ints)

-- what the two parts of a difference are
dif_is : (p q : ℕ) → up (dif p q) + q ≡ down (dif p q) + p
unfolding dif
dif_is p q = omega (arith, ints)

-- the product of two differences
pub dif-* : (p q r s : ℕ) → dif p q *ℤ dif r s ≡ dif (p * r + q * s) (p * s + q * r)
dif-* p q r s =
    omega (
      arith,
      ints,
      dif_is (p * r + q * s) (p * s + q * r),
      ap (λ n. n * up (dif r s)) (dif_is p q),
      ap (λ n. n * down (dif r s)) (dif_is p q),
      ap (λ n. p * n) (dif_is r s),
      ap (λ n. q * n) (dif_is r s),
    )

-- a natural number
pub dif_lit : (n : ℕ) → pos n ≡ dif n 0
unfolding dif
dif_lit n = omega (arith, ints)

-- a number below 0
pub dif_below : (n : ℕ) → negsuc n ≡ dif 0 (suc n)
unfolding dif
dif_below n = omega (arith, ints)

pub ruleset ring = (dif_lit, dif_below, dif-*, dif-+, dif_neg)

-- ---- the laws that are cited often
pub comm : (a b : ℤ) → a *ℤ b ≡ b *ℤ a
comm a b = rw (parts a, parts b) (simp ring (same_dif _ _ _ _ (omega arith)))

pub assoc : (a b c : ℤ) → a *ℤ b *ℤ c ≡ a *ℤ (b *ℤ c)
assoc a b c = rw (parts a, parts b, parts c) (simp ring (same_dif _ _ _ _ (omega arith)))

-- the last two factors change places
pub swap_last : (a b c : ℤ) → a *ℤ b *ℤ c ≡ a *ℤ c *ℤ b
swap_last a b c = rw (parts a, parts b, parts c) (simp ring (same_dif _ _ _ _ (omega arith)))
