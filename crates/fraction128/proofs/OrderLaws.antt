use Rattle.std.proofs.Common.{◌≡◌, ℕ, suc, ℤ, ◌<ℤ◌, ◌<◌, ◌+◌, ◌*◌, ◌/◌, ◌%◌, refl, sym, ap, ◌∙◌, ◌⊎◌, inl, inr, arith}
use Rattle.std.specs.declared.cmp.Ordering.{Ordering}
use Rattle.std.specs.declared.cmp.Ordering.TheVariants.{Less, Equal, Greater}
use Rattle.std.specs.Ordering.{nat_cmp, int_cmp, MatchOrdering}
use Rattle.std.specs.Cmp.{nat_cmp_is, int_cmp_is}
use Rattle.std.proofs.lemmas.Cmp.{ranked, int_ranked}
use Rattle.std.proofs.Math.Nat.{div-add-mod, lt-mul-div-succ, mul-div-le, mul_comm, mul-le-mul_left, mul-le-mul_right}

-- two pairs are in the same order where each answer of the first is one of the second
pub nat_cmp-same : (m n p q : ℕ) → (m < n → p < q) → (m ≡ n → p ≡ q) → (n < m → q < p) → nat_cmp m n ≡ nat_cmp p q
nat_cmp-same m n p q less equal greater = nat_cmp_is p q (nat_cmp m n) (carried (nat_cmp m n) (ranked m n (nat_cmp m n) refl))
  where
    carried : (r : Ordering) → MatchOrdering r (m < n) (m ≡ n) (n < m) → MatchOrdering r (p < q) (p ≡ q) (q < p)
    carried Less h = less h
    carried Equal h = equal h
    carried Greater h = greater h

-- the same of whole numbers with a sign
pub int_cmp-same : (m n p q : ℤ) → (m <ℤ n → p <ℤ q) → (m ≡ n → p ≡ q) → (n <ℤ m → q <ℤ p) → int_cmp m n ≡ int_cmp p q
int_cmp-same m n p q less equal greater = int_cmp_is p q (int_cmp m n) (carried (int_cmp m n) (int_ranked m n (int_cmp m n) refl))
  where
    carried : (r : Ordering) → MatchOrdering r (m <ℤ n) (m ≡ n) (n <ℤ m) → MatchOrdering r (p <ℤ q) (p ≡ q) (q <ℤ p)
    carried Less h = less h
    carried Equal h = equal h
    carried Greater h = greater h

-- ---- a/b and c/d, by the cross products

-- the fraction with the less whole part is less
less_by_wholes : (a b c d : ℕ) → 0 < b → 0 < d → a / b < c / d → a * d < c * b
less_by_wholes a b c d p q h =
    omega (
      arith,
      mul-le-mul_right {m = suc a} {n = b * (a / b + 1)} d (lt-mul-div-succ a p),
      mul-le-mul_left {m = suc (a / b)} {n = c / d} (b * d) h,
      mul-le-mul_left b (mul-div-le c d),
    )

-- over one denominator the numerators decide
pub nat_cmp-over : (a b c d : ℕ) → 0 < b → b ≡ d → nat_cmp a c ≡ nat_cmp (a * d) (c * b)
nat_cmp-over a b c d p e =
    rw (← e) (nat_cmp-same a c (a * b) (c * b) (λ h. grind (arith, h)) (λ h. ap (λ n. n * b) h) (λ h. grind (arith, h)))

-- where the whole parts differ, they decide
pub nat_cmp-wholes : (a b c d : ℕ) → 0 < b → 0 < d → ¬ (a / b ≡ c / d) → nat_cmp (a / b) (c / d) ≡ nat_cmp (a * d) (c * b)
nat_cmp-wholes a b c d p q apart =
    nat_cmp-same _ _ _ _ (less_by_wholes a b c d p q) (λ e. absurd (apart e)) (less_by_wholes c d a b q p)

-- where they are equal, the remainders decide
pub nat_cmp-rests : (a b c d : ℕ) → a / b ≡ c / d → nat_cmp (a % b * d) (c % d * b) ≡ nat_cmp (a * d) (c * b)
nat_cmp-rests a b c d e =
    let first = ap (λ n. n * d) (div-add-mod a b) in
    let second = ap (λ n. n * b) (div-add-mod c d) in
    let same = ap (λ n. b * d * n) e in
    nat_cmp-same (a % b * d) (c % d * b) (a * d) (c * b) (λ h. omega arith) (λ h. omega arith) (λ h. omega arith)

-- and where one of them is 0, they decide alone
pub nat_cmp-end : (r s b d : ℕ) → 0 < b → 0 < d → (r ≡ 0) ⊎ (s ≡ 0) → nat_cmp r s ≡ nat_cmp (r * d) (s * b)
nat_cmp-end r s b d p q (inl e) =
    nat_cmp-same r s (r * d) (s * b)
    (λ h. omega (arith, mul-le-mul_left s p, ap (λ n. n * d) e))
    (λ h. omega (arith, ap (λ n. n * d) e, ap (λ n. n * b) (sym h ∙ e)))
    (λ h. absurd (omega arith))
nat_cmp-end r s b d p q (inr e) =
    nat_cmp-same r s (r * d) (s * b)
    (λ h. absurd (omega arith))
    (λ h. omega (arith, ap (λ n. n * b) e, ap (λ n. n * d) (h ∙ e)))
    (λ h. omega (arith, mul-le-mul_left r q, ap (λ n. n * b) e))

-- else the fractions are turned upside down
pub nat_cmp-turned : (a b c d : ℕ) → a / b ≡ c / d → nat_cmp (d * (a % b)) (b * (c % d)) ≡ nat_cmp (a * d) (c * b)
nat_cmp-turned a b c d e = ap (λ m. nat_cmp m (b * (c % d))) (mul_comm d (a % b)) ∙ ap (nat_cmp (a % b * d)) (mul_comm b (c % d)) ∙ nat_cmp-rests a b c d e
