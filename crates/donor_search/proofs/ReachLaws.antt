use Rattle.std.proofs.Common.{◌≡◌, ◌⊎◌, inl, inr, ℕ, zero, suc, ◌-◌, ◌<◌, ◌≤◌, Bool, true, false, cond, List, [], ◌∷◌, length, take, Some, slice_get, ap, sym}
use Rattle.std.proofs.Common.{◌∙◌, subst, arith}
use Rattle.std.specs.List.{AllByRecursion}
use Rattle.donor_search.specs.Rankings.{IsInOrder, placed}
use Rattle.donor_search.specs.declared.candidate.Candidate.{Candidate}
use Rattle.donor_search.specs.inner.Candidates.{IsOpenOrReaches, Reaches, is_before}
use Rattle.donor_search.proofs.OrderLaws.{none_farther}
use Rattle.donor_search.proofs.RankingLaws.{placed-cons}

-- How far the nearest candidates reach.

-- as far as one of them
pub reaches_at : (xs : List Candidate) (k : ℕ) (x : Candidate) → Some x ≡ slice_get xs k → Reaches x.distance xs
reaches_at [] k x at = absurd (cc)
reaches_at (y ∷ ys) zero x at = let same : x ≡ y = cc in inl (rw same (omega arith))
reaches_at (y ∷ ys) (suc k) x at = inr (reaches_at ys k x at)

pub reaches_less : (a b : ℕ) (xs : List Candidate) → a ≤ b → Reaches b xs → Reaches a xs
reaches_less a b [] le far = far
reaches_less a b (x ∷ xs) le (inl here) = inl (omega (arith, le, here))
reaches_less a b (x ∷ xs) le (inr there) = inr (reaches_less a b xs le there)

none_left : (far : ℕ) (ys : List Candidate) → length ys ≤ 0 → Reaches far ys → ⊥
none_left far [] few there = there
none_left far (y ∷ ys) few there = absurd (omega (arith, few))

-- a candidate that is at least so far is put among the nearest, or one stays that is
reaches_placed : (far near : ℕ) (x : Candidate) (ys : List Candidate) → 1 ≤ near → far ≤ x.distance → length ys ≤ near → (length ys < near) ⊎ Reaches far ys
    → Reaches far (take near (placed is_before x ys))
reaches_placed far zero x ys some at few room = absurd (omega (arith, some))
reaches_placed far (suc n) x [] some at few room = inl at
reaches_placed far (suc n) x (y ∷ ys) some at few room =
    subst (λ (zs : List Candidate). Reaches far (take (suc n) zs)) (sym (placed-cons is_before x y ys))
    (by (is_before x y) (rest n (λ some' room'. reaches_placed far n x ys some' at (omega (arith, few)) room') room few))
  where
    rest : (n : ℕ) → (1 ≤ n → (length ys < n) ⊎ Reaches far ys → Reaches far (take n (placed is_before x ys)))
        → (length (y ∷ ys) < suc n) ⊎ Reaches far (y ∷ ys) → length (y ∷ ys) ≤ suc n
        → (far ≤ y.distance) ⊎ Reaches far (take n (placed is_before x ys))
    rest n later (inr (inl here)) few = inl here
    rest zero later (inr (inr there)) few = absurd (none_left far ys (omega (arith, few)) there)
    rest zero later (inl more) few = absurd (omega (arith, more))
    rest (suc n) later (inr (inr there)) few = inr (later (omega arith) (inr there))
    rest (suc n) later (inl more) few = inr (later (omega arith) (inl (omega (arith, more))))

    by : (b : Bool) → (far ≤ y.distance) ⊎ Reaches far (take n (placed is_before x ys))
        → Reaches far (take (suc n) (cond b (x ∷ y ∷ ys) (y ∷ placed is_before x ys)))
    by true later = inl at
    by false later = later

pub reaches_more : (far near : ℕ) (x : Candidate) (ys zs : List Candidate) → far ≤ x.distance → length ys ≤ near → IsOpenOrReaches near far ys
    → zs ≡ take near (placed is_before x ys) → IsOpenOrReaches near far zs
reaches_more far near x ys zs at few room is some = inr (subst (Reaches far) (sym is) (reaches_placed far near x ys some at few (room some)))

-- in a list in order none is farther than the last
pub last_reaches : (far : ℕ) (xs : List Candidate) (last : Candidate) → IsInOrder is_before xs → Some last ≡ slice_get xs (length xs - 1) → Reaches far xs
    → far ≤ last.distance
last_reaches far [] last is at reaches = absurd reaches
last_reaches far (x ∷ xs) last is at reaches =
    let place : length (x ∷ xs) - 1 ≡ length xs = omega arith in
    among (x ∷ xs) (none_farther x last xs is (at ∙ ap (λ n. slice_get (x ∷ xs) n) place)) reaches
  where
    among : (ys : List Candidate) → AllByRecursion (λ (z : Candidate). z.distance ≤ last.distance) ys → Reaches far ys → far ≤ last.distance
    among [] all reaches = absurd reaches
    among (y ∷ ys) all (inl here) = omega (arith, here, all.0)
    among (y ∷ ys) all (inr there) = among ys all.1 there
