use Rattle.std.proofs.Common.{◌≡◌, inl, inr, ℕ, zero, suc, ◌-◌, ◌<◌, ◌≤◌, ◌==◌, ◌&&◌, ◌||◌, Bool, true, false, cond, nat_lt, List, [], ◌∷◌, ◌++◌, Some}
use Rattle.std.proofs.Common.{slice_get, length, take, refl, sym, ap, ◌∙◌, subst, arith}
use Rattle.std.specs.List.{AllByRecursion, fold}
use Rattle.std.proofs.Math.Seq.{take-append_seam}
use Rattle.std.proofs.lemmas.List.Elements.{Contains-append_left, Contains-append_right, Contains-push}
use Rattle.std.specs.Prelude.{IfOk, Result, Ok, Err}
use Rattle.donor_search.specs.Rankings.{IsAmongFirst, IsInOrder, in_order, is_nearer, placed}
use Rattle.donor_search.specs.declared.candidate.Candidate.{Candidate}
use Rattle.donor_search.specs.inner.Candidates.{candidate_of, is_before}
use Rattle.donor_search.proofs.RankingLaws.{placed-cons}

-- What a ranking is, in other words than how it is made.

pub all_more : {X : Type 0} (P Q : X → Type 0) (xs : List X) → ((x : X) → P x → Q x) → AllByRecursion P xs → AllByRecursion Q xs
all_more P Q [] step all = tt
all_more P Q (x ∷ xs) step all = (step x all.0, all_more P Q xs step all.1)

all_both : {X : Type 0} (P Q R : X → Type 0) (xs : List X) → ((x : X) → P x → Q x → R x) → AllByRecursion P xs → AllByRecursion Q xs → AllByRecursion R xs
all_both P Q R [] step all also = tt
all_both P Q R (x ∷ xs) step all also = (step x all.0 also.0, all_both P Q R xs step all.1 also.1)

pub all_take : {X : Type 0} (P : X → Type 0) (n : ℕ) (xs : List X) → AllByRecursion P xs → AllByRecursion P (take n xs)
all_take P zero xs all = tt
all_take P (suc n) [] all = tt
all_take P (suc n) (x ∷ xs) all = (all.0, all_take P n xs all.1)

module _ {X : Type 0} (before : X → X → Bool) where
  -- what is placed among others, and what is there then
  placed_all : (P : X → Type 0) (x : X) (ys : List X) → P x → AllByRecursion P ys → AllByRecursion P (placed before x ys)
  placed_all P x [] here all = (here, tt)
  placed_all P x (y ∷ ys) here all = subst (AllByRecursion P) (sym (placed-cons before x y ys)) (by (before x y) (placed_all P x ys here all.1))
    where
      by : (b : Bool) → AllByRecursion P (placed before x ys) → AllByRecursion P (cond b (x ∷ y ∷ ys) (y ∷ placed before x ys))
      by true rest = (here, all)
      by false rest = (all.0, rest)

  from_placed : (P : X → Type 0) (x : X) (ys : List X) → AllByRecursion P (placed before x ys) → P x × AllByRecursion P ys
  from_placed P x [] all = all
  from_placed P x (y ∷ ys) all = by (before x y) (λ rest. from_placed P x ys rest) (subst (AllByRecursion P) (placed-cons before x y ys) all)
    where
      by : (b : Bool) → (AllByRecursion P (placed before x ys) → P x × AllByRecursion P ys) → AllByRecursion P (cond b (x ∷ y ∷ ys) (y ∷ placed before x ys))
          → P x × AllByRecursion P (y ∷ ys)
      by true later all = all
      by false later all = let rest = later all.1 in (rest.0, (all.0, rest.1))

  -- what holds of each in order holds of each
  from_order : (P : X → Type 0) (xs ys : List X) → AllByRecursion P (fold (λ ordered x. placed before x ordered) ys xs)
      → AllByRecursion P ys × AllByRecursion P xs
  from_order P [] ys all = (all, tt)
  from_order P (x ∷ xs) ys all =
      let both = from_order P xs (placed before x ys) all in
      let first = from_placed P x ys both.0 in (first.1, (first.0, both.1))

  -- of a list in order, each is among the first n, or comes before none of these
  split_order : (n : ℕ) (xs : List X) → IsInOrder before xs → AllByRecursion (IsAmongFirst before (take n xs)) xs
  split_order n [] is = tt
  split_order zero (x ∷ xs) is = (inr tt, all_more (λ z. before z x ≡ false) (IsAmongFirst before []) xs (λ z at. inr tt) is.0)
  split_order (suc n) (x ∷ xs) is = (
    inl (Contains-append_left (x ∷ []) (take n xs) x (Contains-push [] x)),
    all_both (λ z. before z x ≡ false) (IsAmongFirst before (take n xs))
        (IsAmongFirst before (x ∷ take n xs)) xs further is.0 (split_order n xs is.1),
  )
    where
      further : (z : X) → before z x ≡ false → IsAmongFirst before (take n xs) z → IsAmongFirst before (x ∷ take n xs) z
      further z at (inl among) = inl (Contains-append_right (x ∷ []) (take n xs) z among)
      further z at (inr none) = inr (at, none)

  module _ (turned : (x y : X) → before x y ≡ true → before y x ≡ false) (on : (x y z : X) → before x y ≡ true → before z y ≡ false → before z x ≡ false) where
    placed_order : (x : X) (ys : List X) → IsInOrder before ys → IsInOrder before (placed before x ys)
    placed_order x [] is = (tt, tt)
    placed_order x (y ∷ ys) is = subst (IsInOrder before) (sym (placed-cons before x y ys)) (by (before x y) refl (placed_order x ys is.1))
      where
        by : (b : Bool) → before x y ≡ b → IsInOrder before (placed before x ys) → IsInOrder before (cond b (x ∷ y ∷ ys) (y ∷ placed before x ys))
        by true at rest = ((turned x y at, all_more (λ z. before z y ≡ false) (λ z. before z x ≡ false) ys (λ z none. on x y z at none) is.0), is)
        by false at rest = (placed_all (λ z. before z y ≡ false) x ys at is.0, rest)

    fold_order : (xs ys : List X) → IsInOrder before ys → IsInOrder before (fold (λ ordered x. placed before x ordered) ys xs)
    fold_order [] ys is = is
    fold_order (x ∷ xs) ys is = fold_order xs (placed before x ys) (placed_order x ys is)

    take_order : (n : ℕ) (xs : List X) → IsInOrder before xs → IsInOrder before (take n xs)
    take_order zero xs is = tt
    take_order (suc n) [] is = tt
    take_order (suc n) (x ∷ xs) is = (all_take (λ z. before z x ≡ false) n xs is.0, take_order n xs is.1)

-- ---- nearer candidates and donors

turned : (a b : Candidate) → is_before a b ≡ true → is_before b a ≡ false
turned a b = of_numbers a.distance b.distance a.donor b.donor
  where
    of_numbers : (m n a b : ℕ) → (nat_lt m n || ((m == n) && nat_lt a b)) ≡ true → (nat_lt n m || ((n == m) && nat_lt b a)) ≡ false
    of_numbers m n a b h = grind (arith, h)

on : (a b c : Candidate) → is_before a b ≡ true → is_before c b ≡ false → is_before c a ≡ false
on a b c = of_numbers a.distance b.distance c.distance a.donor b.donor c.donor
  where
    of_numbers : (m n p a b c : ℕ) → (nat_lt m n || ((m == n) && nat_lt a b)) ≡ true → (nat_lt p n || ((p == n) && nat_lt c b)) ≡ false
        → (nat_lt p m || ((p == m) && nat_lt c a)) ≡ false
    of_numbers m n p a b c h g = grind (arith, h, g)

-- the first of candidates in order are in order
pub nearest_order : (near : ℕ) (candidates nearest : List Candidate) → nearest ≡ take near (in_order is_before candidates) → IsInOrder is_before nearest
nearest_order near candidates nearest is =
    subst (IsInOrder is_before) (sym is) (take_order is_before turned on near (in_order is_before candidates) (fold_order is_before turned on candidates [] tt))

module _ (far : ℕ → ℕ) where
  pub nearer_order : (donors : List ℕ) → IsInOrder (is_nearer far) (in_order (is_nearer far) donors)
  nearer_order donors =
      fold_order (is_nearer far) (λ a b. turned (candidate_of far a) (candidate_of far b))
      (λ a b c. on (candidate_of far a) (candidate_of far b) (candidate_of far c)) donors [] tt

  pub ranking_order : (near : ℕ) (donors : List ℕ) → IsInOrder (is_nearer far) (take near (in_order (is_nearer far) donors))
  ranking_order near donors =
      take_order (is_nearer far) (λ a b. turned (candidate_of far a) (candidate_of far b))
      (λ a b c. on (candidate_of far a) (candidate_of far b) (candidate_of far c)) near (in_order (is_nearer far) donors) (nearer_order donors)

  pub ranking_nearest : (near : ℕ) (donors : List ℕ) → AllByRecursion (IsAmongFirst (is_nearer far) (take near (in_order (is_nearer far) donors))) donors
  ranking_nearest near donors = (from_order (is_nearer far) _ donors []
      (split_order (is_nearer far) near (in_order (is_nearer far) donors) (nearer_order donors))).1

-- ---- candidates that are too far

-- in a list in order none is farther than the last
pub none_farther : (y last : Candidate) (ys : List Candidate) → IsInOrder is_before (y ∷ ys) → Some last ≡ slice_get (y ∷ ys) (length ys)
    → AllByRecursion (λ (z : Candidate). z.distance ≤ last.distance) (y ∷ ys)
none_farther y last [] is at = let same : last ≡ y = cc in (rw same (omega arith), tt)
none_farther y last (z ∷ zs) is at =
    let rest = none_farther z last zs is.1 at in
    (no_farther z.distance y.distance last.distance z.donor y.donor is.0.0 rest.0, rest)
  where
    no_farther : (m n p a b : ℕ) → (nat_lt m n || ((m == n) && nat_lt a b)) ≡ false → m ≤ p → n ≤ p
    no_farther m n p a b h g = grind (arith, h, g)

-- what comes before none is put at the end
put_last : (x : Candidate) (ys : List Candidate) (most : ℕ) → most < x.distance → AllByRecursion (λ (z : Candidate). z.distance ≤ most) ys
    → placed is_before x ys ≡ ys ++ x ∷ []
put_last x [] most farther all = refl
put_last x (y ∷ ys) most farther all =
    placed-cons is_before x y ys
    ∙ ap (λ b. cond b (x ∷ y ∷ ys) (y ∷ placed is_before x ys)) (behind x.distance y.distance x.donor y.donor farther all.0)
    ∙ ap (λ (zs : List Candidate). y ∷ zs) (put_last x ys most farther all.1)
  where
    behind : (m n a b : ℕ) → most < m → n ≤ most → (nat_lt m n || ((m == n) && nat_lt a b)) ≡ false
    behind m n a b far few = grind (arith, far, few)

-- so a candidate that is farther than the last of `near` finds no place among them
pub too_far : (near : ℕ) (ys : List Candidate) (last x : Candidate) → length ys ≤ near → near ≤ length ys → IsInOrder is_before ys
    → Some last ≡ slice_get ys (length ys - 1) → last.distance < x.distance → ys ≡ take near (placed is_before x ys)
too_far near [] last x few full is at farther = absurd (cc)
too_far near (y ∷ ys) last x few full is at farther =
    let place : length (y ∷ ys) - 1 ≡ length ys = omega arith in
    let all = none_farther y last ys is (at ∙ ap (λ n. slice_get (y ∷ ys) n) place) in
    let size : near ≡ length (y ∷ ys) = omega (arith, few, full) in
    sym (ap (take near) (put_last x (y ∷ ys) last.distance farther all) ∙ ap (λ n. take n ((y ∷ ys) ++ x ∷ [])) size ∙ take-append_seam (y ∷ ys) (x ∷ []))

-- ---- answers

pub if_ok_then : {A E : Type 0} (r : Result A E) (P Q : A → Type 0) → ((a : A) → P a → Q a) → IfOk r P → IfOk r Q
if_ok_then (Ok a) P Q step holds = step a holds
if_ok_then (Err e) P Q step holds = tt
