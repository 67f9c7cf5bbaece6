use Rattle.std.proofs.Common.{◌≡◌, ◌⊎◌, inl, inr, ℕ, zero, suc, ◌+◌, ◌-◌, ◌<◌, ◌≤◌, Bool, true, cond, nat_le, Some, List, [], ◌∷◌, ◌++◌, drop, get_or, length}
use Rattle.std.proofs.Common.{length-append, map, take, slice_get, refl, sym, ap, ◌∙◌, subst, append-nil, append_assoc, arith}
use Rattle.std.specs.List.{AllByRecursion, count_by, sum_by, take-map}
use Rattle.std.proofs.lemmas.List.{drop-drop, get_or-drop, get_or-take, length-drop, length-map, length-take, take-take}
use Rattle.std.proofs.lemmas.List.Sums.{sum_by-append, sum_by-cons, sum_by-drop_more, sum_by-take-drop, sum_by_more, sum_by_push}
use Rattle.donor_search.specs.Rankings.{in_order, is_nearer, placed}
use Rattle.donor_search.specs.declared.candidate.Candidate.{Candidate}
use Rattle.donor_search.specs.declared.span.Span.{Span}
use Rattle.donor_search.specs.inner.Candidates.{IsOpenOrReaches, Reaches, candidate_of, is_before}
use Rattle.donor_search.specs.inner.Spans.{IsOutside, IsWider}
use Rattle.donor_search.proofs.OrderLaws.{all_more, nearest_order}
use Rattle.donor_search.proofs.RankingLaws.{order-map, order_more}
use Rattle.donor_search.proofs.ReachLaws.{last_reaches, reaches_more}
use Rattle.donor_search.proofs.SameLaws.{HaveSame, one_if, order_same}

-- The walk over the donors outward from a place, and why it finds the ranking.

-- ---- lists

map_push : {X Y : Type 0} (f : X → Y) (xs : List X) (x : X) → map f (xs ++ x ∷ []) ≡ map f xs ++ f x ∷ []
map_push f [] x = refl
map_push f (y ∷ xs) x = ap (λ zs. f y ∷ zs) (map_push f xs x)

all_push : {X : Type 0} (P : X → Type 0) (xs : List X) (x : X) → AllByRecursion P xs → P x → AllByRecursion P (xs ++ x ∷ [])
all_push P [] x all here = (here, tt)
all_push P (y ∷ xs) x all here = (all.0, all_push P xs x all.1 here)

all_append : {X : Type 0} (P : X → Type 0) (xs ys : List X) → AllByRecursion P xs → AllByRecursion P ys → AllByRecursion P (xs ++ ys)
all_append P [] ys all also = also
all_append P (x ∷ xs) ys all also = (all.0, all_append P xs ys all.1 also)

all_front : (P : ℕ → Type 0) (n : ℕ) (xs : List ℕ) → ((i : ℕ) → i < length xs → i < n → P (get_or xs i 0)) → AllByRecursion P (take n xs)
all_front P zero xs each = tt
all_front P (suc n) [] each = tt
all_front P (suc n) (x ∷ xs) each =
    (each 0 (omega arith) (omega arith), all_front P n xs (λ i below less. each (suc i) (omega (arith, below)) (omega (arith, less))))

all_back : (P : ℕ → Type 0) (n : ℕ) (xs : List ℕ) → ((i : ℕ) → i < length xs → n ≤ i → P (get_or xs i 0)) → AllByRecursion P (drop n xs)
all_back P zero [] each = tt
all_back P zero (x ∷ xs) each = (each 0 (omega arith) (omega arith), all_back P zero xs (λ i below least. each (suc i) (omega (arith, below)) (omega arith)))
all_back P (suc n) [] each = tt
all_back P (suc n) (x ∷ xs) each = all_back P n xs (λ i below least. each (suc i) (omega (arith, below)) (omega (arith, least)))

get_map : {Y : Type 0} (f : ℕ → Y) (xs : List ℕ) (k : ℕ) → k < length xs → Some (f (get_or xs k 0)) ≡ slice_get (map f xs) k
get_map f [] k below = absurd (omega (arith, below))
get_map f (x ∷ xs) zero below = refl
get_map f (x ∷ xs) (suc k) below = get_map f xs k (omega (arith, below))

count_all : (p : ℕ → Bool) (xs : List ℕ) → AllByRecursion (λ x. p x ≡ true) xs → sum_by (λ x. cond (p x) 1 0) xs ≡ length xs
count_all p [] all = refl
count_all p (x ∷ xs) all = sum_by-cons (λ y. cond (p y) 1 0) x xs
    ∙ (let here = one_if (p x) all.0 in let rest = count_all p xs all.1 in omega (arith, here, rest))

pub ones : (xs : List ℕ) → sum_by (λ x. 1) xs ≡ length xs
ones [] = refl
ones (x ∷ xs) = sum_by-cons (λ y. 1) x xs ∙ (let rest = ones xs in omega (arith, rest))

-- ---- the walk

module _ (far gap : ℕ → ℕ) (near : ℕ) where
  -- all donors in the span were seen, and those that were asked are some of them; no gap of these is more than that of a donor that is
  -- left, and where there are as many as wanted one of them is at least so far; no more steps were counted than donors were asked
  pub record Walked (donors : List ℕ) (span : Span) (nearest : List Candidate) (before now : ℕ) : Type 0 where
    pub seen : List ℕ
    pub asked : List ℕ
    pub reach : ℕ
    pub ranked : nearest ≡ take near (in_order is_before (map (candidate_of far) seen))
    pub all : (f : ℕ → ℕ) → sum_by f seen + (sum_by f (take span.low donors) + sum_by f (drop span.high donors)) ≡ sum_by f donors
    pub some : (f : ℕ → ℕ) → sum_by f asked ≤ sum_by f seen
    pub most : now ≤ before + length asked
    pub within : AllByRecursion (λ d. gap d ≤ reach) asked
    pub beyond : (i : ℕ) → i < length donors → IsOutside span i → reach ≤ gap (get_or donors i 0)
    pub reaches : IsOpenOrReaches near reach nearest

  -- before a step none was asked
  pub walked_none : (donors : List ℕ) (span : Span) (before : ℕ) → span.low ≡ span.high → Walked donors span [] before before
  walked_none donors span before none = record {
    seen = [];
    asked = [];
    reach = 0;
    ranked = none_taken near;
    all = λ f. let e = ap (λ n. sum_by f (drop n donors)) none in omega (arith, e, sum_by-take-drop f donors span.low);
    some = λ f. omega arith;
    most = omega arith;
    within = tt;
    beyond = λ i below outside. omega arith;
    reaches = λ some. inl some;
  }
    where
      none_taken : (n : ℕ) → [] ≡ take n (in_order is_before (map (candidate_of far) []))
      none_taken zero = refl
      none_taken (suc n) = refl

  -- a step
  pub walked_more : (donors : List ℕ) (old new : Span) (place : ℕ) (nearest after : List Candidate) (before mid now : ℕ) → Walked donors old nearest before mid
      → now ≤ mid + 1
      → place < length donors → old.low ≤ old.high → IsWider old place new
      → ((i : ℕ) → i < length donors → IsOutside old i → gap (get_or donors place 0) ≤ gap (get_or donors i 0))
      → gap (get_or donors place 0) ≤ far (get_or donors place 0)
      → length nearest ≤ near → IsOpenOrReaches near (gap (get_or donors place 0)) nearest
      → after ≡ take near (placed is_before (candidate_of far (get_or donors place 0)) nearest)
      → Walked donors new after before now
  walked_more donors old new place nearest after before mid now walked one below rising wider next least few room put = record {
    seen = seen ++ donor ∷ [];
    asked = asked ++ donor ∷ [];
    reach = gap donor;
    ranked = put ∙ order_more is_before near (map (candidate_of far) seen) nearest (candidate_of far donor) walked.ranked
        ∙ ap (λ cs. take near (in_order is_before cs)) (sym (map_push (candidate_of far) seen donor));
    all = λ f. all_more_by f wider;
    some = λ f. let m = walked.some f in omega (arith, m, sum_by_push f seen donor, sum_by_push f asked donor);
    most = let l = length-append asked (donor ∷ []) in omega (arith, l, walked.most, one);
    within = all_push (λ d. gap d ≤ gap donor) asked donor
        (all_more (λ d. gap d ≤ walked.reach) (λ d. gap d ≤ gap donor) asked
        (λ d le. let b = walked.beyond place below (outside wider) in omega (arith, le, b)) walked.within) (omega arith);
    beyond = λ i within out. next i within (still wider i out);
    reaches = reaches_more (gap donor) near (candidate_of far donor) nearest after least few room put;
  }
    where
      seen : List ℕ
      seen = walked.seen

      asked : List ℕ
      asked = walked.asked

      donor : ℕ
      donor = get_or donors place 0

      outside : IsWider old place new → IsOutside old place
      outside (inl low) = inl (omega (arith, low.0))
      outside (inr high) = inr (omega (arith, high.0))

      still : IsWider old place new → (i : ℕ) → IsOutside new i → IsOutside old i
      still (inl low) i (inl less) = inl (omega (arith, low.0, low.1, less))
      still (inl low) i (inr least) = inr (omega (arith, low.2, least))
      still (inr high) i (inl less) = inl (omega (arith, high.1, less))
      still (inr high) i (inr least) = inr (omega (arith, high.0, high.2, least))

      all_more_by : (f : ℕ → ℕ) → IsWider old place new
          → sum_by f (seen ++ donor ∷ []) + (sum_by f (take new.low donors) + sum_by f (drop new.high donors)) ≡ sum_by f donors
      all_more_by f (inl low) =
          let p = sum_by_push f seen donor in
          let m = sum_by_more f donors place 0 below in
          let a = ap (λ n. sum_by f (take n donors)) low.0 in
          let b = ap (λ n. sum_by f (take n donors)) low.1 in
          let d = ap (λ n. sum_by f (drop n donors)) low.2 in
          omega (arith, p, m, a, b, d, walked.all f)
      all_more_by f (inr high) =
          let p = sum_by_push f seen donor in
          let m = sum_by-drop_more f donors place 0 below in
          let a = ap (λ n. sum_by f (take n donors)) high.1 in
          let b = ap (λ n. sum_by f (drop n donors)) high.0 in
          let d = ap (λ n. sum_by f (drop n donors)) high.2 in
          omega (arith, p, m, a, b, d, walked.all f)

  -- donors that are too far do not change the first
  rest_far : (xs others : List ℕ) (nearest : List Candidate) → nearest ≡ take near (in_order is_before (map (candidate_of far) xs))
      → AllByRecursion (λ d. nearest ≡ take near (placed is_before (candidate_of far d) nearest)) others
      → nearest ≡ take near (in_order is_before (map (candidate_of far) (xs ++ others)))
  rest_far xs [] nearest is all = is ∙ ap (λ ds. take near (in_order is_before (map (candidate_of far) ds))) (sym (append-nil xs))
  rest_far xs (d ∷ ds) nearest is all =
      rest_far (xs ++ d ∷ []) ds nearest
      (all.0 ∙ order_more is_before near (map (candidate_of far) xs) nearest (candidate_of far d) is
      ∙ ap (λ cs. take near (in_order is_before cs)) (sym (map_push (candidate_of far) xs d))) all.1
      ∙ ap (λ es. take near (in_order is_before (map (candidate_of far) es))) (append_assoc xs (d ∷ []) ds)

  -- donors beside the span that have no place among the nearest are passed over
  pub walked_past : (donors : List ℕ) (old new : Span) (nearest : List Candidate) (before now : ℕ) → Walked donors old nearest before now → new.low ≤ old.low
      → old.low ≤ old.high → old.high ≤ new.high
      → ((i : ℕ) → i < length donors → IsOutside old i → new.low ≤ i → i < new.high
      → nearest ≡ take near (placed is_before (candidate_of far (get_or donors i 0)) nearest))
      → Walked donors new nearest before now
  walked_past donors old new nearest before now walked lower rising higher closed = record {
    seen = walked.seen ++ passed;
    asked = walked.asked;
    reach = walked.reach;
    ranked = rest_far walked.seen passed nearest walked.ranked all_closed;
    all = all_past;
    some = λ f. let m = walked.some f in omega (arith, m, sum_by-append f walked.seen passed);
    most = walked.most;
    within = walked.within;
    beyond = λ i below outside. walked.beyond i below (still i outside);
    reaches = walked.reaches;
  }
    where
      under : List ℕ
      under = drop new.low (take old.low donors)

      over : List ℕ
      over = take (new.high - old.high) (drop old.high donors)

      passed : List ℕ
      passed = under ++ over

      IsPassed : ℕ → Type 0
      IsPassed d = nearest ≡ take near (placed is_before (candidate_of far d) nearest)

      still : (i : ℕ) → IsOutside new i → IsOutside old i
      still i (inl less) = inl (omega (arith, lower, less))
      still i (inr least) = inr (omega (arith, higher, least))

      under_at : (i : ℕ) → i < length (take old.low donors) → new.low ≤ i → IsPassed (get_or (take old.low donors) i 0)
      under_at i below least =
          let l = length-take old.low donors in
          let less : i < old.low = omega (arith, below, l) in
          let within : i < length donors = omega (arith, below, l) in
          subst IsPassed (sym (get_or-take old.low donors i 0 less)) (closed i within (inl less) least (omega (arith, less, higher, rising)))

      over_at : (i : ℕ) → i < length (drop old.high donors) → i < new.high - old.high → IsPassed (get_or (drop old.high donors) i 0)
      over_at i below less =
          let l = length-drop old.high donors in
          subst IsPassed (sym (get_or-drop old.high donors i 0))
          (closed (old.high + i) (omega (arith, below, l)) (inr (omega arith)) (omega (arith, lower, rising)) (omega (arith, less)))

      all_closed : AllByRecursion IsPassed passed
      all_closed = all_append IsPassed under over (all_back IsPassed new.low (take old.low donors) under_at)
          (all_front IsPassed (new.high - old.high) (drop old.high donors) over_at)

      there : (m n : ℕ) → m ≤ n → m + (n - m) ≡ n
      there m n le = omega (arith, le)

      all_past : (f : ℕ → ℕ) → sum_by f (walked.seen ++ passed) + (sum_by f (take new.low donors) + sum_by f (drop new.high donors)) ≡ sum_by f donors
      all_past f =
          let a = sum_by-append f walked.seen passed in
          let b = sum_by-append f under over in
          let u = sum_by-take-drop f (take old.low donors) new.low in
          let t = ap (sum_by f) (take-take new.low old.low donors lower) in
          let o = sum_by-take-drop f (drop old.high donors) (new.high - old.high) in
          let d = ap (sum_by f) (drop-drop (new.high - old.high) old.high donors) in
          let h = ap (λ n. sum_by f (drop n donors)) (there old.high new.high higher) in
          omega (arith, a, b, u, t, o, d, h, walked.all f)

  module _ (donors all_donors : List ℕ) (span : Span) (nearest : List Candidate) (before now : ℕ) (walked : Walked donors span nearest before now)
      (same : HaveSame all_donors donors) where
    -- where no donor that is left has a place among the nearest, these are the ranking
    pub walked_all : ((i : ℕ) → i < length donors → IsOutside span i → nearest ≡ take near (placed is_before (candidate_of far (get_or donors i 0)) nearest))
        → nearest ≡ map (candidate_of far) (take near (in_order (is_nearer far) all_donors))
    walked_all closed =
        let others = take span.low donors ++ drop span.high donors in
        let all = all_append (λ d. nearest ≡ take near (placed is_before (candidate_of far d) nearest)) (take span.low donors) (drop span.high donors)
        (all_front (λ d. nearest ≡ take near (placed is_before (candidate_of far d) nearest)) span.low donors (λ i below less. closed i below (inl less)))
        (all_back (λ d. nearest ≡ take near (placed is_before (candidate_of far d) nearest)) span.high donors (λ i below least. closed i below (inr least))) in
        let joined : HaveSame (walked.seen ++ others) all_donors = λ f.
        sum_by-append f walked.seen others ∙ ap (λ n. sum_by f walked.seen + n) (sum_by-append f (take span.low donors) (drop span.high donors)) ∙ walked.all f
        ∙ sym (same f) in
        rest_far walked.seen others nearest walked.ranked all
        ∙ ap (take near) (order-map far (walked.seen ++ others) [])
        ∙ take-map (candidate_of far) near (in_order (is_nearer far) (walked.seen ++ others))
        ∙ ap (λ ds. map (candidate_of far) (take near ds)) (order_same far (walked.seen ++ others) all_donors joined)

    -- no more were asked than stand in the span
    pub asked_within : span.low ≤ span.high → span.high ≤ length donors → length walked.asked + span.low ≤ span.high
    asked_within rising within =
        let a = walked.all (λ x. 1) in
        let m = walked.some (λ x. 1) in
        let t = length-take span.low donors in
        let d = length-drop span.high donors in
        omega (arith, rising, within, a, m, t, d, ones walked.asked, ones (take span.low donors), ones (drop span.high donors), ones donors)

    -- no more were asked than there are
    pub asked_all : length walked.asked ≤ length all_donors
    asked_all =
        let a = walked.all (λ x. 1) in
        let m = walked.some (λ x. 1) in
        omega (arith, a, m, ones walked.asked, ones donors, ones all_donors, same (λ x. 1))

    -- and where there are as many as wanted, no more than those of which the gap is at most the distance of the last
    pub asked_few : (ranking : List ℕ) → nearest ≡ map (candidate_of far) ranking → 1 ≤ near → length ranking ≡ near
        → length walked.asked ≤ count_by (λ d. nat_le (gap d) (far (get_or ranking (near - 1) 0))) all_donors
    asked_few ranking is some full =
        let l : length nearest ≡ near = ap (λ (cs : List Candidate). length cs) is ∙ length-map ranking (candidate_of far) ∙ full in
        let order = nearest_order near (map (candidate_of far) walked.seen) nearest walked.ranked in
        let last : Some (candidate_of far (get_or ranking (near - 1) 0)) ≡ slice_get nearest (length nearest - 1) =
        get_map (candidate_of far) ranking (near - 1) (omega (arith, some, full)) ∙ ap (λ (cs : List Candidate). slice_get cs (near - 1)) (sym is)
        ∙ ap (λ n. slice_get nearest (n - 1)) (sym l) in
        let most = last_reaches walked.reach nearest (candidate_of far (get_or ranking (near - 1) 0)) order last (reached l (walked.reaches some)) in
        let p = λ (d : ℕ). nat_le (gap d) (far (get_or ranking (near - 1) 0)) in
        let c = count_all p walked.asked
        (all_more (λ d. gap d ≤ walked.reach) (λ d. p d ≡ true) walked.asked
        (λ d le. at_most (gap d) walked.reach (far (get_or ranking (near - 1) 0)) le most) walked.within) in
        let a = walked.all (λ d. cond (p d) 1 0) in
        let m = walked.some (λ d. cond (p d) 1 0) in
        omega (arith, a, m, c, same (λ d. cond (p d) 1 0))
      where
        reached : length nearest ≡ near → (length nearest < near) ⊎ Reaches walked.reach nearest → Reaches walked.reach nearest
        reached l (inl less) = absurd (omega (arith, l, less))
        reached l (inr far) = far

        at_most : (g r d : ℕ) → g ≤ r → r ≤ d → nat_le g d ≡ true
        at_most g r d h k = grind (arith, h, k)
