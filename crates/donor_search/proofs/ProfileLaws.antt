use Rattle.std.proofs.Common.{◌≡◌, ◌∙◌, ℕ, zero, suc, ◌+◌, ◌-◌, ◌*◌, ◌<◌, ◌≤◌, Bool, true, false, All, List, [], ◌∷◌, drop, length, min, take, refl, ap, sym}
use Rattle.std.proofs.Common.{subst, arith, if◌then◌else◌}
use Rattle.std.proofs.lemmas.List.{length-drop, length-take, take_all}
use Rattle.std.proofs.lemmas.List.Elements.{All-cons, All-nil, All-tail}
use Rattle.foundation.specs.Limits.{most_weight}
use Rattle.edit_model.specs.FieldSets.{has_number}
use Rattle.edit_model.specs.Rows.{value_of}
use Rattle.edit_model.specs.declared.value.Value.{Value}
use Rattle.donor_measure.specs.Buckets.{mark_of, marks_from, marks_of}
use Rattle.donor_measure.specs.Distances.{distance, distance_from, value_distance}
use Rattle.donor_measure.specs.Measures.{HasMeasurable, IsMeasurable}
use Rattle.donor_measure.specs.Yardsticks.{IsYardstick, yardstick_at}
use Rattle.donor_measure.specs.declared.yardstick.Yardstick.{Yardstick}
use Rattle.donor_measure.proofs.MarkLaws.{marks_few}
use Rattle.donor_search.specs.Decks.{first_fields}
use Rattle.donor_search.specs.declared.profile.Weighed.{Weighed}
use Rattle.donor_search.specs.inner.Profiles.{told, told_by, weighed_at, weighed_from}

-- Marks, and what they tell of distances.

pub marks_long : (i : ℕ) (yardsticks : List Yardstick) (row : List Value) → length (marks_from i yardsticks row) ≡ length yardsticks
marks_long i [] row = refl
marks_long i (y ∷ ys) row = ap suc (marks_long (suc i) ys row)

-- so many marks are looked at first
pub first_long : (yardsticks : List Yardstick) (row : List Value) → length (take first_fields (marks_of yardsticks row)) ≡ min first_fields (length yardsticks)
first_long ys row = length-take first_fields (marks_of ys row) ∙ ap (min first_fields) (marks_long 0 ys row)

pub weighed_long : (i : ℕ) (yardsticks : List Yardstick) (kept : ℕ) (row : List Value) → length (weighed_from i yardsticks kept row) ≡ length yardsticks
weighed_long i [] kept row = refl
weighed_long i (y ∷ ys) kept row = ap suc (weighed_long (suc i) ys kept row)

pub weights_fit : (i : ℕ) (yardsticks : List Yardstick) (kept : ℕ) (row : List Value) → All IsYardstick yardsticks
    → All (λ (w : Weighed). w.weight ≤ most_weight) (weighed_from i yardsticks kept row)
weights_fit i [] kept row fit = All-nil (λ (w : Weighed). w.weight ≤ most_weight)
weights_fit i (y ∷ ys) kept row fit =
    All-cons (λ (w : Weighed). w.weight ≤ most_weight) (weighed_at y i kept row) (weighed_from (suc i) ys kept row) (by (has_number kept i))
    (weights_fit (suc i) ys kept row (All-tail IsYardstick y ys fit))
  where
    fits : Weighed → Type 0
    fits w = w.weight ≤ most_weight

    by : (b : Bool) → fits (if b then record { weight = y.weight; mark = mark_of y.scale (value_of row i) } else record { weight = 0; mark = 0 })
    by true = (fit 0 y (omega arith)).weight
    by false = omega arith

-- ---- what marks tell

-- fewer marks tell no more
pub told_take : (n : ℕ) (owns : List Weighed) (marks : List ℕ) → told owns (take n marks) ≤ told owns marks
told_take n [] marks = omega arith
told_take zero (own ∷ owns) marks = omega arith
told_take (suc n) (own ∷ owns) [] = omega arith
told_take (suc n) (own ∷ owns) (mark ∷ marks) = let rest = told_take n owns marks in omega (arith, rest)

-- marks past the last tell nothing
pub told_takes : (n : ℕ) (owns : List Weighed) (marks : List ℕ) → told (take n owns) (take n marks) ≡ told owns (take n marks)
told_takes n [] marks = by n
  where
    by : (n : ℕ) → told (take n []) (take n marks) ≡ told [] (take n marks)
    by zero = refl
    by (suc n) = refl
told_takes zero (own ∷ owns) marks = refl
told_takes (suc n) (own ∷ owns) [] = refl
told_takes (suc n) (own ∷ owns) (mark ∷ marks) = ap (λ k. told_by own mark + k) (told_takes n owns marks)

-- no marks tell nothing
told_none : (owns : List Weighed) → told owns [] ≡ 0
told_none [] = refl
told_none (own ∷ owns) = refl

-- the first marks and the others tell what all tell
pub told_split : (n : ℕ) (owns : List Weighed) (marks : List ℕ) → told owns (take n marks) + told (drop n owns) (drop n marks) ≡ told owns marks
told_split zero [] marks = omega arith
told_split zero (own ∷ owns) marks = omega arith
told_split (suc n) [] marks = omega arith
told_split (suc n) (own ∷ owns) [] = let none = told_none (drop n owns) in omega (arith, none)
told_split (suc n) (own ∷ owns) (mark ∷ marks) = let rest = told_split n owns marks in omega (arith, rest)

told_here : (y : Yardstick) (i kept : ℕ) (a b : List Value) → IsYardstick y → (has_number kept i ≡ true → IsMeasurable y.scale (value_of a i))
    → (has_number kept i ≡ true → IsMeasurable y.scale (value_of b i))
    → told_by (weighed_at y i kept a) (mark_of y.scale (value_of b i)) ≤
    (if has_number kept i then y.weight * value_distance y.scale (value_of a i) (value_of b i) else 0)
told_here y i kept a b is first second = by (has_number kept i) refl
  where
    times : (w m n : ℕ) → m ≤ n → w * m ≤ w * n
    times w m n le = grind (arith, le)

    by : (h : Bool) → has_number kept i ≡ h
        → told_by (if h then record { weight = y.weight; mark = mark_of y.scale (value_of a i) } else record { weight = 0; mark = 0 })
        (mark_of y.scale (value_of b i)) ≤ (if h then y.weight * value_distance y.scale (value_of a i) (value_of b i) else 0)
    by true at = times y.weight _ _ (marks_few y.scale (value_of a i) (value_of b i) is.scale (first at) (second at))
    by false at = omega arith

pub told_rest : (n : ℕ) (owns : List Weighed) (marks : List ℕ)
    → told (take (length owns - n) (drop n owns)) (take (length marks - n) (drop n marks)) ≡ told (drop n owns) (drop n marks)
told_rest n owns marks =
    ap (λ (ws : List Weighed). told ws (take (length marks - n) (drop n marks))) (take_all (length owns - n) (drop n owns) (within owns))
    ∙ ap (told (drop n owns)) (take_all (length marks - n) (drop n marks) (within marks))
  where
    within : {X : Type 0} (xs : List X) → length (drop n xs) ≤ length xs - n
    within xs = let l = length-drop n xs in omega (arith, l)

-- no more than the distance
pub told_few : (i : ℕ) (yardsticks : List Yardstick) (kept : ℕ) (a b : List Value) → All IsYardstick yardsticks
    → ((k : ℕ) → k < length yardsticks → has_number kept (i + k) ≡ true → IsMeasurable (yardstick_at yardsticks k).scale (value_of a (i + k)))
    → ((k : ℕ) → k < length yardsticks → has_number kept (i + k) ≡ true → IsMeasurable (yardstick_at yardsticks k).scale (value_of b (i + k)))
    → told (weighed_from i yardsticks kept a) (marks_from i yardsticks b) ≤ distance_from i yardsticks kept a b
told_few i [] kept a b fit first second = omega arith
told_few i (y ∷ ys) kept a b fit first second =
    let here = told_here y i kept a b (fit 0 y (omega arith)) (at_first a first) (at_first b second) in
    let rest = told_few (suc i) ys kept a b (All-tail IsYardstick y ys fit) (later a first) (later b second) in
    omega (arith, here, rest)
  where
    no_more : i + 0 ≡ i
    no_more = omega arith

    next : (k : ℕ) → i + suc k ≡ suc i + k
    next k = omega arith

    at_first : (r : List Value) → ((k : ℕ) → k < length (y ∷ ys) → has_number kept (i + k) ≡ true
        → IsMeasurable (yardstick_at (y ∷ ys) k).scale (value_of r (i + k)))
        → has_number kept i ≡ true → IsMeasurable y.scale (value_of r i)
    at_first r each has = subst (λ n. IsMeasurable y.scale (value_of r n)) no_more (each 0 (omega arith) (ap (has_number kept) no_more ∙ has))

    later : (r : List Value) → ((k : ℕ) → k < length (y ∷ ys) → has_number kept (i + k) ≡ true
        → IsMeasurable (yardstick_at (y ∷ ys) k).scale (value_of r (i + k)))
        → (k : ℕ) → k < length ys → has_number kept (suc i + k) ≡ true → IsMeasurable (yardstick_at ys k).scale (value_of r (suc i + k))
    later r each k below has = subst (λ n. IsMeasurable (yardstick_at ys k).scale (value_of r n)) (next k)
        (each (suc k) (omega (arith, below)) (ap (has_number kept) (next k) ∙ has))

pub told-distance : (yardsticks : List Yardstick) (kept : ℕ) (a b : List Value) → All IsYardstick yardsticks → HasMeasurable yardsticks kept a
    → HasMeasurable yardsticks kept b
    → told (weighed_from 0 yardsticks kept a) (marks_of yardsticks b) ≤ distance yardsticks kept a b
told-distance ys kept a b fit first second = told_few 0 ys kept a b fit (from_zero a first) (from_zero b second)
  where
    zero_is : (k : ℕ) → 0 + k ≡ k
    zero_is k = omega arith

    from_zero : (r : List Value) → HasMeasurable ys kept r → (k : ℕ) → k < length ys → has_number kept (0 + k) ≡ true
        → IsMeasurable (yardstick_at ys k).scale (value_of r (0 + k))
    from_zero r each k below has =
        subst (λ n. IsMeasurable (yardstick_at ys k).scale (value_of r n)) (sym (zero_is k)) (each k below (ap (has_number kept) (sym (zero_is k)) ∙ has))

module _ (ys : List Yardstick) (kept : ℕ) (row other : List Value) (owns : List Weighed) (marks : List ℕ) (own_is : owns ≡ weighed_from 0 ys kept row)
    (marks_is : marks ≡ marks_of ys other) where
  -- a record has as many marks as a donor
  pub as_many_marks : length owns ≡ length marks
  as_many_marks = ap (λ (ws : List Weighed). length ws) own_is ∙ weighed_long 0 ys kept row
      ∙ sym (ap (λ (ms : List ℕ). length ms) marks_is ∙ marks_long 0 ys other)

  -- and as many of them are looked at first
  pub as_many_first : (first : List ℕ) → first ≡ take first_fields marks → length first ≡ min first_fields (length owns)
  as_many_first first first_is =
      ap (λ (ms : List ℕ). length ms) first_is
      ∙ length-take first_fields marks
      ∙ ap (min first_fields) (sym as_many_marks)

  -- what marks tell to be far is far
  pub farther_told : (most : ℕ) → All IsYardstick ys → HasMeasurable ys kept row → HasMeasurable ys kept other → most < told owns marks
      → most < distance ys kept row other
  farther_told most fit first second more =
      let told_is : told owns marks ≡ told (weighed_from 0 ys kept row) (marks_of ys other) = ap (λ (ws : List Weighed). told ws marks) own_is
      ∙ ap (λ (ms : List ℕ). told (weighed_from 0 ys kept row) ms) marks_is in
      let far = told-distance ys kept row other fit first second in
      omega (arith, more, far, told_is)

  pub farther_first : (most : ℕ) (firsts : List ℕ) → firsts ≡ take first_fields marks → All IsYardstick ys → HasMeasurable ys kept row
      → HasMeasurable ys kept other → most < told owns firsts → most < distance ys kept row other
  farther_first most firsts firsts_is fit first second more =
      let same : told owns firsts ≡ told owns (take first_fields marks) = ap (told owns) firsts_is in
      farther_told most fit first second (omega (arith, more, same, told_take first_fields owns marks))
