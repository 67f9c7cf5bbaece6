-- To how many records each donor gave, one change after the other.
use Rattle.std.proofs.Common.{◌≡◌, ◌≢◌, ◌∙◌, ◌==◌, ◌&&◌, ◌||◌, cond, ℕ, zero, suc, ◌+◌, ◌<◌, ◌≤◌, ◌^◌, nat_lt, Bool, true, false, if◌then◌else◌}
use Rattle.std.proofs.Common.{List, [], ◌∷◌, ◌++◌, length, get_or, set, take, replicate, map, All, Any, Option, Some, None, IfSome, MatchOption, add-one}
use Rattle.std.proofs.Common.{refl, sym, ap, subst, arith}
use Rattle.std.specs.List.{count_by, filter, range_with_len}
use Rattle.std.specs.List.Sorted.{IsNonDecreasingBy}
use Rattle.std.specs.Option.{option_map_or}
use Rattle.std.proofs.lemmas.Bool.Decides.{nat_tests}
use Rattle.std.proofs.lemmas.Bool.{eq-eqb, false≢true}
use Rattle.std.proofs.lemmas.List.{get_or_default, get_or-replicate, get_or-set_other, get_or-set_same}
use Rattle.std.proofs.lemmas.List.{get_or-take, length-replicate, length-set, length-take-le}
use Rattle.std.proofs.lemmas.List.Folds.{Any-from_list_any, list_any_more}
use Rattle.std.proofs.lemmas.List.FromFn.{length-range_with_len}
use Rattle.std.proofs.lemmas.List.Sums.{count_by-le-length, sum_by-append}
use Rattle.reason_lines.specs.declared.entry.Change.{Change}
use Rattle.page_counts.specs.Donors.{gave_to, gift_count, is_from}
use Rattle.page_counts.specs.declared.amounts.Amount.{Amount}
use Rattle.page_counts.specs.declared.giving.Gifts.{Gifts}
use Rattle.page_counts.specs.inner.Gifts.{AreAllGifts, AreGifts, no_gifts, noted, with_gift}
use Rattle.page_counts.proofs.MarkLaws.{range_more}
use Rattle.page_counts.proofs.WeightLaws.{kept_map_more}

-- ---- counts of the numbers below a number

count_more : (f : ℕ → Bool) (n : ℕ) → count_by f (range_with_len 0 (suc n)) ≡ count_by f (range_with_len 0 n) + cond (f n) 1 0
count_more f n =
    ap (λ k. count_by f (range_with_len 0 k)) (sym (add-one n)) ∙ ap (count_by f) (range_more n)
    ∙ sum_by-append (λ k. cond (f k) 1 0) (range_with_len 0 n) (n ∷ []) ∙ ap (λ k. count_by f (range_with_len 0 n) + k) (none_more (cond (f n) 1 0))
  where
    none_more : (k : ℕ) → 0 + k ≡ k
    none_more k = omega arith

count_same : (f g : ℕ → Bool) (n : ℕ) → ((k : ℕ) → k < n → f k ≡ g k) → count_by f (range_with_len 0 n) ≡ count_by g (range_with_len 0 n)
count_same f g zero each = refl
count_same f g (suc n) each =
    let here = each n (omega arith) in
    let before = count_same f g n (λ k below. each k (omega (arith, below))) in
    omega (arith, count_more f n, count_more g n, before, ap {B = ℕ} (λ b. cond b 1 0) here)

-- where the tests differ at one number alone
one_more_by : (f g : ℕ → Bool) (m n : ℕ) (b : Bool) → (n == m) ≡ b → m < suc n → f m ≡ false → g m ≡ true → ((k : ℕ) → k ≢ m → f k ≡ g k)
    → (m < n → count_by g (range_with_len 0 n) ≡ count_by f (range_with_len 0 n) + 1)
    → count_by g (range_with_len 0 (suc n)) ≡ count_by f (range_with_len 0 (suc n)) + 1
one_more_by f g m n true is below fails passes others before =
    let same : n ≡ m = grind (arith, nat_tests) in
    let lower = count_same f g n (λ k under. others k (λ e. omega (arith, under, e, same))) in
    let fails_here : f n ≡ false = subst (λ (k : ℕ). f k ≡ false) (sym same) fails in
    let passes_here : g n ≡ true = subst (λ (k : ℕ). g k ≡ true) (sym same) passes in
    omega (arith, count_more f n, count_more g n, lower, ap {B = ℕ} (λ b. cond b 1 0) fails_here, ap {B = ℕ} (λ b. cond b 1 0) passes_here)
one_more_by f g m n false is below fails passes others before =
    let other : n ≢ m = grind (arith, nat_tests) in
    omega (arith, count_more f n, count_more g n, before (omega (arith, below, other)), ap {B = ℕ} (λ b. cond b 1 0) (others n other))

count_one_more : (f g : ℕ → Bool) (m n : ℕ) → m < n → f m ≡ false → g m ≡ true → ((k : ℕ) → k ≢ m → f k ≡ g k)
    → count_by g (range_with_len 0 n) ≡ count_by f (range_with_len 0 n) + 1
count_one_more f g m zero below fails passes others = absurd (omega (arith, below))
count_one_more f g m (suc n) below fails passes others =
    one_more_by f g m n (n == m) refl below fails passes others (λ lower. count_one_more f g m n lower fails passes others)

-- ---- the donors, one after the other

pub donors_more : (rows : ℕ) (changes : List Change) (n : ℕ) → map {B = Amount} (λ donor. record { number = donor; size = gift_count rows changes donor })
    (filter (λ donor. nat_lt 0 (gift_count rows changes donor)) (range_with_len 0 (n + 1)))
    ≡ map {B = Amount} (λ donor. record { number = donor; size = gift_count rows changes donor })
    (filter (λ donor. nat_lt 0 (gift_count rows changes donor)) (range_with_len 0 n))
    ++ cond (nat_lt 0 (gift_count rows changes n)) (record { number = n; size = gift_count rows changes n } ∷ []) []
donors_more rows changes n = kept_map_more {B = Amount} (λ (donor : ℕ). record { number = donor; size = gift_count rows changes donor })
    (λ donor. nat_lt 0 (gift_count rows changes donor)) n

-- ---- what is noted

or_false : (b : Bool) → (b || false) ≡ b
or_false true = refl
or_false false = refl

gave_within : (changes : List Change) (m donor n : ℕ) → All (λ (c : Change). c.«record» ≤ m) changes → gave_to changes donor n ≡ true → n ≤ m
gave_within changes m donor n within gave = by (Any-from_list_any (λ (c : Change). (c.«record» == n) && is_from donor c.donor) changes gave)
  where
    of_record : (a b : ℕ) (other : Bool) → ((a == b) && other) ≡ true → a ≡ b
    of_record a b true is = grind (arith, nat_tests)
    of_record a b false is = grind (arith, nat_tests)

    by : Any (λ (c : Change). ((c.«record» == n) && is_from donor c.donor) ≡ true) changes → n ≤ m
    by (j, c, inside, is, passes) =
        let low = within j c inside in
        let at : (get_or changes j c).«record» ≡ c.«record» = ap (λ (x : Change). x.«record») is in
        omega (arith, low, at, of_record c.«record» n (is_from donor c.donor) passes)

pub gifts_few : (rows : ℕ) (changes : List Change) (gifts : List Gifts) → rows < 2 ^ 32 → AreAllGifts rows changes gifts
    → All (λ (g : Gifts). g.count ≤ 2 ^ 32) gifts
gifts_few rows changes gifts small are = λ k d inside.
    let is = are.each k d (omega (arith, inside, are.long)) in
    omega (arith, small, is.count, count_by-le-length (gave_to changes k) (range_with_len 0 rows), length-range_with_len 0 rows)

pub gifts_begin : (rows : ℕ) → AreAllGifts rows [] (replicate rows no_gifts)
gifts_begin rows = record {
  long = length-replicate rows no_gifts;
  each = λ k d inside. subst (λ (g : Gifts). AreGifts rows [] k g) (sym (get_or-replicate rows k no_gifts d inside)) (record {
    count = sym (none rows);
    last = tt;
    later = λ n below gave. absurd (false≢true gave);
  });
}
  where
    none : (n : ℕ) → count_by (λ k. false) (range_with_len 0 n) ≡ 0
    none zero = refl
    none (suc n) = omega (arith, count_more (λ k. false) n, none n)

module _ (rows : ℕ) (changes : List Change) (rising : IsNonDecreasingBy (λ (c : Change). c.«record») changes) (i : ℕ) (c : Change) (below : i < length changes)
    (here : c ≡ get_or changes i c) where
  abbrev test : ℕ → ℕ → Change → Bool
  test donor n x = (x.«record» == n) && is_from donor x.donor

  gave_after : (donor n : ℕ) → gave_to (take (i + 1) changes) donor n ≡ (gave_to (take i changes) donor n || test donor n c)
  gave_after donor n = list_any_more (test donor n) changes i c below ∙ ap (λ (x : Change). gave_to (take i changes) donor n || test donor n x) (sym here)

  records_before : All (λ (x : Change). x.«record» ≤ c.«record») (take i changes)
  records_before k d inside =
      let lower : k < i = omega (arith, inside, length-take-le i changes (omega (arith, below))) in
      let at = ap (λ (x : Change). x.«record») (get_or-take i changes k d lower) in
      let order = rising k i d (omega (arith, lower)) below in
      let last = ap (λ (x : Change). x.«record») (get_or_default changes i d c below ∙ sym here) in
      omega (arith, at, order, last)

  module _ (donor : ℕ) (g : Gifts) (is : AreGifts rows (take i changes) donor g) where
    last_kept : (o : Option ℕ) → IfSome o (λ n. gave_to (take i changes) donor n ≡ true) → IfSome o (λ n. gave_to (take (i + 1) changes) donor n ≡ true)
    last_kept None gave = tt
    last_kept (Some n) gave = gave_after donor n ∙ ap (λ b. b || test donor n c) gave

    -- a change by which the donor gave to no record more
    no_gift : ((n : ℕ) → n < rows → gave_to (take (i + 1) changes) donor n ≡ gave_to (take i changes) donor n) → AreGifts rows (take (i + 1) changes) donor g
    no_gift same = record {
      count = is.count ∙ sym (count_same (gave_to (take (i + 1) changes) donor) (gave_to (take i changes) donor) rows same);
      last = last_kept g.last is.last;
      later = λ n inside gave. is.later n inside (sym (same n inside) ∙ gave);
    }

    no_gift_by : ((n : ℕ) → n < rows → test donor n c ≡ false) → AreGifts rows (take (i + 1) changes) donor g
    no_gift_by other = no_gift (λ n inside. gave_after donor n ∙ ap (λ b. gave_to (take i changes) donor n || b) (other n inside)
        ∙ or_false (gave_to (take i changes) donor n))

    module _ (given : c.donor ≡ Some donor) (inside_rows : c.«record» < rows) where
      test_is : (n : ℕ) → test donor n c ≡ (c.«record» == n)
      test_is n = ap (λ (o : Option ℕ). (c.«record» == n) && is_from donor o) given ∙ itself (c.«record» == n) (donor == donor) (eq-eqb donor donor refl)
        where
          itself : (a b : Bool) → b ≡ true → (a && b) ≡ a
          itself true b is_true = is_true
          itself false b is_true = refl

      -- to the last record again
      again : is_from c.«record» g.last ≡ true → AreGifts rows (take (i + 1) changes) donor g
      again was = no_gift (λ n inside. gave_after donor n ∙ ap (λ b. gave_to (take i changes) donor n || b) (test_is n) ∙ by n (c.«record» == n) refl)
        where
          gave_last : (o : Option ℕ) → is_from c.«record» o ≡ true → IfSome o (λ n. gave_to (take i changes) donor n ≡ true)
              → gave_to (take i changes) donor c.«record» ≡ true
          gave_last None is_it gave = absurd (false≢true is_it)
          gave_last (Some l) is_it gave =
              let same : l ≡ c.«record» = grind (arith, nat_tests) in
              ap (gave_to (take i changes) donor) (sym same) ∙ gave

          by : (n : ℕ) (b : Bool) → (c.«record» == n) ≡ b → (gave_to (take i changes) donor n || b) ≡ gave_to (take i changes) donor n
          by n true is_it =
              let same : c.«record» ≡ n = grind (arith, nat_tests) in
              let gave : gave_to (take i changes) donor n ≡ true = ap (gave_to (take i changes) donor) (sym same) ∙ gave_last g.last was is.last in
              ap (λ b. b || true) gave ∙ sym gave
          by n false is_it = or_false (gave_to (take i changes) donor n)

      -- to a record more
      fresh : is_from c.«record» g.last ≡ false → gave_to (take i changes) donor c.«record» ≡ false
      fresh was = by (gave_to (take i changes) donor c.«record») refl
        where
          apart : (o : Option ℕ) → is_from c.«record» o ≡ false → IfSome o (λ n. gave_to (take i changes) donor n ≡ true)
              → MatchOption o ⊥ (λ l. c.«record» ≤ l) → ⊥
          apart None missed gave after = after
          apart (Some l) missed gave after =
              let low = gave_within (take i changes) c.«record» donor l records_before gave in
              let other : l ≢ c.«record» = grind (arith, nat_tests) in
              other (omega (arith, low, after))

          by : (b : Bool) → gave_to (take i changes) donor c.«record» ≡ b → gave_to (take i changes) donor c.«record» ≡ false
          by true gave = absurd (apart g.last was is.last (is.later c.«record» inside_rows gave))
          by false gave = gave

      one_gift : is_from c.«record» g.last ≡ false → AreGifts rows (take (i + 1) changes) donor (record { count = g.count + 1; last = Some c.«record» })
      one_gift was = record {
        count = ap (λ n. n + 1) is.count ∙ sym (count_one_more (gave_to (take i changes) donor) (gave_to (take (i + 1) changes) donor) c.«record» rows
            inside_rows (fresh was) to_it (λ k other. sym (beside k other)));
        last = to_it;
        later = λ n inside gave. by n (c.«record» == n) refl gave;
      }
        where
          or_true : (b : Bool) → (b || true) ≡ true
          or_true true = refl
          or_true false = refl

          to_it : gave_to (take (i + 1) changes) donor c.«record» ≡ true
          to_it = gave_after donor c.«record» ∙ ap (λ b. gave_to (take i changes) donor c.«record» || b) (test_is c.«record»
              ∙ eq-eqb c.«record» c.«record» refl) ∙ or_true (gave_to (take i changes) donor c.«record»)

          beside : (k : ℕ) → k ≢ c.«record» → gave_to (take (i + 1) changes) donor k ≡ gave_to (take i changes) donor k
          beside k other =
              let missed : (c.«record» == k) ≡ false = grind (arith, nat_tests) in
              gave_after donor k ∙ ap (λ b. gave_to (take i changes) donor k || b) (test_is k ∙ missed) ∙ or_false (gave_to (take i changes) donor k)

          by : (n : ℕ) (b : Bool) → (c.«record» == n) ≡ b → gave_to (take (i + 1) changes) donor n ≡ true → n ≤ c.«record»
          by n true is_it gave = let same : c.«record» ≡ n = grind (arith, nat_tests) in omega (arith, same)
          by n false is_it gave =
              let other : n ≢ c.«record» = grind (arith, nat_tests) in
              gave_within (take i changes) c.«record» donor n records_before (sym (beside n other) ∙ gave)

      given_gift : AreGifts rows (take (i + 1) changes) donor (with_gift g c.«record»)
      given_gift = by (is_from c.«record» g.last) refl
        where
          by : (b : Bool) → is_from c.«record» g.last ≡ b
              → AreGifts rows (take (i + 1) changes) donor (if b then g else record { count = g.count + 1; last = Some c.«record» })
          by true was = again was
          by false was = one_gift was

  -- ---- all records

  module _ (gifts : List Gifts) (are : AreAllGifts rows (take i changes) gifts) where
    -- a change of a record beyond the last
    pub gifts_beyond : rows ≤ c.«record» → AreAllGifts rows (take (i + 1) changes) gifts
    gifts_beyond beyond = record {
      long = are.long;
      each = λ k d inside. no_gift_by k (get_or gifts k d) (are.each k d inside) (λ n low.
          let missed : (c.«record» == n) ≡ false = grind (arith, nat_tests) in
          ap (λ b. b && is_from k c.donor) missed);
    }

    pub gifts_noted : c.«record» < rows → AreAllGifts rows (take (i + 1) changes) (noted gifts c)
    gifts_noted inside_rows = by c.donor refl
      where
        none_given : (k : ℕ) (d : Gifts) → k < rows → is_from k c.donor ≡ false → AreGifts rows (take (i + 1) changes) k (get_or gifts k d)
        none_given k d inside missed = no_gift_by k (get_or gifts k d) (are.each k d inside) (λ n low.
            ap (λ b. (c.«record» == n) && b) missed ∙ and_false (c.«record» == n))
          where
            and_false : (b : Bool) → (b && false) ≡ false
            and_false true = refl
            and_false false = refl

        new : ℕ → Gifts
        new donor = with_gift (get_or gifts donor no_gifts) c.«record»

        at : (donor : ℕ) → c.donor ≡ Some donor → (k : ℕ) (d : Gifts) → k < rows → (b : Bool) → (donor == k) ≡ b
            → AreGifts rows (take (i + 1) changes) k (get_or (set gifts donor (new donor)) k d)
        at donor given k d inside true is_it =
            let same : donor ≡ k = grind (arith, nat_tests) in
            let long : donor < length gifts = omega (arith, inside, same, are.long) in
            let read : get_or (set gifts donor (new donor)) k d ≡ new donor = ap (λ n. get_or (set gifts donor (new donor)) n d) (sym same)
            ∙ get_or-set_same gifts donor (new donor) d long in
            subst (λ (g : Gifts). AreGifts rows (take (i + 1) changes) k g) (sym read)
            (subst (λ n. AreGifts rows (take (i + 1) changes) n (new donor)) same
            (given_gift donor (get_or gifts donor no_gifts) (are.each donor no_gifts (omega (arith, inside, same))) given inside_rows))
        at donor given k d inside false is_it =
            let other : k ≢ donor = grind (arith, nat_tests) in
            let read : get_or (set gifts donor (new donor)) k d ≡ get_or gifts k d = get_or-set_other gifts donor k (new donor) d other in
            subst (λ (g : Gifts). AreGifts rows (take (i + 1) changes) k g) (sym read)
            (none_given k d inside (ap (is_from k) given ∙ is_it))

        by : (o : Option ℕ) → c.donor ≡ o → AreAllGifts rows (take (i + 1) changes) (option_map_or (λ donor. set gifts donor (new donor)) o gifts)
        by None given = record { long = are.long; each = λ k d inside. none_given k d inside (ap (is_from k) given) }
        by (Some donor) given = record {
          long = length-set gifts donor (new donor) ∙ are.long;
          each = λ k d inside. at donor given k d inside (donor == k) refl;
        }
