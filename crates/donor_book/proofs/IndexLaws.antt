use Rattle.std.proofs.Common.{◌≡◌, ◌≢◌, ℕ, zero, suc, ◌+◌, ◌<◌, ◌≤◌, Bool, true, false, true≢false, List, [], ◌∷◌, ◌++◌, map, length, set, get_or, Some, None}
use Rattle.std.proofs.Common.{Option, cond, refl, sym, ap, ◌∙◌, ⊎_elim, nat_lt, eqb, arith, length-append}
use Rattle.std.specs.Prelude.{slice_index, option_map, replicate}
use Rattle.std.specs.List.{All, AllByRecursion, IsDistinct, find, list_any}
use Rattle.std.specs.Option.{option_or}
use Rattle.std.proofs.Math.ListN.{get_or-replicate, length-replicate}
use Rattle.std.proofs.lemmas.Bool.{eqb-true, eq-eqb}
use Rattle.std.proofs.lemmas.Bool.Decides.{eqb_tells}
use Rattle.std.proofs.lemmas.Cmp.{nat_eq_equiv}
use Rattle.std.proofs.lemmas.List.{get_or-set_other, get_or-set_same, length-map, length-set}
use Rattle.std.proofs.lemmas.List.Elements.{All-head, All-map, All-push, All-tail}
use Rattle.std.proofs.lemmas.List.Folds.{Any-from_list_any, find-append}
use Rattle.std.proofs.lemmas.List.Sums.{count_by-le-length, sum_by_push}
use Rattle.std.proofs.lemmas.Map.Keys.{IsDistinct-push}
use Rattle.std.proofs.lemmas.Map.Steps.{length-le_from_distinct_below}
use Rattle.donor_book.specs.declared.claim.Won.{Won}
use Rattle.donor_book.specs.Claims.{IsDonor, IsWithin, claim_of, first_free, gave, uses_of}
use Rattle.donor_book.specs.inner.Indexes.{IsReplay, with_use}

-- The table of uses and the index of rows.

-- tests that agree on the list find the same
find_same : (p q : ℕ → Bool) (xs : List ℕ) → All (λ x. p x ≡ q x) xs → find p xs ≡ find q xs
find_same p q [] all = refl
find_same p q (x ∷ xs) all =
    let here : p x ≡ q x = All-head (λ (y : ℕ). p y ≡ q y) x xs all in
    let rest = find_same p q xs (All-tail (λ (y : ℕ). p y ≡ q y) x xs all) in
    λ i. cond (here i) (Some x) (rest i)

-- the first donor whose uses in the table are below the limit is the first that has uses left
pub free_is : (limit : ℕ) (history : List Won) (uses : List ℕ) (replies : List (Option (Option ℕ))) (ranking : List ℕ) → IsReplay history uses replies
    → All (λ d. d < length uses) ranking
    → find (λ d. nat_lt (slice_index uses d) limit) ranking ≡ first_free limit history ranking
free_is limit history uses replies ranking replay all = find_same (λ d. nat_lt (slice_index uses d) limit) (λ d. nat_lt (uses_of d history) limit) ranking
    (λ k d lt. ap (λ n. nat_lt n limit) (replay.counted (get_or ranking k d) (all k d lt)))

-- what is found is one of the list
pub found_within : (n : ℕ) (p : ℕ → Bool) (xs : List ℕ) → All (λ x. x < n) xs → IsDonor n (find p xs)
found_within n p [] all = tt
found_within n p (x ∷ xs) all = either_way (p x) (All-head (λ (y : ℕ). y < n) x xs all) (found_within n p xs (All-tail (λ (y : ℕ). y < n) x xs all))
  where
    either_way : (b : Bool) → x < n → IsDonor n (find p xs) → IsDonor n (cond b (Some x) (find p xs))
    either_way true here rest = here
    either_way false here rest = rest

-- ---- there is room for the claim of a row that has not claimed

other_way : (a b : ℕ) → eqb a b ≡ false → eqb b a ≡ false
other_way a b is = ⊎_elim (λ (t : (eqb b a ≡ true) × (b ≡ a)). absurd (true≢false (sym (eq-eqb a b (sym t.1)) ∙ is))) (λ (f : (eqb b a ≡ false) × (b ≢ a)). f.0)
    (eqb_tells b a)

-- where nothing is found, not the first
pub first_none : {X : Type 0} (b : Bool) (x : X) (rest : Option X) → cond b (Some x) rest ≡ None → (b ≡ false) × (rest ≡ None)
first_none true x rest none = absurd (cc)
first_none false x rest none = (refl, none)

-- a row without a claim is none of the rows
pub no_row : (history : List Won) (row : ℕ) → claim_of row history ≡ None → list_any (eqb row) (map (λ (w : Won). w.row_no) history) ≡ false
no_row [] row none = refl
no_row (w ∷ history) row none =
    let apart = first_none (eqb w.row_no row) w (claim_of row history) none in
    let here : eqb row w.row_no ≡ false = other_way w.row_no row apart.0 in
    rw here (no_row history row apart.1)

-- what is one of a list of numbers below n is below n
pub any_below : (n q : ℕ) (xs : List ℕ) → All (λ x. x < n) xs → list_any (eqb q) xs ≡ true → q < n
any_below n q xs all any =
    let a = Any-from_list_any (eqb q) xs any in
    let lt : get_or xs a.0 a.1 < n = all a.0 a.1 a.2 in
    let e : q ≡ a.1 = eqb-true q a.1 a.4 in
    let f : get_or xs a.0 a.1 ≡ a.1 = a.3 in omega (arith, lt, e, f)

-- the rows of a history and one that has not claimed differ
pub once_more : (history : List Won) (row : ℕ) → IsDistinct eqb (map (λ (w : Won). w.row_no) history) → claim_of row history ≡ None
    → IsDistinct eqb (map (λ (w : Won). w.row_no) history ++ row ∷ [])
once_more history row once none = IsDistinct-push nat_eq_equiv (map (λ (w : Won). w.row_no) history) row once (no_row history row none)

-- a row stands once, so it does not stand before its claim
pub none_before : (seen more : List Won) (x : Won) → IsDistinct eqb (map (λ (w : Won). w.row_no) (seen ++ x ∷ more)) → claim_of x.row_no seen ≡ None
unfolding IsDistinct
none_before [] more x once = refl
none_before (w ∷ seen) more x once = let apart : eqb w.row_no x.row_no ≡ false = in_middle (eqb w.row_no) seen more x once.0 in
    rw apart (none_before seen more x once.1)
  where
    in_middle : (test : ℕ → Bool) (seen more : List Won) (x : Won) → AllByRecursion (λ y. test y ≡ false) (map (λ (w : Won). w.row_no) (seen ++ x ∷ more))
        → test x.row_no ≡ false
    in_middle test [] more x all = all.0
    in_middle test (w ∷ seen) more x all = in_middle test seen more x all.1

-- no reply is no claim
pub no_claim : (o : Option Won) → option_map (λ (w : Won). w.reply) o ≡ None → o ≡ None
no_claim None e = refl
no_claim (Some w) e = absurd (cc)

-- while a row has not claimed, there are fewer claims than rows
pub room : (donors rows : ℕ) (history : List Won) (row : ℕ) → All (IsWithin donors rows) history → IsDistinct eqb (map (λ (w : Won). w.row_no) history)
    → row < rows → claim_of row history ≡ None → length history < rows
room donors rows history row within once lt none =
    let taken = map (λ (w : Won). w.row_no) history in
    let below : All (λ x. x < rows) taken = All-map (λ (x : ℕ). x < rows) (λ (w : Won). w.row_no) history (λ k d l. (within k d l).0) in
    let most = length-le_from_distinct_below (taken ++ row ∷ []) rows (once_more history row once none)
    (λ q any. any_below rows q (taken ++ row ∷ []) (All-push (λ (x : ℕ). x < rows) taken row below lt) any) in
    let len = length-append taken (row ∷ []) in
    let same = length-map history (λ (w : Won). w.row_no) in
    omega (arith, most, len, same)

-- ---- one claim more

pub length_use : (reply : Option ℕ) (uses : List ℕ) → length (with_use reply uses) ≡ length uses
length_use None uses = refl
length_use (Some d) uses = length-set uses d (slice_index uses d + 1)

counted_use : (reply : Option ℕ) (uses : List ℕ) (donor : ℕ) → IsDonor (length uses) reply → slice_index (with_use reply uses) donor
    ≡ slice_index uses donor + cond (gave donor reply) 1 0
counted_use None uses donor within = omega arith
counted_use (Some d) uses donor within = ⊎_elim (λ (t : (eqb donor d ≡ true) × (donor ≡ d)). here t) (λ (f : (eqb donor d ≡ false) × (donor ≢ d)). else_where f)
    (eqb_tells donor d)
  where
    here : (eqb donor d ≡ true) × (donor ≡ d) → slice_index (set uses d (slice_index uses d + 1)) donor ≡ slice_index uses donor + cond (eqb donor d) 1 0
    here t = ap (slice_index (set uses d (slice_index uses d + 1))) t.1 ∙ get_or-set_same uses d (slice_index uses d + 1) 0 within
        ∙ ap (λ k. slice_index uses k + 1) (sym t.1) ∙ ap (λ b. slice_index uses donor + cond b 1 0) (sym t.0)

    else_where : (eqb donor d ≡ false) × (donor ≢ d) → slice_index (set uses d (slice_index uses d + 1)) donor ≡ slice_index uses donor + cond (eqb donor d) 1 0
    else_where f = get_or-set_other uses d donor (slice_index uses d + 1) 0 f.1 ∙ omega arith ∙ ap (λ b. slice_index uses donor + cond b 1 0) (sym f.0)

claim_push : (history : List Won) (x : Won) (row : ℕ) → claim_of row (history ++ x ∷ []) ≡ option_or (claim_of row history)
    (cond (eqb x.row_no row) (Some x) None)
claim_push history x row = find-append (λ (w : Won). eqb w.row_no row) history (x ∷ [])

pub replay_push : (history : List Won) (uses : List ℕ) (replies : List (Option (Option ℕ))) (x : Won) → IsReplay history uses replies
    → IsWithin (length uses) (length replies) x → claim_of x.row_no history ≡ None
    → IsReplay (history ++ x ∷ []) (with_use x.reply uses) (set replies x.row_no (Some x.reply))
replay_push history uses replies x replay within none = record {
  counted = λ donor lt. counted_use x.reply uses donor within.1 ∙ ap (λ n. n + cond (gave donor x.reply) 1 0)
      (replay.counted donor (let l = length_use x.reply uses in omega (arith, l, lt))) ∙ sym
      (sum_by_push (λ (w : Won). cond (gave donor w.reply) 1 0) history x);
  answered = λ row d lt. ⊎_elim (λ (t : (eqb x.row_no row ≡ true) × (x.row_no ≡ row)). here row d t)
      (λ (f : (eqb x.row_no row ≡ false) × (x.row_no ≢ row)). else_where row d (let l = length-set replies x.row_no (Some x.reply) in omega (arith, l, lt)) f)
      (eqb_tells x.row_no row);
}
  where
    here : (row : ℕ) (d : Option (Option ℕ)) → (eqb x.row_no row ≡ true) × (x.row_no ≡ row) → get_or (set replies x.row_no (Some x.reply)) row d
        ≡ option_map (λ (w : Won). w.reply) (claim_of row (history ++ x ∷ []))
    here row d t =
        let now : claim_of row (history ++ x ∷ []) ≡ Some x = claim_push history x row
        ∙ (λ i. option_or ((ap (λ r. claim_of r history) (sym t.1) ∙ none) i) (cond (t.0 i) (Some x) None)) in
        ap (λ r. get_or (set replies x.row_no (Some x.reply)) r d) (sym t.1) ∙ get_or-set_same replies x.row_no (Some x.reply) d within.0
        ∙ ap (option_map (λ (w : Won). w.reply)) (sym now)

    same_or : (o : Option Won) → option_or o None ≡ o
    same_or None = refl
    same_or (Some w) = refl

    else_where : (row : ℕ) (d : Option (Option ℕ)) → row < length replies → (eqb x.row_no row ≡ false) × (x.row_no ≢ row)
        → get_or (set replies x.row_no (Some x.reply)) row d ≡ option_map (λ (w : Won). w.reply) (claim_of row (history ++ x ∷ []))
    else_where row d lt f =
        let now : claim_of row (history ++ x ∷ []) ≡ claim_of row history = claim_push history x row
        ∙ ap (λ b. option_or (claim_of row history) (cond b (Some x) None)) f.0 ∙ same_or (claim_of row history) in
        get_or-set_other replies x.row_no row (Some x.reply) d (λ e. f.1 (sym e)) ∙ replay.answered row d lt ∙ ap (option_map (λ (w : Won). w.reply)) (sym now)

pub replay_fresh : (donors rows : ℕ) → IsReplay [] (replicate donors 0) (replicate rows None)
replay_fresh donors rows = record {
  counted = λ donor lt. get_or-replicate donors donor 0 0 (let l = length-replicate {A = ℕ} donors 0 in omega (arith, l, lt));
  answered = λ row d lt. get_or-replicate rows row None d (let l = length-replicate {A = Option (Option ℕ)} rows None in omega (arith, l, lt));
}

pub any_default : (xs : List ℕ) (k d e : ℕ) → k < length xs → get_or xs k d ≡ get_or xs k e
any_default [] k d e lt = absurd (omega (arith, lt))
any_default (x ∷ xs) zero d e lt = refl
any_default (x ∷ xs) (suc k) d e lt = any_default xs k d e (omega (arith, lt))

-- a donor was given at most as often as there are claims
pub uses_few : (history : List Won) (uses : List ℕ) (replies : List (Option (Option ℕ))) (k d : ℕ) → IsReplay history uses replies → k < length uses
    → get_or uses k d ≤ length history
uses_few history uses replies k d replay lt =
    let few = count_by-le-length (λ (w : Won). gave k w.reply) history in
    let is = replay.counted k lt in
    let same = any_default uses k d 0 lt in
    omega (arith, few, is, same)
