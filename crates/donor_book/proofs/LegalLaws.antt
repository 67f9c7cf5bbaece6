use Rattle.std.proofs.Common.{◌≡◌, ◌≢◌, ℕ, zero, suc, ◌+◌, ◌<◌, ◌≤◌, ◌^◌, Bool, true, false, cond, nat_lt, ⊎_elim, List, [], ◌∷◌, ◌++◌, map, length, get_or}
use Rattle.std.proofs.Common.{set, take, Some, None, Option, refl, sym, ap, ◌∙◌, subst, eqb, arith}
use Rattle.std.specs.Prelude.{replicate, slice_get}
use Rattle.std.proofs.Math.ListN.{length-replicate}
use Rattle.std.specs.List.{All, IsDistinct, find, take-map}
use Rattle.std.proofs.lemmas.Bool.Decides.{eqb_tells}
use Rattle.std.proofs.lemmas.List.Sums.{sum_by_push}
use Rattle.std.proofs.lemmas.List.{length-map, length-set, map-append, map_more, take-append-le, take_all}
use Rattle.std.proofs.lemmas.List.Elements.{All-push}
use Rattle.std.proofs.lemmas.Option.{slice_get-get_or, slice_get_within}
use Rattle.donor_book.specs.declared.claim.Entry.{Entry}
use Rattle.donor_book.specs.declared.claim.Won.{Won}
use Rattle.donor_book.specs.Claims.{IsDonor, IsWithin, claim_of, first_free, gave, uses_of}
use Rattle.donor_book.specs.Entries.{BookParts, IsLegalHistory, won_of, wins_of}
use Rattle.donor_book.specs.inner.Indexes.{IsReplay, book_of, with_use}
use Rattle.donor_book.proofs.IndexLaws.{length_use, once_more, replay_fresh, replay_push, room, uses_few}

-- A legal history, and one entry more.

pub wins_push : (history : List Entry) (e : Entry) → wins_of (history ++ e ∷ []) ≡ wins_of history ++ won_of e ∷ []
wins_push history e = map-append won_of history (e ∷ [])

some_same : (e x : Entry) → Some e ≡ Some x → e ≡ x
some_same e x is = cc

-- what holds of each entry at its place and of one more behind them
each_push : (P : ℕ → Entry → Type 0) (history : List Entry) (e : Entry) → ((k : ℕ) (x : Entry) → slice_get history k ≡ Some x → P k x) → P (length history) e
    → (k : ℕ) (x : Entry) → slice_get (history ++ e ∷ []) k ≡ Some x → P k x
each_push P [] e each last zero x is = subst (P 0) (some_same e x is) last
each_push P [] e each last (suc k) x is = absurd (cc)
each_push P (y ∷ history) e each last zero x is = each 0 x is
each_push P (y ∷ history) e each last (suc k) x is = each_push (λ k x. P (suc k) x) history e (λ k x is. each (suc k) x is) last k x is

-- an entry that the others leave free, of a row that has not claimed, keeps a history legal
pub legal_push : (limit : ℕ) (history : List Entry) (e : Entry) → IsLegalHistory limit history → claim_of e.row_no (wins_of history) ≡ None → e.reply
    ≡ first_free limit (wins_of history) e.ranking → IsLegalHistory limit (history ++ e ∷ [])
legal_push limit history e legal none free = record {
  replies = each_push (λ k (x : Entry). x.reply ≡ first_free limit (take k (wins_of (history ++ e ∷ []))) x.ranking) history e
      (λ k x is. legal.replies k x is ∙ ap (λ l. first_free limit l x.ranking) (sym (before k (let w = slice_get_within history k x is in omega (arith, w)))))
      (free ∙ ap (λ l. first_free limit l e.ranking) (sym (before (length history) (omega arith) ∙ all_before)));
  once = subst (IsDistinct eqb) (sym (ap (λ l. map (λ (w : Won). w.row_no) l) (wins_push history e)
      ∙ map-append (λ (w : Won). w.row_no) (wins_of history) (won_of e ∷ []))) (once_more (wins_of history) e.row_no legal.once none);
}
  where
    as_many : length (wins_of history) ≡ length history
    as_many = length-map history won_of

    before : (k : ℕ) → k ≤ length history → take k (wins_of (history ++ e ∷ [])) ≡ take k (wins_of history)
    before k le = ap (take k) (wins_push history e) ∙ take-append-le k (wins_of history) (won_of e ∷ []) (let l = as_many in omega (arith, l, le))

    all_before : take (length history) (wins_of history) ≡ wins_of history
    all_before = take_all (length history) (wins_of history) (let l = as_many in omega (arith, l))

-- nobody has claimed
pub legal_fresh : (limit : ℕ) → IsLegalHistory limit []
unfolding IsDistinct
legal_fresh limit = record { replies = λ k x is. absurd (none k x is); once = tt }
  where
    none : (k : ℕ) (x : Entry) → slice_get [] k ≡ Some x → ⊥
    none k x is = absurd (cc)

-- ---- a book

-- what a book keeps
abbrev pub Keeps : ℕ → List Entry → List ℕ → List (Option (Option ℕ)) → ℕ → Type 0
Keeps limit history uses replies places = IsLegalHistory limit history × All (IsWithin (length uses) (length replies)) (wins_of history)
    × IsReplay (wins_of history) uses replies × (length replies ≤ places) × (length replies < 2 ^ 32)

pub keeps_fresh : (limit donors rows places : ℕ) → rows ≤ places → rows < 4294967296 → Keeps limit [] (replicate donors 0) (replicate rows None) places
keeps_fresh limit donors rows places room few =
    let l = length-replicate {A = Option (Option ℕ)} rows None in
    (legal_fresh limit, (λ k d lt. absurd (omega (arith, lt))), replay_fresh donors rows, omega (arith, l, room), omega (arith, l, few))

-- ---- the entry of a row that has not claimed, in a book

module _ (limit : ℕ) (history : List Entry) (uses : List ℕ) (replies : List (Option (Option ℕ))) (places : ℕ) (e : Entry) (book : BookParts)
    (is : book_of limit uses replies history ≡ book) (keeps : Keeps limit history uses replies places) (row : e.row_no < book.rows)
    (first : claim_of e.row_no (wins_of book.history) ≡ None) where
  as_many : length (wins_of history) ≡ length history
  as_many = length-map history won_of

  first_is : claim_of e.row_no (wins_of history) ≡ None
  first_is = subst (λ (b : BookParts). claim_of e.row_no (wins_of b.history) ≡ None) (sym is) first

  row_is : e.row_no < length replies
  row_is = subst (λ (b : BookParts). e.row_no < b.rows) (sym is) row

  -- there are fewer entries than rows
  pub room_is : length history < length replies
  room_is = let less = room (length uses) (length replies) (wins_of history) e.row_no keeps.1 keeps.0.once row_is first_is in let same = as_many in
      omega (arith, less, same)

  -- so each donor can be counted once more
  pub count_is : (k d : ℕ) → k < length uses → get_or uses k d + 1 < 4294967296
  count_is k d lt =
      let few = uses_few (wins_of history) uses replies k d keeps.2 lt in
      let same = as_many in
      let less = room_is in
      let most = keeps.4 in omega (arith, few, same, less, most)

  -- and the entry placed
  pub place_is : (len : ℕ) → len ≡ length history → len < places
  place_is len at = let less = room_is in let most = keeps.3 in omega (arith, at, less, most)

  module _ (donor : IsDonor book.donors e.reply) (free : e.reply ≡ first_free book.limit (wins_of book.history) e.ranking) where
    donor_is : IsDonor (length uses) e.reply
    donor_is = subst (λ (b : BookParts). IsDonor b.donors e.reply) (sym is) donor

    free_is : e.reply ≡ first_free limit (wins_of history) e.ranking
    free_is = subst (λ (b : BookParts). e.reply ≡ first_free b.limit (wins_of b.history) e.ranking) (sym is) free

    within_is : All (IsWithin (length uses) (length replies)) (wins_of (history ++ e ∷ []))
    within_is = subst (λ (ws : List Won). All (IsWithin (length uses) (length replies)) ws) (sym (wins_push history e))
        (All-push (IsWithin (length uses) (length replies)) (wins_of history) (won_of e) keeps.1 (row_is, donor_is))

    -- the book keeps what it kept
    pub keeps_push : Keeps limit (history ++ e ∷ []) (with_use e.reply uses) (set replies e.row_no (Some e.reply)) places
    keeps_push =
        let same_uses = length_use e.reply uses in
        let same_rows = length-set replies e.row_no (Some e.reply) in (
          legal_push limit history e keeps.0 first_is free_is,
          subst (λ n. All (IsWithin n (length (set replies e.row_no (Some e.reply)))) (wins_of (history ++ e ∷ []))) (sym same_uses)
              (subst (λ n. All (IsWithin (length uses) n) (wins_of (history ++ e ∷ []))) (sym same_rows) within_is),
          subst (λ (ws : List Won). IsReplay ws (with_use e.reply uses) (set replies e.row_no (Some e.reply))) (sym (wins_push history e))
              (replay_push (wins_of history) uses replies (won_of e) keeps.2 (row_is, donor_is) first_is),
          (let p = keeps.3 in omega (arith, same_rows, p)),
          (let p = keeps.4 in omega (arith, same_rows, p)),
        )

-- ---- no donor is given more often than the limit

found_passes : (p : ℕ → Bool) (xs : List ℕ) (x : ℕ) → find p xs ≡ Some x → p x ≡ true
found_passes p [] x is = absurd (cc)
found_passes p (y ∷ xs) x is = by (p y) refl is (λ e. found_passes p xs x e)
  where
    same : (y x : ℕ) → Some y ≡ Some x → y ≡ x
    same y x e = cc

    by : (b : Bool) → p y ≡ b → cond b (Some y) (find p xs) ≡ Some x → (find p xs ≡ Some x → p x ≡ true) → p x ≡ true
    by true at e later = subst (λ z. p z ≡ true) (same y x e) at
    by false at e later = later e

abbrev counts : Bool → ℕ
counts b = cond b 1 0

-- a donor that is given is used less often before
one_more : (limit : ℕ) (history : List Won) (ranking : List ℕ) (reply : Option ℕ) (donor : ℕ) → reply ≡ first_free limit history ranking
    → uses_of donor history ≤ limit → uses_of donor history + cond (gave donor reply) 1 0 ≤ limit
one_more limit history ranking None donor is few = omega (arith, few)
one_more limit history ranking (Some d) donor is few = ⊎_elim (λ (t : (eqb donor d ≡ true) × (donor ≡ d)). here t)
    (λ (f : (eqb donor d ≡ false) × (donor ≢ d)). else_where f) (eqb_tells donor d)
  where
    less : nat_lt (uses_of d history) limit ≡ true
    less = found_passes (λ x. nat_lt (uses_of x history) limit) ranking d (sym is)

    here : (eqb donor d ≡ true) × (donor ≡ d) → uses_of donor history + cond (eqb donor d) 1 0 ≤ limit
    here t =
        let below : nat_lt (uses_of donor history) limit ≡ true = ap (λ x. nat_lt (uses_of x history) limit) t.1 ∙ less in
        let one : counts (eqb donor d) ≡ counts true = ap counts t.0 in grind (arith, below, one)

    else_where : (eqb donor d ≡ false) × (donor ≢ d) → uses_of donor history + cond (eqb donor d) 1 0 ≤ limit
    else_where f = let none : counts (eqb donor d) ≡ counts false = ap counts f.0 in omega (arith, few, none)

-- no donor stands in a legal history more often than the limit
pub uses_within : (limit : ℕ) (history : List Entry) (donor : ℕ) → IsLegalHistory limit history → uses_of donor (wins_of history) ≤ limit
uses_within limit history donor legal = subst (λ (ws : List Won). uses_of donor ws ≤ limit)
    (take_all (length history) (wins_of history) (omega (arith, as_many))) (up_to (length history) (omega arith))
  where
    as_many : length (wins_of history) ≡ length history
    as_many = length-map history won_of

    nobody : Entry
    nobody = record { row_no = 0; ranking = []; reply = None }

    up_to : (k : ℕ) → k ≤ length history → uses_of donor (take k (wins_of history)) ≤ limit
    up_to zero le = omega arith
    up_to (suc k) le =
        let e = get_or history k nobody in
        let at : slice_get history k ≡ Some e = slice_get-get_or history k nobody (omega (arith, le)) in
        let more : take (k + 1) (wins_of history) ≡ take k (wins_of history) ++ won_of e ∷ [] =
        take-map won_of (k + 1) history ∙ map_more won_of history k nobody (omega (arith, le))
        ∙ ap (λ (ws : List Won). ws ++ won_of e ∷ []) (sym (take-map won_of k history)) in
        let push = sum_by_push (λ (w : Won). cond (gave donor w.reply) 1 0) (take k (wins_of history)) (won_of e) in
        let few = one_more limit (take k (wins_of history)) e.ranking e.reply donor (legal.replies k e at) (up_to k (omega (arith, le))) in
        let next : k + 1 ≡ suc k = omega arith in
        subst (λ n. uses_of donor (take n (wins_of history)) ≤ limit) next (subst (λ (ws : List Won). uses_of donor ws ≤ limit) (sym more)
        (omega (arith, push, few)))
