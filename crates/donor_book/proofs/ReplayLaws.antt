-- Claims that are read one after another, with the uses and the replies of those that were read.
use Rattle.std.proofs.Common.{◌≡◌, ℕ, ◌+◌, ◌<◌, false, true≢false, List, [], ◌∷◌, ◌++◌, map, length, set, get_or, take, Some, None, Option, refl, sym, ap, ◌∙◌}
use Rattle.std.proofs.Common.{subst, nat_lt, eqb, arith}
use Rattle.std.specs.Prelude.{replicate, slice_get, slice_index}
use Rattle.std.specs.Bool.{Decides}
use Rattle.std.specs.List.{All, IsDistinct, find}
use Rattle.std.specs.Option.{is_some, option_eq}
use Rattle.std.proofs.Math.ListN.{length-replicate}
use Rattle.std.proofs.Math.Seq.{get_or-append_seam, take-append_seam}
use Rattle.std.proofs.lemmas.Bool.Decides.{Decides-eqb, Decides-like}
use Rattle.std.proofs.lemmas.List.{length-append, length-map, length-set, take_more}
use Rattle.std.proofs.lemmas.Option.{none-some, slice_get-get_or}
use Rattle.donor_book.specs.declared.claim.Entry.{Entry}
use Rattle.donor_book.specs.declared.claim.Won.{Won}
use Rattle.donor_book.specs.Claims.{IsDonor, claim_of, first_free, uses_of}
use Rattle.donor_book.specs.Entries.{IsEntryWithin, IsFirstIllegal, IsLegalHistory, won_of, wins_of}
use Rattle.donor_book.specs.inner.Indexes.{IsNext, IsReplay, book_of, with_use}
use Rattle.donor_book.proofs.IndexLaws.{found_within, free_is, length_use, no_claim, none_before}
use Rattle.donor_book.proofs.LegalLaws.{Keeps, count_is, keeps_fresh, keeps_push, wins_push}

-- ---- whether an entry may stand next

same_reply : (a b : Option ℕ) → Decides (option_eq eqb a b) (a ≡ b)
same_reply None None = (λ _. refl, λ _. refl)
same_reply None (Some d) = (λ is. absurd (true≢false (sym is)), λ is. absurd (none-some d is))
same_reply (Some d) None = (λ is. absurd (true≢false (sym is)), λ is. absurd (none-some d (sym is)))
same_reply (Some d) (Some b) = Decides-like (eqb d b) (ap Some) some_same (Decides-eqb d b)
  where
    some_same : Some d ≡ Some b → d ≡ b
    some_same is = cc

not_some : (o : Option (Option ℕ)) → is_some o ≡ false → o ≡ None
not_some None is = refl
not_some (Some d) is = absurd (true≢false is)

-- a row that has no reply yet may claim next, with the first donor whose uses are below the limit
pub may_follow : (limit : ℕ) (history : List Won) (uses : List ℕ) (replies : List (Option (Option ℕ))) (e : Entry) → IsReplay history uses replies
    → IsEntryWithin (length uses) (length replies) e → is_some (get_or replies e.row_no None) ≡ false
    → Decides (option_eq eqb (find (λ d. nat_lt (slice_index uses d) limit) e.ranking) e.reply) (IsNext limit history e)
may_follow limit history uses replies e replay within new = Decides-like (option_eq eqb (find (λ d. nat_lt (slice_index uses d) limit) e.ranking) e.reply)
    (λ is. (no_claim (claim_of e.row_no history) (sym (replay.answered e.row_no None within.0) ∙ not_some (get_or replies e.row_no None) new), sym is ∙ free))
    (λ next. free ∙ sym next.1)
    (same_reply (find (λ d. nat_lt (slice_index uses d) limit) e.ranking) e.reply)
  where
    free : find (λ d. nat_lt (slice_index uses d) limit) e.ranking ≡ first_free limit history e.ranking
    free = free_is limit history uses replies e.ranking replay within.1

-- the last entry of a legal history may stand there
legal_last : (limit : ℕ) (history : List Entry) (e : Entry) → IsLegalHistory limit (history ++ e ∷ []) → IsNext limit (wins_of history) e
legal_last limit history e legal = (
  none_before (wins_of history) [] (won_of e) (subst (λ (ws : List Won). IsDistinct eqb (map (λ (w : Won). w.row_no) ws)) (wins_push history e) legal.once),
  legal.replies (length history) e at ∙ ap (λ ws. first_free limit ws e.ranking) before,
)
  where
    at : slice_get (history ++ e ∷ []) (length history) ≡ Some e
    at = slice_get-get_or (history ++ e ∷ []) (length history) e (let l = length-append history (e ∷ []) in omega (arith, l))
        ∙ ap Some (get_or-append_seam history e [] e)

    before : take (length history) (wins_of (history ++ e ∷ [])) ≡ wins_of history
    before = ap (take (length history)) (wins_push history e) ∙ ap (λ n. take n (wins_of history ++ won_of e ∷ [])) (sym (length-map history won_of))
        ∙ take-append_seam (wins_of history) (won_of e ∷ [])

-- ---- the entry that is read

-- the entries that were read are a legal history, with these uses and replies
abbrev pub HasRead : ℕ → ℕ → ℕ → List Entry → List ℕ → List (Option (Option ℕ)) → Type 0
HasRead limit donors rows history uses replies = Keeps limit history uses replies rows × (length uses ≡ donors) × (length replies ≡ rows)

pub read_none : (limit donors rows : ℕ) → rows < 4294967296 → HasRead limit donors rows [] (replicate donors 0) (replicate rows None)
read_none limit donors rows few = (keeps_fresh limit donors rows rows (omega arith) few, length-replicate donors 0, length-replicate rows None)

module _ (limit donors rows : ℕ) (claims : List Entry) (place : ℕ) (e : Entry) (uses : List ℕ) (replies : List (Option (Option ℕ)))
    (read : HasRead limit donors rows (take place claims) uses replies) (lt : place < length claims) (is : e ≡ get_or claims place e) where
  more : take (place + 1) claims ≡ take place claims ++ e ∷ []
  more = take_more claims place e lt ∙ ap (λ x. take place claims ++ x ∷ []) (sym is)

  -- if it may not stand there, the history is no longer legal
  pub first_at : ¬ IsNext limit (wins_of (take place claims)) e → IsFirstIllegal limit claims place
  first_at unfit = record {
    within = lt;
    before = read.0.0;
    illegal =
        λ legal. unfit (legal_last limit (take place claims) e (subst (IsLegalHistory limit) more legal));
  }

  module _ (all : All (IsEntryWithin donors rows) claims) (next : IsNext limit (wins_of (take place claims)) e) where
    within : IsEntryWithin (length uses) (length replies) e
    within = rw (read.1, read.2) (subst (IsEntryWithin donors rows) (sym is) (all place e lt))

    -- a donor that is left is one of so many
    pub donor_within : IsDonor (length uses) e.reply
    donor_within = subst (IsDonor (length uses)) (sym next.1) (found_within (length uses) (λ d. nat_lt (uses_of d (wins_of (take place claims))) limit)
        e.ranking within.1)

    -- there is room to count it
    pub room_within : (k d : ℕ) → k < length uses → get_or uses k d + 1 < 4294967296
    room_within = count_is limit (take place claims) uses replies rows e (book_of limit uses replies (take place claims)) refl read.0 within.0 next.0

    -- and it is read
    pub read_more : HasRead limit donors rows (take (place + 1) claims) (with_use e.reply uses) (set replies e.row_no (Some e.reply))
    read_more = (
      subst (λ h. Keeps limit h (with_use e.reply uses) (set replies e.row_no (Some e.reply)) rows) (sym more)
          (keeps_push limit (take place claims) uses replies rows e (book_of limit uses replies (take place claims)) refl read.0 within.0 next.0 donor_within
          next.1),
      length_use e.reply uses ∙ read.1,
      length-set replies e.row_no (Some e.reply) ∙ read.2,
    )
