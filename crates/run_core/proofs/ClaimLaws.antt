-- The history of claims, whatever the order of the events.
use Rattle.std.proofs.Common.{◌≡◌, ℕ, Bool, true, false, ◌||◌, cond, List, [], ◌∷◌, ◌++◌, map, Option, Some, None, is_some, eqb, refl, sym, ap, ◌∙◌, subst}
use Rattle.std.proofs.Common.{append_assoc, append-nil}
use Rattle.std.specs.List.{list_any}
use Rattle.std.proofs.lemmas.List.{map-append}
use Rattle.donor_book.specs.Claims.{answer_to, claim_of, first_free, given, had_or}
use Rattle.donor_book.specs.Entries.{IsLegalHistory, entry_of, history_after, won_of, wins_of}
use Rattle.donor_book.specs.declared.claim.Claim.{Claim}
use Rattle.donor_book.specs.declared.claim.Entry.{Entry}
use Rattle.donor_book.specs.declared.claim.Won.{Won}
use Rattle.donor_book.proofs.LegalLaws.{legal_fresh, legal_push}
use Rattle.run_core.specs.Laws.{HistoryLaw, claims_of, donor_in, first_claims}
use Rattle.run_core.specs.Runs.{answered, run}
use Rattle.run_core.specs.States.{CoreParts, start_of}
use Rattle.run_core.specs.Steps.{after, after_draw}
use Rattle.run_core.specs.declared.event.CoreEvent.{CoreEvent}
use Rattle.run_core.specs.declared.event.CoreEvent.TheVariants as event

-- ---- the history stays legal

legal_claim : (limit : ℕ) (history : List Entry) (row : ℕ) (ranking : List ℕ) → IsLegalHistory limit history
    → IsLegalHistory limit (history_after history row ranking (answer_to limit (wins_of history) row ranking))
legal_claim limit history row ranking legal = by (claim_of row (wins_of history)) refl (first_free limit (wins_of history) ranking) refl
  where
    by : (had : Option Won) → claim_of row (wins_of history) ≡ had → (free : Option ℕ) → first_free limit (wins_of history) ranking ≡ free
        → IsLegalHistory limit (history_after history row ranking (had_or had (given free)))
    by (Some w) had free is = legal
    by None none None is = legal_push limit history (entry_of row ranking None) legal none (sym is)
    by None none (Some donor) is = legal_push limit history (entry_of row ranking (Some donor)) legal none (sym is)

legal_run : (state : CoreParts) (events : List CoreEvent) → IsLegalHistory state.book.limit state.book.history
    → IsLegalHistory state.book.limit (run state events).book.history
legal_run state [] legal = legal
legal_run state (event.Draw worker ∷ events) legal = legal_run (after_draw state worker) events legal
legal_run state (event.Publish worker system ∷ events) legal = legal_run (after state (event.Publish worker system)) events legal
legal_run state (event.Claim worker row ranking ∷ events) legal = legal_run (after state (event.Claim worker row ranking)) events
    (legal_claim state.book.limit state.book.history row ranking legal)

-- ---- the history is made of the first claims

abbrev rows_of : List Entry → List ℕ
rows_of history = map (λ (e : Entry). e.row_no) history

-- a row stands in the history exactly where it has claimed
has_claimed : (history : List Entry) (row : ℕ) → list_any (λ x. eqb x row) (rows_of history) ≡ is_some (claim_of row (wins_of history))
has_claimed [] row = refl
has_claimed (e ∷ history) row = by (eqb e.row_no row) (has_claimed history row)
  where
    by : (b : Bool) → list_any (λ x. eqb x row) (rows_of history) ≡ is_some (claim_of row (wins_of history))
        → (b || list_any (λ x. eqb x row) (rows_of history)) ≡ is_some (cond b (Some (won_of e)) (claim_of row (wins_of history)))
    by true is = refl
    by false is = is

-- one claim, whose history is made of first claims, and of what follows it
module _ (limit : ℕ) (history : List Entry) (row : ℕ) (ranking : List ℕ) (rest end : List Entry) where
  abbrev Made : Claim → Type 0
  Made a = end ≡ history_after history row ranking a ++ first_claims (rows_of (history_after history row ranking a)) rest → end ≡ history
      ++ first_claims (rows_of history) (entry_of row ranking (donor_in a) ∷ rest)

  -- a row that had claimed adds nothing
  again : (reply : Option ℕ) → list_any (λ x. eqb x row) (rows_of history) ≡ true → first_claims (rows_of history) (entry_of row ranking reply ∷ rest)
      ≡ first_claims (rows_of history) rest
  again reply had = ap (λ b. cond b (first_claims (rows_of history) rest) (entry_of row ranking reply ∷ first_claims (rows_of history ++ row ∷ []) rest)) had

  -- a first claim is added
  first : (reply : Option ℕ) → list_any (λ x. eqb x row) (rows_of history) ≡ false → first_claims (rows_of history) (entry_of row ranking reply ∷ rest)
      ≡ entry_of row ranking reply ∷ first_claims (rows_of history ++ row ∷ []) rest
  first reply none = ap (λ b. cond b (first_claims (rows_of history) rest) (entry_of row ranking reply ∷ first_claims (rows_of history ++ row ∷ []) rest)) none

  added : (reply : Option ℕ) → list_any (λ x. eqb x row) (rows_of history) ≡ false → end ≡ (history ++ entry_of row ranking reply ∷ [])
      ++ first_claims (rows_of (history ++ entry_of row ranking reply ∷ [])) rest
      → end ≡ history ++ first_claims (rows_of history) (entry_of row ranking reply ∷ rest)
  added reply none now =
      let e = entry_of row ranking reply in
      now ∙ append_assoc history (e ∷ []) (first_claims (rows_of (history ++ e ∷ [])) rest)
      ∙ ap (λ rows. history ++ e ∷ first_claims rows rest) (map-append (λ (x : Entry). x.row_no) history (e ∷ []))
      ∙ ap (λ cs. history ++ cs) (sym (first reply none))

  made_claim : Made (answer_to limit (wins_of history) row ranking)
  made_claim = by (claim_of row (wins_of history)) (has_claimed history row) (first_free limit (wins_of history) ranking)
    where
      by : (had : Option Won) → list_any (λ x. eqb x row) (rows_of history) ≡ is_some had → (free : Option ℕ) → Made (had_or had (given free))
      by (Some w) had free now = now ∙ ap (λ cs. history ++ cs) (sym (again w.reply had))
      by None none None now = added None none now
      by None none (Some donor) now = added (Some donor) none now

made_run : (state : CoreParts) (events : List CoreEvent) → (run state events).book.history ≡ state.book.history
    ++ first_claims (rows_of state.book.history) (claims_of (answered state events))
made_run state [] = sym (append-nil state.book.history)
made_run state (event.Draw worker ∷ events) = made_run (after_draw state worker) events
made_run state (event.Publish worker system ∷ events) = made_run (after state (event.Publish worker system)) events
made_run state (event.Claim worker row ranking ∷ events) =
    let next = after state (event.Claim worker row ranking) in
    made_claim state.book.limit state.book.history row ranking (claims_of (answered next events)) (run next events).book.history (made_run next events)

pub history_is : HistoryLaw
history_is rows workers edits book events fresh may =
    let state = start_of rows workers edits book in (
      legal_run state events (subst (IsLegalHistory book.limit) (sym fresh) (legal_fresh book.limit)),
      made_run state events ∙ ap (λ (h : List Entry). h ++ first_claims (rows_of h) (claims_of (answered state events))) fresh,
    )
