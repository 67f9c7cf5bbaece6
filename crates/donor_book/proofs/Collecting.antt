-- The claims of the passes, each at its place, are a legal history.
use Rattle.std.proofs.Common.{◌≡◌, ℕ, zero, suc, ◌+◌, ◌<◌, ◌≤◌, Bool, true, false, cond, List, [], ◌∷◌, map, length, take, Some, None, Option, refl, sym, ap}
use Rattle.std.proofs.Common.{◌∙◌, subst, nat_eq, eqb, arith}
use Rattle.std.specs.Prelude.{slice_get}
use Rattle.std.specs.List.{All, IsDistinct, find}
use Rattle.std.proofs.lemmas.Bool.{eq-eqb, eqb-true}
use Rattle.std.proofs.lemmas.List.{length-map}
use Rattle.std.proofs.lemmas.List.Elements.{All-head, All-tail}
use Rattle.std.proofs.lemmas.List.Sums.{get_or-le-sum_by, sum_by-cons}
use Rattle.std.proofs.lemmas.Option.{slice_get_within}
use lib.ListN.{get_or}
use Rattle.donor_book.specs.declared.claim.Entry.{Entry}
use Rattle.donor_book.specs.declared.claim.Won.{Won}
use Rattle.donor_book.specs.declared.rule.Placed.{Placed}
use Rattle.donor_book.specs.Claims.{first_free}
use Rattle.donor_book.specs.Entries.{IsLegalHistory, won_of, wins_of}
use Rattle.donor_book.specs.Passes.{AreCollected, IsClaim, IsWhole, PassState, claims_at}
use Rattle.donor_book.specs.inner.Rule.{no_entry}
use Rattle.donor_book.proofs.Taking.{all_claims, all_mine, claims_of, places_of}
use Rattle.donor_book.proofs.WordLaws.{some_same}

-- the claim at a place
abbrev claim_with : ℕ → List Placed → Option Placed
claim_with k mine = find (λ (m : Placed). nat_eq m.place k) mine

-- its entry
abbrev entry_or : Option Placed → Entry
entry_or None = no_entry
entry_or (Some m) = m.entry

-- the entries of n places from k on
entries_from : List Placed → ℕ → ℕ → List Entry
entries_from mine k zero = []
entries_from mine k (suc n) = entry_or (claim_with k mine) ∷ entries_from mine (suc k) n

-- 1 for a claim at the place
abbrev here_at : ℕ → Placed → ℕ
here_at k m = cond (nat_eq m.place k) 1 0

abbrev counts : Bool → ℕ
counts b = cond b 1 0

-- a claim was found at the place, of which P holds
abbrev Found : (Placed → Type 0) → ℕ → List Placed → Type 0
Found P k mine = (m : Placed) × (claim_with k mine ≡ Some m) × (m.place ≡ k) × P m

found_by : (P : Placed → Type 0) (k : ℕ) (x : Placed) (xs : List Placed) (b : Bool) → nat_eq x.place k ≡ b → P x → 0 < claims_at k (x ∷ xs)
    → (0 < claims_at k xs → Found P k xs) → Found P k (x ∷ xs)
found_by P k x xs true is holds some later = (x, ap (λ b. cond b (Some x) (claim_with k xs)) is, eqb-true x.place k is, holds)
found_by P k x xs false is holds some later =
    let none : counts (nat_eq x.place k) ≡ counts false = ap counts is in
    let rest = later (omega (arith, some, sum_by-cons (here_at k) x xs, none)) in
    (rest.0, ap (λ b. cond b (Some x) (claim_with k xs)) is ∙ rest.1, rest.2, rest.3)

-- where a place is claimed, its claim is found
found : (P : Placed → Type 0) (k : ℕ) (mine : List Placed) → All P mine → 0 < claims_at k mine → Found P k mine
found P k [] all some = absurd (omega (arith, some))
found P k (x ∷ xs) all some = found_by P k x xs (nat_eq x.place k) refl (All-head P x xs all) some (λ more. found P k xs (All-tail P x xs all) more)

alone_by : (k : ℕ) (x : Placed) (xs : List Placed) (i : ℕ) (d : Placed) (b : Bool) → nat_eq x.place k ≡ b → i < length xs → (get_or xs i d).place ≡ k
    → claims_at k (x ∷ xs) ≤ 1 → (claims_at k xs ≤ 1 → claim_with k xs ≡ Some (get_or xs i d))
    → claim_with k (x ∷ xs) ≡ Some (get_or xs i d)
alone_by k x xs i d true is lt at few later =
    let one : counts (nat_eq x.place k) ≡ counts true = ap counts is in
    let two : counts (nat_eq (get_or xs i d).place k) ≡ counts true = ap counts (eq-eqb (get_or xs i d).place k at) in
    let within = get_or-le-sum_by (here_at k) xs i d lt in
    absurd (omega (arith, one, two, within, few, sum_by-cons (here_at k) x xs))
alone_by k x xs i d false is lt at few later =
    let none : counts (nat_eq x.place k) ≡ counts false = ap counts is in
    ap (λ b. cond b (Some x) (claim_with k xs)) is ∙ later (omega (arith, none, few, sum_by-cons (here_at k) x xs))

-- and where it is claimed once, it is the only one
alone : (k : ℕ) (mine : List Placed) (i : ℕ) (d : Placed) → i < length mine → (get_or mine i d).place ≡ k → claims_at k mine ≤ 1 → claim_with k mine
    ≡ Some (get_or mine i d)
alone k [] i d lt at few = absurd (omega (arith, lt))
alone k (x ∷ xs) zero d lt at few = ap (λ b. cond b (Some x) (claim_with k xs)) (eq-eqb x.place k at)
alone k (x ∷ xs) (suc i) d lt at few = alone_by k x xs i d (nat_eq x.place k) refl (omega (arith, lt)) at few
    (λ less. alone k xs i d (omega (arith, lt)) at less)

-- the entry at a place
entries_at : (mine : List Placed) (k n j : ℕ) → j < n → slice_get (entries_from mine k n) j ≡ Some (entry_or (claim_with (k + j) mine))
unfolding entries_from
entries_at mine k zero j lt = absurd (omega (arith, lt))
entries_at mine k (suc n) zero lt = let same : k ≡ k + 0 = omega arith in ap (λ i. Some (entry_or (claim_with i mine))) same
entries_at mine k (suc n) (suc j) lt = let same : suc k + j ≡ k + suc j = omega arith in entries_at mine (suc k) n j (omega (arith, lt))
    ∙ ap (λ i. Some (entry_or (claim_with i mine))) same

-- where each claim is in the history at its place, the entries are those of the history
wins_are : (mine : List Placed) (k : ℕ) (history : List Won) → ((j : ℕ) (x : Won) → slice_get history j ≡ Some x → won_of (entry_or (claim_with (k + j) mine))
    ≡ x) → wins_of (entries_from mine k (length history)) ≡ history
unfolding entries_from
wins_are mine k [] each = refl
wins_are mine k (x ∷ history) each =
    let same : k ≡ k + 0 = omega arith in
    let first : won_of (entry_or (claim_with k mine)) ≡ x = ap (λ i. won_of (entry_or (claim_with i mine))) same ∙ each 0 x refl in
    let rest = wins_are mine (suc k) history (λ j y is. (let next : suc k + j ≡ k + suc j = omega arith in ap (λ i. won_of (entry_or (claim_with i mine))) next
    ∙ each (suc j) y is)) in
    λ i. first i ∷ rest i

same_entry : (e x : Entry) → Some e ≡ Some x → e ≡ x
same_entry e x is = cc

module _ (limit : ℕ) (passes : List PassState) (history : List Won) (whole : IsWhole limit passes history)
    (once : IsDistinct eqb (map (λ (w : Won). w.row_no) history)) where
  -- all claims of the passes
  abbrev mine : List Placed
  mine = claims_of passes

  all : All (IsClaim limit history) mine
  all = all_claims (IsClaim limit history) passes whole.mine

  -- their entries, by place
  abbrev entries : List Entry
  entries = entries_from mine 0 (length history)

  at_place : (k : ℕ) → k < length history → Found (IsClaim limit history) k mine
  at_place k lt = found (IsClaim limit history) k mine all (let one = whole.once k lt in let same = places_of k passes in omega (arith, one, same))

  entry_at : (k : ℕ) → k < length history → slice_get entries k ≡ Some (entry_or (claim_with k mine))
  entry_at k lt = let same : 0 + k ≡ k = omega arith in entries_at mine 0 (length history) k lt ∙ ap (λ i. Some (entry_or (claim_with i mine))) same

  wins_is : wins_of entries ≡ history
  wins_is = wins_are mine 0 history (λ j x is. each j x is (at_place j (slice_get_within history j x is)))
    where
      each : (j : ℕ) (x : Won) → slice_get history j ≡ Some x → Found (IsClaim limit history) j mine → won_of (entry_or (claim_with (0 + j) mine)) ≡ x
      each j x is m =
          let same : 0 + j ≡ j = omega arith in
          let there : slice_get history j ≡ Some (won_of m.0.entry) = subst (λ i. slice_get history i ≡ Some (won_of m.0.entry)) m.2 m.3.0 in
          ap (λ i. won_of (entry_or (claim_with i mine))) same ∙ ap (λ o. won_of (entry_or o)) m.1 ∙ some_same (won_of m.0.entry) x (sym there ∙ is)

  legal : IsLegalHistory limit entries
  legal = record {
    replies = λ place entry is. (let few = slice_get_within entries place entry is in
        let lt : place < length history = (let len = length-map entries won_of in let same = ap length wins_is in omega (arith, few, len, same)) in
        each place entry is lt (at_place place lt));
    once = subst (λ (ws : List Won). IsDistinct eqb (map (λ (w : Won). w.row_no) ws)) (sym wins_is) once;
  }
    where
      each : (place : ℕ) (entry : Entry) → slice_get entries place ≡ Some entry → place < length history → Found (IsClaim limit history) place mine
          → entry.reply ≡ first_free limit (take place (wins_of entries)) entry.ranking
      each place entry is lt m =
          let same : m.0.entry ≡ entry = same_entry m.0.entry entry (sym (entry_at place lt ∙ ap (λ o. Some (entry_or o)) m.1) ∙ is) in
          subst (λ (x : Entry). x.reply ≡ first_free limit (take place (wins_of entries)) x.ranking) same
          (m.3.1 ∙ ap (λ (ws : List Won). first_free limit ws m.0.entry.ranking) (ap (λ i. take i history) m.2 ∙ ap (take place) (sym wins_is)))

  placed : All (λ (m : Placed). slice_get entries m.place ≡ Some m.entry) mine
  placed i d lt =
      let m = get_or mine i d in
      let within : m.place < length history = slice_get_within history m.place (won_of m.entry) (all i d lt).0 in
      let few : claims_at m.place mine ≤ 1 = (let one = whole.once m.place within in let same = places_of m.place passes in omega (arith, one, same)) in
      entry_at m.place within ∙ ap (λ o. Some (entry_or o)) (alone m.place mine i d lt refl few)

  pub collected : (es : List Entry) × AreCollected limit passes history es
  collected = (entries, record { wins = wins_is; placed = all_mine (λ (m : Placed). slice_get entries m.place ≡ Some m.entry) passes placed; legal = legal })
