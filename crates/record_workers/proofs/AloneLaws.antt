use Rattle.std.proofs.Common.{◌≡◌, ℕ, suc, ◌+◌, ◌<◌, ◌≤◌, cond, eqb, List, [], ◌∷◌, All, Some, length, get_or, map, inl, inr, ⊎_elim, refl, sym, ap, ◌∙◌, subst}
use Rattle.std.proofs.Common.{arith}
use Rattle.std.specs.Prelude.{slice_get}
use Rattle.std.specs.List.{range_with_len, sum_by}
use Rattle.std.specs.List.Sorted.{IsNonDecreasing, IsStrictlyIncreasing}
use Rattle.std.proofs.lemmas.Bool.{cases_lt}
use Rattle.std.proofs.lemmas.List.{length-map}
use Rattle.std.proofs.lemmas.List.Elements.{All-head}
use Rattle.std.proofs.lemmas.List.Kept.{AllPairs-from_increasing}
use Rattle.std.proofs.lemmas.List.Sums.{sum_by-cons}
use Rattle.std.proofs.lemmas.Option.{same_Some}
use Rattle.edit_line.specs.Reductions.{IsIn}
use Rattle.edit_line.proofs.ListPlaces.{StandsAt, first-at, later-at, whole-at}
use Rattle.edit_line.proofs.Members.{in-all}
use Rattle.donor_book.specs.Entries.{won_of}
use Rattle.donor_book.specs.Passes.{AreCollected, ArePlaced, IsWhole, PassState, claims_at}
use Rattle.donor_book.specs.declared.claim.Entry.{Entry}
use Rattle.donor_book.specs.declared.claim.Won.{Won}
use Rattle.donor_book.specs.declared.rule.Placed.{Placed}
use Rattle.ticket_row.specs.Tickets.{times}
use Rattle.record_pieces.specs.Needs.{Need, need_in}
use Rattle.record_pieces.specs.declared.piece.Piece.{Piece}
use Rattle.record_workers.specs.Workers.{AreClaimed}
use Rattle.record_workers.proofs.RangeLaws.{one_at, sorted-range}

-- With one worker the claims are in row order.

-- ---- rising numbers

-- numbers that rise do not fall
pub rising-sorted : (xs : List ℕ) → IsStrictlyIncreasing xs → IsNonDecreasing xs
rising-sorted xs up i j d le lt =
    ⊎_elim (λ (less : i < j). let below = AllPairs-from_increasing xs up i j d less lt in omega (arith, below))
    (λ (ge : j ≤ i). let same : i ≡ j = omega (arith, le, ge) in let equal = ap (λ k. get_or xs k d) same in omega (arith, equal)) (cases_lt i j)

-- ---- the claims of one pass

times-places : (place : ℕ) (mine : List Placed) → times place (map (λ (m : Placed). m.place) mine) ≡ claims_at place mine
times-places place [] = refl
times-places place (m ∷ mine) =
    sum_by-cons (λ n. cond (eqb n place) 1 0) m.place (map (λ (m : Placed). m.place) mine)
    ∙ ap (λ n. one_at place m.place + n) (times-places place mine)
    ∙ sym (sum_by-cons (λ (m : Placed). cond (eqb m.place place) 1 0) m mine)

-- claims at rising places of a list of entries are these entries
entries-are : (all : List Entry) (k : ℕ) (mine : List Placed) (entries : List Entry) → ((m : Placed) → IsIn m mine → slice_get all m.place ≡ Some m.entry)
    → map (λ (m : Placed). m.place) mine ≡ range_with_len k (length entries) → StandsAt all k entries
    → map need_in entries ≡ map (λ (m : Placed). need_in m.entry) mine
entries-are all k [] [] placed places at = refl
entries-are all k [] (e ∷ entries) placed places at = absurd (cc)
entries-are all k (m ∷ mine) [] placed places at = absurd (cc)
entries-are all k (m ∷ mine) (e ∷ entries) placed places at =
    let here : m.place ≡ k = cc in
    let later : map (λ (m : Placed). m.place) mine ≡ range_with_len (k + 1) (length entries) = cc in
    let next : suc k ≡ k + 1 = omega arith in
    let first : e ≡ m.entry = same_Some e m.entry (sym (first-at all k e entries at) ∙ ap (slice_get all) (sym here) ∙ placed m (inl refl)) in
    let rest = entries-are all (k + 1) mine entries (λ n there. placed n (inr there)) later
    (subst (λ n. StandsAt all n entries) next (later-at all k e entries at)) in
    λ i. need_in (first i) ∷ rest i

module _ (limit : ℕ) (pass : PassState) (pieces : List Piece) (claimed : AreClaimed pieces pass) (places : ArePlaced pass.seen pass.mine)
    (history : List Won) (whole : IsWhole limit (pass ∷ []) history) (entries : List Entry) (collected : AreCollected limit (pass ∷ []) history entries) where
  one-pass : (place : ℕ) → times place (map (λ (m : Placed). m.place) pass.mine) ≡ sum_by (λ (p : PassState). claims_at place p.mine) (pass ∷ [])
  one-pass place = let one = sum_by-cons (λ (p : PassState). claims_at place p.mine) pass [] in let same = times-places place pass.mine in
      omega (arith, one, same)

  as-many : length entries ≡ length history
  as-many = sym (length-map entries won_of) ∙ ap length collected.wins

  places-are : map (λ (m : Placed). m.place) pass.mine ≡ range_with_len 0 (length entries)
  places-are = sorted-range (length entries) (map (λ (m : Placed). m.place) pass.mine)
      (rising-sorted (map (λ (m : Placed). m.place) pass.mine) places.rising) (record {
        below = λ k lt. absurd (omega (arith, lt));
        once = λ k low lt. one-pass k ∙ whole.once k (omega (arith, lt, as-many));
        past = λ k low. one-pass k ∙ whole.no_other k (omega (arith, low, as-many));
      })

  -- the rows of the history rise
  pub alone-rising : IsStrictlyIncreasing (map (λ (need : Need). need.row_no) (map need_in entries))
  alone-rising =
      let placed = All-head (λ (p : PassState). All (λ (m : Placed). slice_get entries m.place ≡ Some m.entry) p.mine) pass [] collected.placed in
      let same = entries-are entries 0 pass.mine entries
      (λ m there. in-all (λ (m : Placed). slice_get entries m.place ≡ Some m.entry) m pass.mine placed there) places-are (whole-at entries) in
      subst (λ (needs : List Need). IsStrictlyIncreasing (map (λ (need : Need). need.row_no) needs)) (sym same) claimed.rising
