use Rattle.std.proofs.Common.{◌≡◌, ◌≢◌, ◌⊎◌, ℕ, ◌<◌, ◌++◌, Bool, true, false, cond, eqb, List, [], ◌∷◌, All, Option, Some, None, IsSome, length, map, inl, inr}
use Rattle.std.proofs.Common.{refl}
use Rattle.std.proofs.Common.{sym, ap, ◌∙◌, subst, arith}
use Rattle.std.specs.List.Sorted.{IsStrictlyIncreasing}
use Rattle.std.proofs.lemmas.Bool.Decides.{eqb_tells}
use Rattle.std.proofs.lemmas.List.{get_or_append_left, get_or_push, length_push, map-append}
use Rattle.std.proofs.lemmas.List.Kept.{AllPairs-from_increasing}
use Rattle.std.proofs.lemmas.Option.{get_or_from_slice_get, slice_get_within}
use Rattle.foundation.proofs.Rising.{rising_push}
use Rattle.edit_line.specs.Reductions.{IsIn}
use Rattle.edit_line.proofs.Members.{all-in, in-all, in-either, in-left, in-map, in-map-out, in-right}
use Rattle.donor_book.specs.Claims.{claim_of}
use Rattle.donor_book.specs.Passes.{PassState, StartsWith}
use Rattle.donor_book.specs.declared.claim.Won.{Won}
use Rattle.class_books.specs.ClassPasses.{ClassPassState, pass_in}
use Rattle.record_pieces.specs.Needs.{Need, needs_of}
use Rattle.record_pieces.specs.Rests.{rows_of}
use Rattle.record_pieces.specs.declared.piece.Piece.{Piece}
use Rattle.record_pieces.proofs.NeedLaws.{need-from, need-in, place-in}
use Rattle.record_workers.specs.Workers.{AreClaimed, AreClaimedIn, HasSeen, needs_in, pieces_in}
use Rattle.record_workers.specs.inner.Draws.{HasAsked, HasAskedIn, HasClaimed, IsDrawnNext}
use Rattle.record_workers.proofs.ClassPieces.{none-more, of-class, one-more}

-- The claims of a worker, after one record more.

-- the last of rising numbers is greater than all before it
below-last : (xs : List ℕ) (x : ℕ) → IsStrictlyIncreasing (xs ++ x ∷ []) → (y : ℕ) → IsIn y xs → y < x
below-last xs x up y there =
    let (place, at) = place-in y xs there in
    let lt = slice_get_within xs place y at in
    let below = AllPairs-from_increasing (xs ++ x ∷ []) up place (length xs) 0 lt (omega (arith, length_push xs x)) in
    omega (arith, below, get_or_append_left xs (x ∷ []) 0 place lt, get_or_push xs x 0 (length xs) refl, get_or_from_slice_get xs place y 0 at)

-- what was seen has been seen still
seen-more : (row : ℕ) (seen more : List Won) → IsSome (claim_of row seen) → IsSome (claim_of row (seen ++ more))
seen-more row [] more some = absurd (cc)
seen-more row (w ∷ seen) more some = by (eqb w.row_no row) some (seen-more row seen more)
  where
    by : (b : Bool) → IsSome (cond b (Some w) (claim_of row seen)) → (IsSome (claim_of row seen) → IsSome (claim_of row (seen ++ more)))
        → IsSome (cond b (Some w) (claim_of row (seen ++ more)))
    by true some later = refl
    by false some later = later some

module _ (pieces : List Piece) (piece : Piece) (old new : PassState) (claimed : AreClaimed pieces old) where
  abbrev more : List Piece
  more = pieces ++ piece ∷ []

  -- what was needed is needed still
  needed-still : (need : Need) → IsIn need (needs_of pieces) → IsIn need (needs_of more)
  needed-still need there = let (p, in_pieces, row, ranking) = need-from need pieces there in
      need-in need p more (in-left p pieces (piece ∷ []) in_pieces) row ranking

  needed-before : (need : Need) → IsIn need (needs_in old) → IsIn need (needs_of more)
  needed-before need there = needed-still need (in-all (λ (n : Need). IsIn n (needs_of pieces)) need (needs_in old) claimed.needed there)

  -- a need is one of those before, or that of the last piece
  need-or-last : (need : Need) → IsIn need (needs_of more) → IsIn need (needs_of pieces) ⊎ ((piece.row_no ≡ need.row_no) × (piece.ranking ≡ Some need.ranking))
  need-or-last need there = let (p, in_more, row, ranking) = need-from need more there in by p row ranking (in-either p pieces (piece ∷ []) in_more)
    where
      by : (p : Piece) → p.row_no ≡ need.row_no → p.ranking ≡ Some need.ranking → IsIn p pieces ⊎ IsIn p (piece ∷ []) → IsIn need (needs_of pieces)
          ⊎ ((piece.row_no ≡ need.row_no) × (piece.ranking ≡ Some need.ranking))
      by p row ranking (inl before) = inl (need-in need p pieces before row ranking)
      by p row ranking (inr (inl same)) = inr (ap (λ (q : Piece). q.row_no) (sym same) ∙ row, ap (λ (q : Piece). q.ranking) (sym same) ∙ ranking)
      by p row ranking (inr (inr none)) = absurd none

  -- a piece without a ranking needs nothing
  claimed-none : piece.ranking ≡ None → new ≡ old → AreClaimed more new
  claimed-none none same = subst (AreClaimed more) (sym same) (record {
    needed = all-in (λ (need : Need). IsIn need (needs_of more)) (needs_in old) needed-before;
    claimed = all-in (λ (need : Need). IsIn need (needs_in old) ⊎ HasSeen old need.row_no) (needs_of more) (λ need there. by need (need-or-last need there));
    rising = claimed.rising;
  })
    where
      by : (need : Need) → IsIn need (needs_of pieces) ⊎ ((piece.row_no ≡ need.row_no) × (piece.ranking ≡ Some need.ranking))
          → IsIn need (needs_in old) ⊎ HasSeen old need.row_no
      by need (inl before) = in-all (λ (need : Need). IsIn need (needs_in old) ⊎ HasSeen old need.row_no) need (needs_of pieces) claimed.claimed before
      by need (inr last) = absurd (cc (sym none ∙ last.1))

  module _ (above : (p : Piece) → IsIn p pieces → p.row_no < piece.row_no) (ranking : List ℕ) (is : piece.ranking ≡ Some ranking)
      (began : StartsWith new.seen old.seen) where
    abbrev last : Need
    last = record { row_no = piece.row_no; ranking = ranking }

    last-needed : IsIn last (needs_of more)
    last-needed = need-in last piece more (in-right piece pieces (piece ∷ []) (inl refl)) refl is

    last-is : (need : Need) → (piece.row_no ≡ need.row_no) × (piece.ranking ≡ Some need.ranking) → need ≡ last
    last-is need same = let (row, of) = same in let ranks : need.ranking ≡ ranking = cc in λ i. record { row_no = sym row i; ranking = ranks i }

    seen-still : (row : ℕ) → HasSeen old row → HasSeen new row
    seen-still row seen = subst (λ (ws : List Won). IsSome (claim_of row ws)) (sym began.1) (seen-more row old.seen began.0 seen)

    -- the rows that were claimed for are below it
    rows-below : All (λ (n : ℕ). n < piece.row_no) (map (λ (need : Need). need.row_no) (needs_in old))
    rows-below = all-in (λ (n : ℕ). n < piece.row_no) (map (λ (need : Need). need.row_no) (needs_in old)) (λ n there. (
        let (need, in_old, same) = in-map-out (λ (need : Need). need.row_no) n (needs_in old) there in
        let (p, in_pieces, row, ranked) = need-from need pieces (in-all (λ (n : Need). IsIn n (needs_of pieces)) need (needs_in old) claimed.needed in_old) in
        let lt = above p in_pieces in
        omega (arith, lt, row, same)))

    -- the pass has claimed for it
    claimed-own : needs_in new ≡ needs_in old ++ last ∷ [] → AreClaimed more new
    claimed-own mine = record {
      needed = subst (All (λ (need : Need). IsIn need (needs_of more))) (sym mine)
          (all-in (λ (need : Need). IsIn need (needs_of more)) (needs_in old ++ last ∷ [])
          (λ need there. in-new need (in-either need (needs_in old) (last ∷ []) there)));
      claimed = all-in (λ (need : Need). IsIn need (needs_in new) ⊎ HasSeen new need.row_no) (needs_of more) (λ need there. by need (need-or-last need there));
      rising = subst (λ (needs : List Need). IsStrictlyIncreasing (map (λ (need : Need). need.row_no) needs)) (sym mine)
          (subst IsStrictlyIncreasing (sym (map-append (λ (need : Need). need.row_no) (needs_in old) (last ∷ [])))
          (rising_push (map (λ (need : Need). need.row_no) (needs_in old)) piece.row_no claimed.rising rows-below));
    }
      where
        in-new : (need : Need) → IsIn need (needs_in old) ⊎ IsIn need (last ∷ []) → IsIn need (needs_of more)
        in-new need (inl before) = needed-before need before
        in-new need (inr (inl same)) = subst (λ (n : Need). IsIn n (needs_of more)) (sym same) last-needed
        in-new need (inr (inr none)) = absurd none

        still : (need : Need) → IsIn need (needs_in old) ⊎ HasSeen old need.row_no → IsIn need (needs_in new) ⊎ HasSeen new need.row_no
        still need (inl own) = inl (subst (IsIn need) (sym mine) (in-left need (needs_in old) (last ∷ []) own))
        still need (inr seen) = inr (seen-still need.row_no seen)

        by : (need : Need) → IsIn need (needs_of pieces) ⊎ ((piece.row_no ≡ need.row_no) × (piece.ranking ≡ Some need.ranking))
            → IsIn need (needs_in new) ⊎ HasSeen new need.row_no
        by need (inl before) = still need
            (in-all (λ (need : Need). IsIn need (needs_in old) ⊎ HasSeen old need.row_no) need (needs_of pieces) claimed.claimed before)
        by need (inr same) = inl (subst (IsIn need) (sym mine) (in-right need (needs_in old) (last ∷ []) (inl (last-is need same))))

    -- another has claimed for it
    claimed-had : needs_in new ≡ needs_in old → HasSeen new piece.row_no → AreClaimed more new
    claimed-had mine had = record {
      needed = subst (All (λ (need : Need). IsIn need (needs_of more))) (sym mine)
          (all-in (λ (need : Need). IsIn need (needs_of more)) (needs_in old) needed-before);
      claimed = all-in (λ (need : Need). IsIn need (needs_in new) ⊎ HasSeen new need.row_no) (needs_of more) (λ need there. by need (need-or-last need there));
      rising = subst (λ (needs : List Need). IsStrictlyIncreasing (map (λ (need : Need). need.row_no) needs)) (sym mine) claimed.rising;
    }
      where
        still : (need : Need) → IsIn need (needs_in old) ⊎ HasSeen old need.row_no → IsIn need (needs_in new) ⊎ HasSeen new need.row_no
        still need (inl own) = inl (subst (IsIn need) (sym mine) own)
        still need (inr seen) = inr (seen-still need.row_no seen)

        by : (need : Need) → IsIn need (needs_of pieces) ⊎ ((piece.row_no ≡ need.row_no) × (piece.ranking ≡ Some need.ranking))
            → IsIn need (needs_in new) ⊎ HasSeen new need.row_no
        by need (inl before) = still need
            (in-all (λ (need : Need). IsIn need (needs_in old) ⊎ HasSeen old need.row_no) need (needs_of pieces) claimed.claimed before)
        by need (inr same) = inr (subst (HasSeen new) same.0 had)

  -- after a piece more, of a row behind the others, the claims are for what is needed
  pub claimed-more : ((p : Piece) → IsIn p pieces → p.row_no < piece.row_no) → HasAsked piece.row_no piece.ranking old new → AreClaimed more new
  claimed-more above asked = by piece.ranking refl asked
    where
      by-claim : (ranking : List ℕ) → piece.ranking ≡ Some ranking → HasClaimed piece.row_no ranking old new → AreClaimed more new
      by-claim ranking is (began, inl mine) = claimed-own above ranking is began mine
      by-claim ranking is (began, inr had) = claimed-had above ranking is began had.0 had.1

      by : (o : Option (List ℕ)) → piece.ranking ≡ o → HasAsked piece.row_no o old new → AreClaimed more new
      by None is asked = claimed-none is asked
      by (Some ranking) is asked = by-claim ranking is asked

-- ---- class by class

-- after a piece more, of the row that was drawn last, the claims of each class are for what is needed there
pub claimed-in : (last : ℕ) (pieces : List Piece) (piece : Piece) (old new : ClassPassState) (drawn : List ℕ) → AreClaimedIn last pieces old
    → IsDrawnNext (rows_of pieces) drawn piece.row_no → HasAskedIn last piece old new → AreClaimedIn last (pieces ++ piece ∷ []) new
claimed-in last pieces piece old new drawn claimed next asked class lt = by (eqb_tells piece.class class)
  where
    above : (p : Piece) → IsIn p (pieces_in class pieces) → p.row_no < piece.row_no
    above p there = below-last (rows_of pieces) piece.row_no (subst IsStrictlyIncreasing next.last next.rising) p.row_no
        (in-map (λ (q : Piece). q.row_no) p pieces (of-class class p pieces there).0)

    own : piece.class ≡ class → AreClaimed (pieces_in class (pieces ++ piece ∷ [])) (pass_in class new)
    own same =
        let asks = asked.own (subst (λ (n : ℕ). n < last) (sym same) lt) in
        let here = subst (λ (n : ℕ). HasAsked piece.row_no piece.ranking (pass_in n old) (pass_in n new)) same asks in
        subst (λ (ps : List Piece). AreClaimed ps (pass_in class new)) (sym (one-more class piece pieces same))
        (claimed-more (pieces_in class pieces) piece (pass_in class old) (pass_in class new) (claimed class lt) above here)

    other : piece.class ≢ class → AreClaimed (pieces_in class (pieces ++ piece ∷ [])) (pass_in class new)
    other apart =
        let same = asked.others class lt (λ is. apart (sym is)) in
        subst (λ (ps : List Piece). AreClaimed ps (pass_in class new)) (sym (none-more class piece pieces apart))
        (subst (AreClaimed (pieces_in class pieces)) (sym same) (claimed class lt))

    by : ((eqb piece.class class ≡ true) × (piece.class ≡ class)) ⊎ ((eqb piece.class class ≡ false) × (piece.class ≢ class))
        → AreClaimed (pieces_in class (pieces ++ piece ∷ [])) (pass_in class new)
    by (inl same) = own same.1
    by (inr apart) = other apart.1
