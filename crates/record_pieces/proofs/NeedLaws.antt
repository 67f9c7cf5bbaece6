use Rattle.std.proofs.Common.{◌≡◌, ℕ, zero, suc, ◌+◌, ◌≤◌, List, [], ◌∷◌, map, Option, Some, None, inl, inr, refl, sym, ap, subst, arith}
use Rattle.std.specs.Prelude.{slice_get}
use Rattle.std.specs.List.{range_with_len}
use Rattle.std.specs.List.Sorted.{IsPermutation}
use Rattle.std.proofs.lemmas.List.Sorted.{All-permutation}
use Rattle.edit_line.specs.Reductions.{IsIn}
use Rattle.edit_line.proofs.Members.{all-in, in-all, in-flat_map, in-flat_map-out}
use Rattle.donor_book.specs.declared.claim.Entry.{Entry}
use Rattle.record_pieces.specs.Needs.{Need, need_in, needs_by, needs_of, rows_claimed}
use Rattle.record_pieces.specs.Rests.{rows_of}
use Rattle.record_pieces.specs.declared.piece.Piece.{Piece}

-- Pieces, and what their records need.

-- ---- elements of lists

-- what is in a list is in the list in another order
pub in-other-order : {X : Type 0} (xs ys : List X) (x : X) → IsPermutation xs ys → IsIn x ys → IsIn x xs
in-other-order xs ys x same there = in-all (λ y. IsIn y xs) x ys
    (All-permutation (λ y. IsIn y xs) xs ys same (all-in (λ y. IsIn y xs) xs (λ y in_xs. in_xs))) there

-- an element stands at some place
pub place-in : {X : Type 0} (x : X) (xs : List X) → IsIn x xs → (place : ℕ) × (slice_get xs place ≡ Some x)
place-in x [] there = absurd there
place-in x (y ∷ ys) (inl same) = (0, ap (λ z. Some z) (sym same))
place-in x (y ∷ ys) (inr there) = let rest = place-in x ys there in (suc rest.0, rest.1)

-- ---- what the records of pieces need

-- each need is that of a piece
pub need-from : (need : Need) (pieces : List Piece) → IsIn need (needs_of pieces) → (p : Piece) × IsIn p pieces × (p.row_no ≡ need.row_no)
    × (p.ranking ≡ Some need.ranking)
need-from need pieces there =
    let (p, in_pieces, in_needs) = in-flat_map-out (λ (p : Piece). needs_by p.row_no p.ranking) need pieces there in
    let is = by p.row_no p.ranking in_needs in
    (p, in_pieces, is.0, is.1)
  where
    by : (row_no : ℕ) (ranking : Option (List ℕ)) → IsIn need (needs_by row_no ranking) → (row_no ≡ need.row_no) × (ranking ≡ Some need.ranking)
    by row_no None in_needs = absurd in_needs
    by row_no (Some ranking) (inl same) = (ap (λ (n : Need). n.row_no) (sym same), ap (λ (n : Need). Some n.ranking) (sym same))
    by row_no (Some ranking) (inr none) = absurd none

-- and what a piece needs is among the needs of all
pub need-in : (need : Need) (p : Piece) (pieces : List Piece) → IsIn p pieces → p.row_no ≡ need.row_no → p.ranking ≡ Some need.ranking
    → IsIn need (needs_of pieces)
need-in need p pieces there row ranking =
    in-flat_map (λ (p : Piece). needs_by p.row_no p.ranking) p need pieces there
    (subst (λ (o : Option (List ℕ)). IsIn need (needs_by p.row_no o)) (sym ranking) (inl (λ i. record { row_no = sym row i; ranking = need.ranking })))

-- ---- pieces in row order

-- pieces of a range of rows are of none before it
pub rows-least : (k n : ℕ) (pieces : List Piece) → rows_of pieces ≡ range_with_len k n → (p : Piece) → IsIn p pieces → k ≤ p.row_no
rows-least k n [] rows p there = absurd there
rows-least k zero (first ∷ pieces) rows p there = absurd (cc)
rows-least k (suc n) (first ∷ pieces) rows p (inl same) = let own : first.row_no ≡ k = cc in omega (arith, own, ap (λ (q : Piece). q.row_no) same)
rows-least k (suc n) (first ∷ pieces) rows p (inr there) =
    let rest : rows_of pieces ≡ range_with_len (k + 1) n = cc in
    let more = rows-least (k + 1) n pieces rest p there in omega (arith, more)

-- the piece of a row stands at the row's place
pub piece-at : (k n : ℕ) (pieces : List Piece) → rows_of pieces ≡ range_with_len k n → (p : Piece) → IsIn p pieces → (place : ℕ)
    → k + place ≡ p.row_no → slice_get pieces place ≡ Some p
piece-at k n [] rows p there place is = absurd there
piece-at k zero (first ∷ pieces) rows p there place is = absurd (cc)
piece-at k (suc n) (first ∷ pieces) rows p (inl same) zero is = ap (λ z. Some z) (sym same)
piece-at k (suc n) (first ∷ pieces) rows p (inl same) (suc place) is =
    let own : first.row_no ≡ k = cc in absurd (let row = ap (λ (q : Piece). q.row_no) same in omega (arith, own, row, is))
piece-at k (suc n) (first ∷ pieces) rows p (inr there) zero is =
    let rest : rows_of pieces ≡ range_with_len (k + 1) n = cc in absurd (let more = rows-least (k + 1) n pieces rest p there in omega (arith, more, is))
piece-at k (suc n) (first ∷ pieces) rows p (inr there) (suc place) is =
    let rest : rows_of pieces ≡ range_with_len (k + 1) n = cc in piece-at (k + 1) n pieces rest p there place (omega (arith, is))

-- ---- what claims ask for

-- the rows of claims, by what they ask for
pub rows-asked : (history : List Entry) → map (λ (need : Need). need.row_no) (map need_in history) ≡ rows_claimed history
rows-asked [] = refl
rows-asked (e ∷ history) = ap (λ (ns : List ℕ). e.row_no ∷ ns) (rows-asked history)
