use Rattle.std.proofs.Common.{◌≡◌, ℕ, zero, suc, ◌+◌, ◌<◌, ◌++◌, List, [], ◌∷◌, Option, Some, None, length, inl, inr, refl, ◌∙◌, arith}
use Rattle.std.specs.List.{range_with_len, sum_by}
use Rattle.std.specs.List.Sorted.{IsNonDecreasing, IsNonDecreasingBy}
use Rattle.std.proofs.lemmas.List.{get_or-map, length-map}
use Rattle.std.proofs.lemmas.List.Sums.{sum_by-cons}
use Rattle.edit_line.specs.Reductions.{IsIn}
use Rattle.record_pieces.specs.Needs.{Need, needs_by, needs_of}
use Rattle.record_pieces.specs.Rests.{rows_of}
use Rattle.record_pieces.specs.declared.piece.Piece.{Piece}
use Rattle.record_pieces.proofs.NeedLaws.{need-from, rows-least}
use Rattle.record_workers.proofs.OrderLaws.{AreApart, Lacks}

-- Pieces in row order are of as many rows, and so are their needs.

-- where a sum is more than nothing, some element of it is
pub some-counts : {X : Type 0} (f : X → ℕ) (xs : List X) → 0 < sum_by f xs → (x : X) × IsIn x xs × (0 < f x)
some-counts f [] some = absurd (omega (arith, some))
some-counts {X} f (x ∷ xs) some = by (f x) refl (λ more. some-counts f xs more)
  where
    by : (n : ℕ) → f x ≡ n → (0 < sum_by f xs → (y : X) × IsIn y xs × (0 < f y)) → (y : X) × IsIn y (x ∷ xs) × (0 < f y)
    by zero is rest = let later = rest (omega (arith, some, sum_by-cons f x xs, is)) in (later.0, inr later.1, later.2)
    by (suc n) is rest = (x, inl refl, omega (arith, is))

-- pieces of a range of rows are of as many rows
pub rows-apart : (k n : ℕ) (pieces : List Piece) → rows_of pieces ≡ range_with_len k n → AreApart (λ (p : Piece). p.row_no) pieces
rows-apart k n [] rows = tt
rows-apart k zero (first ∷ pieces) rows = absurd (cc)
rows-apart k (suc n) (first ∷ pieces) rows =
    let own : first.row_no ≡ k = cc in
    let rest : rows_of pieces ≡ range_with_len (k + 1) n = cc in
    ((λ p there same. absurd (let more = rows-least (k + 1) n pieces rest p there in omega (arith, own, same, more))), rows-apart (k + 1) n pieces rest)

-- and so are their needs
pub needs-apart : (pieces : List Piece) → AreApart (λ (p : Piece). p.row_no) pieces → AreApart (λ (need : Need). need.row_no) (needs_of pieces)
needs-apart [] apart = tt
needs-apart (p ∷ pieces) apart = by p.row_no p.ranking apart.0 (needs-apart pieces apart.1)
  where
    by : (row_no : ℕ) (ranking : Option (List ℕ)) → Lacks (λ (p : Piece). p.row_no) row_no pieces → AreApart (λ (need : Need). need.row_no) (needs_of pieces)
        → AreApart (λ (need : Need). need.row_no) (needs_by row_no ranking ++ needs_of pieces)
    by row_no None lacks rest = rest
    by row_no (Some ranking) lacks rest =
        ((λ need there same. (let (p, in_pieces, row, is) = need-from need pieces there in lacks p in_pieces (row ∙ same))), rest)

-- pieces that do not fall by their rows have rows that do not fall
pub rows-sorted : (pieces : List Piece) → IsNonDecreasingBy (λ (p : Piece). p.row_no) pieces → IsNonDecreasing (rows_of pieces)
rows-sorted [] sorted i j d le lt = absurd (omega (arith, lt))
rows-sorted (p ∷ pieces) sorted i j d le lt =
    let as_many = length-map (p ∷ pieces) (λ (q : Piece). q.row_no) in
    let below : j < length (p ∷ pieces) = omega (arith, lt, as_many) in
    let low = get_or-map (λ (q : Piece). q.row_no) (p ∷ pieces) i p d (omega (arith, le, below)) in
    let high = get_or-map (λ (q : Piece). q.row_no) (p ∷ pieces) j p d below in
    let step = sorted i j p le below in
    omega (arith, low, high, step)
