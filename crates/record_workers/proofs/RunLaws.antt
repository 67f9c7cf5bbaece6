use Rattle.std.proofs.Common.{◌≡◌, ℕ, ◌<◌, true, List, [], ◌∷◌, All, length, map, inl, inr, refl, sym, subst, arith}
use Rattle.std.specs.List.{Any, range_with_len}
use Rattle.std.specs.List.Sorted.{IsNonDecreasingBy, IsPermutation}
use Rattle.std.proofs.lemmas.List.Elements.{All-head, All-weaker}
use Rattle.std.proofs.lemmas.List.Sorted.{All-permutation}
use Rattle.edit_line.specs.Reductions.{IsIn}
use Rattle.edit_line.proofs.Members.{all-in, in-all, in-flat_map-out}
use Rattle.ticket_row.specs.Tickets.{DrawnBelow, SeatState}
use Rattle.class_books.specs.ClassPasses.{ClassPassState, pass_in}
use Rattle.record_pieces.specs.Rests.{ArePiecesIn, IsPieceIn, rows_in, rows_of}
use Rattle.record_pieces.specs.declared.piece.Piece.{Piece}
use Rattle.record_workers.specs.Workers.{AreClaimed, last_class, pieces_in}
use Rattle.record_workers.specs.declared.shared.Shared.{Shared}
use Rattle.record_workers.specs.declared.worker.Worker.{Worker}
use Rattle.record_workers.specs.inner.Gatherings.{HasRun, passes_of, pieces_of, seats_of}
use Rattle.record_workers.proofs.ApartLaws.{rows-sorted}
use Rattle.record_workers.proofs.GatherLaws.{FoundDrawn, all-rows}

-- What workers that have run give, all together.

-- what holds of what is made of each element
all-map : {X Y : Type 0} (P : Y → Type 0) (f : X → Y) (xs : List X) → ((x : X) → IsIn x xs → P (f x)) → All P (map f xs)
all-map {X} {Y} P f xs each = all-in P (map f xs) (by xs each)
  where
    by : (xs : List X) → ((x : X) → IsIn x xs → P (f x)) → (y : Y) → IsIn y (map f xs) → P y
    by [] each y there = absurd there
    by (x ∷ xs) each y (inl same) = subst P (sym same) (each x (inl refl))
    by (x ∷ xs) each y (inr there) = by xs (λ z there. each z (inr there)) y there

module _ {F : Type 0} (shared : Shared F) (ran : List Worker) (all : All (HasRun shared) ran) where
  has-run : (w : Worker) → IsIn w ran → HasRun shared w
  has-run w there = in-all (HasRun shared) w ran all there

  -- the seats and the passes are of what is shared
  pub seats-shared : All (λ (s : SeatState). s.row ≡ shared.tickets.row) (seats_of ran)
  seats-shared = all-map (λ (s : SeatState). s.row ≡ shared.tickets.row) (λ (w : Worker). w.seat) ran (λ w there. (has-run w there).worked.seat)

  pub passes-shared : All (λ (p : ClassPassState). p.classes ≡ shared.books) (passes_of ran)
  passes-shared = all-map (λ (p : ClassPassState). p.classes ≡ shared.books) (λ (w : Worker). w.pass) ran (λ w there. (has-run w there).worked.pass)

  -- some seat was answered None
  pub some-ended : 0 < length ran → Any (λ (s : SeatState). s.ended ≡ true) (seats_of ran)
  some-ended some = by ran all some
    where
      by : (ran : List Worker) → All (HasRun shared) ran → 0 < length ran → Any (λ (s : SeatState). s.ended ≡ true) (seats_of ran)
      by [] all some = absurd (omega (arith, some))
      by (w ∷ ran) all some = (0, w.seat, omega arith, refl, (All-head (HasRun shared) w ran all).ended)

  found-drawn : All FoundDrawn ran
  found-drawn = All-weaker (HasRun shared) FoundDrawn (λ w run. run.found) ran all

  -- the claims of each class are for what its pieces need
  pub claims-run : (class : ℕ) → class < last_class shared → All (λ (w : Worker). AreClaimed (pieces_in class w.pieces.items) (pass_in class w.pass)) ran
  claims-run class lt = All-weaker (HasRun shared) (λ (w : Worker). AreClaimed (pieces_in class w.pieces.items) (pass_in class w.pass))
      (λ w run. run.worked.claims class lt) ran all

  pieces-found : All (IsPieceIn shared.rest) (pieces_of ran)
  pieces-found = all-in (IsPieceIn shared.rest) (pieces_of ran) (λ p there. (
      let (w, in_ran, in_pieces) = in-flat_map-out (λ (w : Worker). w.pieces.items) p ran there in
      in-all (IsPieceIn shared.rest) p w.pieces.items (has-run w in_ran).worked.pieces in_pieces))

  module _ (count : ℕ) (drawn : DrawnBelow count (seats_of ran)) (all_drawn : count ≡ length (rows_in shared.rest)) (pieces : List Piece)
      (same : IsPermutation (pieces_of ran) pieces)
      (sorted : IsNonDecreasingBy (λ (p : Piece). p.row_no) pieces) where
    pub rows-are : rows_of pieces ≡ range_with_len 0 count
    rows-are = all-rows ran count drawn found-drawn pieces same (rows-sorted pieces sorted)

    -- the pieces are those of all records
    pub pieces-are : ArePiecesIn shared.rest pieces
    pieces-are = record {
      rows = subst (λ (n : ℕ). rows_of pieces ≡ range_with_len 0 n) all_drawn rows-are;
      each = All-permutation (IsPieceIn shared.rest) (pieces_of ran) pieces same pieces-found;
    }
