use Rattle.std.proofs.Common.{◌≡◌, ℕ, ◌<◌, List, [], ◌∷◌, get_or, length, map, true, refl, ap, ◌∙◌, sym, subst, arith}
use Rattle.std.specs.List.{All, Any}
use Rattle.std.proofs.lemmas.List.{get_or-map, length-map}
use Rattle.std.proofs.lemmas.List.Elements.{All-map, All-weaker}
use Rattle.ticket_row.specs.Tickets.{IsFresh, Row, SeatState}
use Rattle.donor_book.specs.Passes.{BookName, IsFresh as IsFreshPass, PassState}
use Rattle.claims_bench.specs.inner.Workers.{HasRun, IsReady, passes_of, seats_of}
use Rattle.claims_bench.specs.declared.worker.Worker.{Worker}

-- What holds of all seats and passes holds of the workers that have them, and back.

-- what holds of each mapped element holds of the element
unmapped : {X Y : Type 0} (f : X → Y) (P : Y → Type 0) (xs : List X) (ys : List Y) → map f xs ≡ ys → All P ys → (k : ℕ) (x : X) → k < length xs
    → P (f (get_or xs k x))
unmapped f P xs ys is all k x lt =
    let few : length xs ≡ length ys = sym (length-map xs f) ∙ ap length is in
    subst P (ap (λ l. get_or l k (f x)) (sym is) ∙ get_or-map f xs k x (f x) lt) (all k (f x) (omega (arith, few, lt)))

-- workers with fresh seats and passes are ready
pub ready : (row : Row) (book : BookName) (workers : List Worker) (seats : List SeatState) (passes : List PassState) → seats_of workers ≡ seats
    → passes_of workers ≡ passes
    → All (IsFresh row) seats → All (IsFreshPass book) passes → All (IsReady row book) workers
ready row book workers seats passes are_seats are_passes all_seats all_passes k w lt = record {
  seat = (unmapped (λ (w : Worker). w.seat) (IsFresh row) workers seats are_seats all_seats k w lt).row;
  pass = (unmapped (λ (w : Worker). w.pass) (IsFreshPass book) workers passes are_passes all_passes k w lt).book;
}

module _ (row : Row) (book : BookName) (workers : List Worker) (ran : All (HasRun row book) workers) where
  -- the seats of workers that have run are of the row
  pub rows_are : (seats : List SeatState) → seats ≡ seats_of workers → All (λ (s : SeatState). s.row ≡ row) seats
  rows_are seats is =
      subst (All (λ (s : SeatState). s.row ≡ row)) (sym is)
      (All-map (λ (s : SeatState). s.row ≡ row) (λ (w : Worker). w.seat) workers (All-weaker (HasRun row book) (λ (w : Worker). w.seat.row ≡ row)
      (λ w has. has.ready.seat) workers ran))

  -- their passes of the book
  pub books_are : (passes : List PassState) → passes ≡ passes_of workers → All (λ (p : PassState). p.book ≡ book) passes
  books_are passes is =
      subst (All (λ (p : PassState). p.book ≡ book)) (sym is)
      (All-map (λ (p : PassState). p.book ≡ book) (λ (w : Worker). w.pass) workers (All-weaker (HasRun row book) (λ (w : Worker). w.pass.book ≡ book)
      (λ w has. has.ready.pass) workers ran))

  -- and some seat was answered None, where there is one
  pub some_ended : (seats : List SeatState) → seats ≡ seats_of workers → 0 < length workers → Any (λ (s : SeatState). s.ended ≡ true) seats
  some_ended seats is some = by workers is some ran
    where
      by : (ws : List Worker) → seats ≡ seats_of ws → 0 < length ws → All (HasRun row book) ws → Any (λ (s : SeatState). s.ended ≡ true) seats
      by [] same none all = absurd (omega (arith, none))
      by (w ∷ ws) same one all = subst (Any (λ (s : SeatState). s.ended ≡ true)) (sym same) (0, w.seat, omega arith, refl, (all 0 w (omega arith)).ended)
