use Rattle.std.proofs.Common.{◌≡◌, ◌∙◌, ◌⊎◌, ◌<◌, ℕ, List, [], ap, arith, length, map, rules, subst, sym}
use Rattle.std.specs.Borrow.{Bor}
use Rattle.std.specs.Fn as closures
use Rattle.std.specs.List.{All}
use Rattle.std.specs.List.Sorted.{IsStrictlyIncreasing}
use Rattle.std.proofs.lemmas.List.Elements.{All-nil}
use Rattle.edit_model.specs.declared.value.Value.{Value}
use Rattle.edit_line.specs.Reductions.{IsIn}
use Rattle.ticket_row.specs.Tickets.{SeatState}
use Rattle.donor_book.specs.Passes.{ArePlaced, PassState}
use Rattle.donor_book.specs.declared.claim.Won.{Won}
use Rattle.donor_book.specs.declared.rule.Placed.{Placed}
use Rattle.class_books.specs.ClassPasses.{pass_in}
use Rattle.record_pieces.specs.Needs.{Need, need_in, needs_of}
use Rattle.record_pieces.specs.Rests.{IsPieceIn, KeepsFor}
use Rattle.record_pieces.specs.declared.piece.Piece.{Piece}
use Rattle.record_workers.specs.Workers.{AreClaimed, AreClaimedIn, HasSeen, HasWorked, IsReady, IsShared, kept_by, last_class, needs_in}
use Rattle.record_workers.specs.declared.shared.Shared.{Shared}
use Rattle.record_workers.specs.declared.worker.Worker.{Worker}

-- A worker that begins, and one that draws.

rising-none : IsStrictlyIncreasing []
rising-none = search rules

-- a pass that has claimed nothing has claimed right for no pieces
claimed-none : (p : PassState) → p.mine ≡ [] → AreClaimed [] p
claimed-none p none =
    let needs : needs_in p ≡ [] = ap (map (λ (m : Placed). need_in m.entry)) none in
    record {
      needed = subst (All (λ (need : Need). IsIn need (needs_of []))) (sym needs) (All-nil (λ (need : Need). IsIn need (needs_of [])));
      claimed = All-nil (λ (need : Need). IsIn need (needs_in p) ⊎ HasSeen p need.row_no);
      rising = subst (λ (ns : List Need). IsStrictlyIncreasing (map (λ (need : Need). need.row_no) ns)) (sym needs) rising-none;
    }

placed-none : (seen : List Won) (mine : List Placed) → mine ≡ [] → ArePlaced seen mine
placed-none seen mine none =
    subst (ArePlaced seen) (sym none) record { within = All-nil (λ (m : Placed). m.place < length seen); rising = rising-none }

-- a worker that is ready has done nothing wrong
pub ready-worked : {F : Type 0} (calls : closures.Shared F (ℕ × (Bor Value × (Bor Value × Unit {0}))) ℕ) (shared : Shared F) (worker : Worker)
    → IsShared calls shared → IsReady shared worker → HasWorked shared worker
ready-worked calls shared worker is ready =
    let last = last_class shared in
    let none = sym ready.pieces in
    record {
      seat = ready.seat.row;
      pass = ready.pass.classes;
      reader = ready.reader;
      pieces = subst (All (IsPieceIn shared.rest)) none (All-nil (IsPieceIn shared.rest));
      claims = subst (λ (ps : List Piece). AreClaimedIn last ps worker.pass) none
          (λ class lt. claimed-none (pass_in class worker.pass) (ready.pass.fresh class (omega (arith, is.classes, lt))).mine);
      places = λ class lt. placed-none _ _ (ready.pass.fresh class (omega (arith, is.classes, lt))).mine;
      kept = subst (All (KeepsFor shared.rest (kept_by shared.rest worker.reader))) none (All-nil (KeepsFor shared.rest (kept_by shared.rest worker.reader)));
    }

-- one that has drawn, and done no more, has worked as before
pub drawn-worked : {F : Type 0} (shared : Shared F) (worker : Worker) → HasWorked shared worker → (seat : SeatState) → seat.row ≡ worker.seat.row
    → HasWorked shared record { number = worker.number; seat = seat; pass = worker.pass; reader = worker.reader; pieces = worker.pieces }
drawn-worked shared worker worked seat same = record {
  seat = same ∙ worked.seat;
  pass = worked.pass;
  reader = worked.reader;
  pieces = worked.pieces;
  claims = worked.claims;
  places = worked.places;
  kept = worked.kept;
}
