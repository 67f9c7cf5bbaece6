-- Workers that draw the records and claim donors side by side.
use Rattle.std.specs.Prelude.{◌≡◌, ◌⊎◌, ◌+◌, ◌<◌, ◌==◌, ◌++◌, ℕ, Bool, List, [], ◌∷◌, IsSome, length, map}
use Rattle.std.specs.Borrow.{Bor}
use Rattle.std.specs.Fn as closures
use Rattle.std.specs.List.{All, filter}
use Rattle.std.specs.List.Sorted.{IsStrictlyIncreasing}
use Rattle.edit_model.specs.declared.value.Value.{Value}
use Rattle.edit_line.specs.Reductions.{IsIn}
use Rattle.ticket_row.specs.Tickets as tickets
use Rattle.donor_book.specs.Claims.{claim_of}
use Rattle.donor_book.specs.Passes as passes
use Rattle.donor_book.specs.declared.claim.Entry.{Entry}
use Rattle.donor_book.specs.declared.rule.Placed.{Placed}
use Rattle.class_books.specs.ClassPasses.{ClassPassState, IsFreshPass, pass_in, state_in}
use Rattle.class_books.specs.Histories.{history_in, joined}
use Rattle.shared_edits.specs.Pools.{IsReaderOf, Walked, keeps_fields}
use Rattle.record_pieces.specs.Classes.{class_read}
use Rattle.record_pieces.specs.Needs.{AnswersNeeds, AreInRowOrder, Need, need_in, needs_of}
use Rattle.record_pieces.specs.Rests.{IsPieceIn, IsRest, KeepsFor, class_field_in, rows_in, rows_of}
use Rattle.record_pieces.specs.declared.piece.Piece.{Piece}
use Rattle.record_pieces.specs.declared.rest.Rest.{Rest}
use Rattle.record_workers.specs.declared.shared.Shared.{Shared}
use Rattle.record_workers.specs.declared.worker.Worker.{Worker}

-- the last class, which has no donors, and so no book in which anything is claimed
abbrev pub last_class : {F : Type 0} → Shared F → ℕ
last_class shared = length shared.rest.decks.of_class.items

-- what workers share: a ticket for each record, and a book for each class, in which the records that were read in it both claim and are
-- the donors
pub record IsShared {F : Type 0} (calls : closures.Shared F (ℕ × (Bor Value × (Bor Value × Unit {0}))) ℕ)
    (shared : Shared F) : Type 0 where
  pub rest : IsRest calls shared.rest
  pub tickets : shared.tickets.row.count ≡ length (rows_in shared.rest)
  pub class_of : shared.books.terms.class_of ≡ map (class_read (last_class shared) (class_field_in shared.rest)) (rows_in shared.rest)
  pub classes : shared.books.terms.classes ≡ last_class shared + 1

-- a worker that has a seat, a pass and a reader of the pool, and has done nothing yet
pub record IsReady {F : Type 0} (shared : Shared F) (worker : Worker) : Type 0 where
  pub seat : tickets.IsFresh shared.tickets.row worker.seat
  pub pass : IsFreshPass shared.books worker.pass
  pub reader : IsReaderOf shared.rest.pool worker.reader
  pub pieces : worker.pieces.items ≡ []

-- ---- the claims of one worker

-- what the claims of a pass ask for, in their order
abbrev pub needs_in : passes.PassState → List Need
needs_in p = map (λ (m : Placed). need_in m.entry) p.mine

-- the pass has seen a claim of this row
abbrev pub HasSeen : passes.PassState → ℕ → Type 0
HasSeen p row_no = IsSome (claim_of row_no p.seen)

-- the claims of a pass are for what the records of these pieces need, in rising order of rows; a need that the pass did not claim
-- for was claimed for by another, and the pass has seen it
pub record AreClaimed (pieces : List Piece) (p : passes.PassState) : Type 0 where
  pub needed : All (λ (need : Need). IsIn need (needs_of pieces)) (needs_in p)
  pub claimed : All (λ (need : Need). IsIn need (needs_in p) ⊎ HasSeen p need.row_no) (needs_of pieces)
  pub rising : IsStrictlyIncreasing (map (λ (need : Need). need.row_no) (needs_in p))

-- the pieces of one class
abbrev pub pieces_in : ℕ → List Piece → List Piece
pieces_in class pieces = filter (λ (p : Piece). p.class == class) pieces

-- in each class that has donors the claims are for what the records of its pieces need
abbrev pub AreClaimedIn : ℕ → List Piece → ClassPassState → Type 0
AreClaimedIn last pieces pass = (class : ℕ) → class < last → AreClaimed (pieces_in class pieces) (pass_in class pass)

-- in each class that has donors, each claim of the pass is in what it has seen, at a place behind those of its earlier claims
abbrev pub ArePlacedIn : ℕ → ClassPassState → Type 0
ArePlacedIn last pass = (class : ℕ) → class < last → passes.ArePlaced (state_in class pass).seen (state_in class pass).mine

-- ---- the systems that it keeps

-- the sets of fields whose systems a source over the pool keeps, by what a reader has walked
abbrev pub kept_by : {F : Type 0} → Rest F → List Walked → ℕ → Bool
kept_by rest reader fields = keeps_fields rest.pool fields reader

-- ---- what a worker has done

-- what a worker has found so far, what it has claimed, and what the pool keeps for it
pub record HasWorked {F : Type 0} (shared : Shared F) (worker : Worker) : Type 0 where
  pub seat : worker.seat.row ≡ shared.tickets.row
  pub pass : worker.pass.classes ≡ shared.books
  pub reader : IsReaderOf shared.rest.pool worker.reader
  pub pieces : All (IsPieceIn shared.rest) worker.pieces.items
  pub claims : AreClaimedIn (last_class shared) worker.pieces.items worker.pass
  pub places : ArePlacedIn (last_class shared) worker.pass
  pub kept : All (KeepsFor shared.rest (kept_by shared.rest worker.reader)) worker.pieces.items

-- a worker found what there is to find of the rows that its seat drew, in that order
abbrev pub FoundAll : Worker → Type 0
FoundAll worker = rows_of worker.pieces.items ≡ worker.seat.drawn

-- of the last row that its seat drew it found nothing
abbrev pub MissesLast : Worker → Type 0
MissesLast worker = (row_no : ℕ) × (worker.seat.drawn ≡ rows_of worker.pieces.items ++ row_no ∷ [])

-- ---- what all workers claim

-- the claims of all classes, the last one after the others: each class has a legal history of its own, whose claims are for what the
-- records of its pieces need, each once, and in row order where one worker is alone
pub record AnswersInClasses (limit last : ℕ) (alone : Type 0) (pieces : List Piece) (history : List Entry) : Type 0 where
  pub histories : List (List Entry)
  pub as_many : length histories ≡ last + 1
  pub one_after_other : history ≡ joined histories
  pub each : (class : ℕ) → class < length histories → AnswersNeeds limit (pieces_in class pieces) (history_in class histories)
  pub order : alone → (class : ℕ) → class < length histories → AreInRowOrder (history_in class histories)
