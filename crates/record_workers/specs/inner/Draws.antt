-- One record more, which a worker has drawn.
use Rattle.std.specs.Prelude.{◌≡◌, ◌≢◌, ◌⊎◌, ℕ, ◌<◌, ◌++◌, List, [], ◌∷◌, Option, Some, None}
use Rattle.std.specs.List.Sorted.{IsStrictlyIncreasing}
use Rattle.donor_book.specs.Passes.{PassState, StartsWith}
use Rattle.class_books.specs.ClassPasses.{ClassPassState, pass_in}
use Rattle.record_pieces.specs.declared.piece.Piece.{Piece}
use Rattle.record_workers.specs.Workers.{HasSeen, needs_in}

-- the row was drawn last, behind those of which something is found, and the rows that were drawn rise
pub record IsDrawnNext (found drawn : List ℕ) (row_no : ℕ) : Type 0 where
  pub last : drawn ≡ found ++ row_no ∷ []
  pub rising : IsStrictlyIncreasing drawn

-- the pass has a claim more, for this need, or the row had claimed before
abbrev pub HasClaimed : ℕ → List ℕ → PassState → PassState → Type 0
HasClaimed row_no ranking old new =
    StartsWith new.seen old.seen
    × ((needs_in new ≡ needs_in old ++ record { row_no = row_no; ranking = ranking } ∷ [])
    ⊎ ((needs_in new ≡ needs_in old) × HasSeen new row_no))

-- a record with a ranking has claimed, and any other has left the pass as it was
abbrev pub HasAsked : ℕ → Option (List ℕ) → PassState → PassState → Type 0
HasAsked row_no None old new = new ≡ old
HasAsked row_no (Some ranking) old new = HasClaimed row_no ranking old new

-- a record of a class with donors has asked in the book of its class alone, and one of the last class in none
pub record HasAskedIn (last : ℕ) (piece : Piece) (old new : ClassPassState) : Type 0 where
  pub own : piece.class < last → HasAsked piece.row_no piece.ranking (pass_in piece.class old) (pass_in piece.class new)
  pub others : (class : ℕ) → class < last → class ≢ piece.class → pass_in class new ≡ pass_in class old
