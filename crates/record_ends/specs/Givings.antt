-- What becomes of the records of pieces.
use Rattle.std.specs.Prelude.{◌≡◌, ℕ, List, Option}
use Rattle.edit_model.specs.declared.value.Value.{Value}
use Rattle.foundation.specs.Options.{◌>>?◌}
use Rattle.donor_book.specs.Claims.{claim_of}
use Rattle.donor_book.specs.Entries.{wins_of}
use Rattle.donor_book.specs.declared.claim.Entry.{Entry}
use Rattle.donor_search.specs.CleanRows.{row_at}
use Rattle.edit_report.specs.declared.end.RowEnd.{RowEnd}
use Rattle.record_pieces.specs.Rests.{edits_in, rows_in}
use Rattle.record_pieces.specs.declared.piece.Piece.{Piece}
use Rattle.record_pieces.specs.declared.rest.Rest.{Rest}
use Rattle.record_ends.specs.Ends.{IsEndOf}
use Rattle.record_ends.specs.Said.{Says}

-- the donor that a record was given in a history; None where it has no claim, or was given nobody
abbrev pub donor_in : List Entry → ℕ → Option ℕ
donor_in history row_no = claim_of row_no (wins_of history) >>? (λ w. w.reply)

-- what becomes of a record
abbrev pub IsEndIn : {F : Type 0} → Rest F → List Value → RowEnd → Type 0
IsEndIn rest row end = IsEndOf rest.survey (edits_in rest) rest.budget (rows_in rest) row end

-- what the end of a record says of it
abbrev pub SaysIn : {F : Type 0} → Rest F → List Value → RowEnd → Type 0
SaysIn rest row end = Says rest.survey (edits_in rest) rest.budget row end

-- what becomes of the record of a piece that is given this donor: what was found of it, and what follows with the donor's values
pub record EndsIn {F : Type 0} (rest : Rest F) (piece : Piece) (donor : Option ℕ) (end : RowEnd) : Type 0 where
  pub outcome : end.proof.outcome ≡ piece.outcome
  pub given : end.donor ≡ donor
  pub becomes : IsEndIn rest (row_at (rows_in rest) piece.row_no) end
  pub says : SaysIn rest (row_at (rows_in rest) piece.row_no) end

-- what becomes of the record of a piece by this history
abbrev pub EndsBy : {F : Type 0} → Rest F → List Entry → Piece → RowEnd → Type 0
EndsBy rest history piece end = EndsIn rest piece (donor_in history piece.row_no) end
