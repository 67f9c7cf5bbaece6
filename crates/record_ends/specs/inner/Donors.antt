-- The donors of the records, by their numbers.
use Rattle.std.specs.Prelude.{◌≡◌, ℕ, ◌<◌, IfSome, List, Option, None, slice_index_or}
use Rattle.donor_book.specs.declared.claim.Entry.{Entry}
use Rattle.donor_search.specs.CleanRows.{IsCleanRow}
use Rattle.record_pieces.specs.Rests.{rows_in}
use Rattle.record_pieces.specs.declared.rest.Rest.{Rest}
use Rattle.record_ends.specs.Givings.{donor_in}

-- the donor of the record of this number, in a list of all
abbrev pub donor_at : List (Option ℕ) → ℕ → Option ℕ
donor_at donors row_no = slice_index_or donors row_no None

-- the list has, for each record of a number below `rows`, the donor that it was given in the history
abbrev pub ListsDonors : List Entry → ℕ → List (Option ℕ) → Type 0
ListsDonors history rows donors = (i : ℕ) → i < rows → donor_at donors i ≡ donor_in history i

-- the donor of the record of this number, if it has one, is a clean record
abbrev pub HasCleanDonor : {F : Type 0} → Rest F → List (Option ℕ) → ℕ → Type 0
HasCleanDonor rest donors row_no = IfSome (donor_at donors row_no) (IsCleanRow rest.survey (rows_in rest))
