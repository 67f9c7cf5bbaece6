-- The claims of the records of a sheet that is edited.
use Rattle.std.specs.Prelude.{ℕ, List}
use Rattle.donor_book.specs.declared.claim.Entry.{Entry}
use Rattle.edit_report.specs.declared.end.RowEnd.{RowEnd}
use Rattle.record_pieces.specs.Rests.{class_field_in, rows_in}
use Rattle.record_pieces.specs.declared.rest.Rest.{Rest}
use Rattle.record_editing.specs.Donations.{AreDonations}

-- the claims of all records that ended so, where a donor is given at most as often as this limit says
abbrev pub AreDonationsIn : {F : Type 0} → Rest F → ℕ → List RowEnd → List Entry → Type 0
AreDonationsIn rest limit ends history =
    AreDonations rest.survey (rows_in rest) (record {
      budget = rest.budget;
      limit = limit;
      near = rest.near;
      class_field = class_field_in rest;
    }) ends history
