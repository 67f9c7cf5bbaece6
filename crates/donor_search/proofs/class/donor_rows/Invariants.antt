use Rattle.std.proofs.Common.{◌≡◌, ◌++◌, drop}
use Rattle.donor_search.specs.Places.{places_from}
use Rattle.donor_search.specs.inner.Donors.{donors_in, is_donor_in}
use Rattle.donor_search.proofs.class.donor_rows.Given as goal

abbrev pub invariant-loop-row_no : goal.invariant-loop-row_no
invariant-loop-row_no l =
    l.rows.items ++ places_from (is_donor_in l.survey l.class) l.row_no (drop l.row_no l.sheet.rows) ≡ donors_in l.survey l.sheet.rows l.class
