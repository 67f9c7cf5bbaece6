use Rattle.donor_search.specs.CleanRows.{row_at}
use Rattle.record_pieces.specs.Rests.{edits_in, rows_in}
use Rattle.record_ends.proofs.EndLaws.{IsNoChange, left-out}
use Rattle.record_ends.proofs.row_ends.end_of.Goals as goal

pub returns : goal.returns
returns g c =
    let rest = c.args.rest.now in
    let rows = rows_in rest in
    let piece = c.args.piece in
    let row = row_at rows piece.row_no in
    let told = c.end_without_change.ensures in
    let case = rw c.row-row.ensures at c.case_known.ensures.case in
    let none : IsNoChange piece.outcome = λ path weight cert e. c.in_default.not-Change path weight cert e in
    let both = left-out rest.survey (edits_in rest) row rest.budget case (c.requires.rest.same row) rows piece.outcome
    c.end_without_change.result c.requires.piece.outcome none told.outcome told.none.0 told.none.2 in
    record {
      outcome = told.outcome;
      given = told.none.1;
      becomes = both.0;
      says = both.1;
    }
