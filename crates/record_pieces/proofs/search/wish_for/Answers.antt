use Rattle.std.proofs.Common.{◌∙◌, sym}
use Rattle.donor_search.specs.CleanRows.{row_at}
use Rattle.back_subst.proofs.ChangeLaws.{change-whole}
use Rattle.record_pieces.specs.Rests.{case_in, edits_in, rows_in}
use Rattle.record_pieces.proofs.RankingLaws.{change-open}
use Rattle.record_pieces.proofs.search.wish_for.Goals as goal

pub change_wish-requires-clause-whole : goal.change_wish-requires-clause-whole
change_wish-requires-clause-whole g c =
    let rest = c.args.rest.now in
    change-whole rest.survey (edits_in rest)
    (row_at (rows_in rest) c.args.row_no) rest.budget c.in-Change.path c.in-Change.weight c.in-Change.cert c.requires.case
    (sym c.requires.found ∙ c.in-Change.is)

pub change_wish-requires-clause-opened : goal.change_wish-requires-clause-opened
change_wish-requires-clause-opened g c =
    let rest = c.args.rest.now in
    change-open (case_in rest (row_at (rows_in rest) c.args.row_no)) rest.budget c.in-Change.path c.in-Change.weight c.in-Change.cert
    (sym c.requires.found ∙ c.in-Change.is)
