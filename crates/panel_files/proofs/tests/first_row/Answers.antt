use Rattle.std.proofs.Common.{◌<◌, arith, length, sym, ◌∙◌}
use Rattle.std.proofs.lemmas.Bool.Decides.{nat_tests}
use Rattle.panel_files.proofs.FileLaws.{row-is}
use Rattle.panel_files.proofs.tests.first_row.Goals as goal

pub returns : goal.returns
returns c =
    let sheet = c.in_ok-sheet.sheet in
    let some : 0 < length sheet.rows = grind (arith, nat_tests, sym c.is_empty.ensures ∙ c.if-is_empty.false) in
    rw (c.in_ok-copy.ensures, c.row.ensures) (row-is c.args.survey.now.fields c.args.bytes.now sheet c.in_ok-sheet.ensures.sheet 0 some)
