use Rattle.std.proofs.Common.{subst}
use Rattle.record_text.specs.Columns.{IsOneColumn}
use Rattle.panel_files.proofs.FileLaws.{key-within}
use Rattle.panel_files.proofs.tests.table_of.Goals as goal

pub of-requires : goal.of-requires
of-requires c =
    key-within c.in_ok-survey.survey.fields c.args.bytes.now c.in_ok-sheet.sheet c.in_ok-sheet.ensures.sheet _ c.in-Some.column
    (subst (IsOneColumn _ c.in_ok-sheet.sheet.header) c.in-Some.is c.column_named.ensures)
