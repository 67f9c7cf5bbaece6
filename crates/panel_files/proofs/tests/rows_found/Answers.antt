use Rattle.std.proofs.Common.{subst}
use Rattle.record_text.specs.Columns.{IsOneColumn}
use Rattle.panel_files.proofs.FileLaws.{key-within}
use Rattle.panel_files.proofs.tests.rows_found.Goals as goal

pub last_rows-requires-clause-own : goal.last_rows-requires-clause-own
last_rows-requires-clause-own c =
    key-within c.args.survey.now.fields c.args.own.now c.in_ok-own.own c.in_ok-own.ensures.sheet _ c.in-Some-Some.own_key
    (subst (IsOneColumn _ c.in_ok-own.own.header) c.in-Some-Some.is-0 c.column_named.ensures)

pub last_rows-requires-clause-last : goal.last_rows-requires-clause-last
last_rows-requires-clause-last c =
    key-within c.args.survey.now.fields c.args.last.now c.in_ok-last.last c.in_ok-last.ensures.sheet _ c.in-Some-Some.last_key
    (subst (IsOneColumn _ c.in_ok-last.last.header) c.in-Some-Some.is-1 c.column_named-2.ensures)
