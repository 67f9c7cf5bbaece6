use Rattle.record_text.proofs.SheetLaws.{rows_are_records}
use Rattle.worked_calls.proofs.ranking.find_donors.Goals as goal

pub nearest_donors-requires-clause-rows : goal.nearest_donors-requires-clause-rows
nearest_donors-requires-clause-rows c = rows_are_records c.args.survey.now.fields c.args.records.now c.in-Ok.sheet c.in-Ok.ensures.sheet
