use Rattle.record_text.proofs.SheetLaws.{rows_are_records}
use Rattle.worker_tests.proofs.side_by_side.edit_bytes.Goals as goal

pub edit_records-requires-clause-rows : goal.edit_records-requires-clause-rows
edit_records-requires-clause-rows g c κs within =
    rows_are_records c.in-Ok.survey.fields c.args.records.now c.in-Ok-read_records.sheet c.in-Ok-read_records.ensures.sheet
