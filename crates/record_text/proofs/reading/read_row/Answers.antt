use Rattle.record_text.proofs.ValueLaws.{values_are_row}
use Rattle.record_text.proofs.reading.read_row.Goals as goal

pub new-requires : goal.new-requires
new-requires c =
    let fields = c.fields.ensures.fields in
    values_are_row c.args.survey.now.fields c.args.columns.now c.args.texts.now c.in_ok-values.values.items (rw fields at c.in_ok-values.ensures)
