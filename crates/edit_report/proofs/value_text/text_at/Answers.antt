use Rattle.std.proofs.Common.{arith}
use Rattle.edit_model.proofs.RowLaws.{row-length}
use Rattle.edit_report.proofs.value_text.text_at.Goals as goal

pub value-requires : goal.value-requires
value-requires c = omega (arith, c.requires.field, row-length c.args.survey.now.fields c.args.row.now c.requires.row)
