use Rattle.std.proofs.Common.{arith}
use Rattle.edit_model.proofs.RowLaws.{row-length}
use Rattle.panel_link.proofs.edits.push_if_fixed.Goals as goal

pub push_pin-requires-clause-field : goal.push_pin-requires-clause-field
push_pin-requires-clause-field c = omega (arith, c.requires.field, row-length c.args.survey.now.fields c.args.row.now c.requires.row)
