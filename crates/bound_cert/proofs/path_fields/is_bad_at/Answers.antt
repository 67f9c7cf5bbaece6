use Rattle.std.proofs.Common.{arith}
use Rattle.edit_model.proofs.RowLaws.{row-length}
use Rattle.bound_cert.proofs.path_fields.is_bad_at.Goals as goal

pub value-requires : goal.value-requires
value-requires c = omega (arith, row-length c.args.survey.now.fields c.args.row.now c.requires.row, c.path_field.ensures.within)
