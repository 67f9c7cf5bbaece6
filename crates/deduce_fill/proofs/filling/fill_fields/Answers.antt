use Rattle.std.proofs.Common.{ap, arith, length}
use Rattle.deduce_fill.proofs.OwnPaths.{own-length}
use Rattle.deduce_fill.proofs.filling.fill_fields.Goals as goal

pub walk_along-requires-clause-walk : goal.walk_along-requires-clause-walk
walk_along-requires-clause-walk g c = record {
  row = c.requires.task.case.case.row;
  shape = c.requires.task.case.shape;
  fit = omega (arith, ap length c.requires.task.path, own-length c.args.task.now.survey.now.fields c.args.task.now.row.now);
  within = omega arith;
}
