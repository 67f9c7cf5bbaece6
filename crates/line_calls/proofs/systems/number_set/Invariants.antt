use Rattle.edit_line.specs.Shapes.{shape_of}
use Rattle.linear_elim.specs.Systems.{AreNumerical}
use Rattle.line_calls.proofs.systems.number_set.Given as goal

abbrev pub invariant-loop-field : goal.invariant-loop-field
invariant-loop-field l = AreNumerical (shape_of l.survey.fields) l.set
