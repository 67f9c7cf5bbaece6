use Rattle.edit_line.specs.Shapes.{code_fields, shape_of}
use Rattle.redundancy.specs.inner.Turns.{code_walk}
use Rattle.redundancy.proofs.TurnLoops.{IsCoding}
use Rattle.redundancy.proofs.walk.codes_verdict.Given as goal

abbrev pub invariant-loop-field : goal.invariant-loop-field
invariant-loop-field l =
    IsCoding l.survey.fields l.budget (code_walk (shape_of l.survey.fields) l.budget l.initial.walk.spent l.initial.walk.history l.initial.walk.boxes.items
    (code_fields (shape_of l.survey.fields))) l.field-items l.field-index l.walk.spent l.walk.history l.walk.boxes.items
