use Rattle.std.proofs.Common.{List, Err, [], sym, ap, ◌∙◌}
use Rattle.edit_line.specs.Shapes.{shape_of}
use Rattle.edit_line.specs.declared.derived.Derived.{Derived}
use Rattle.categ_combine.specs.FailingBoxes.{failing_from}
use Rattle.redundancy.proofs.TurnLoops.{box-overflow}
use Rattle.redundancy.proofs.walk.boxes_verdict.Goals as goal

pub returns-in-Err-Overflow : goal.returns-in-Err-Overflow
returns-in-Err-Overflow c =
    box-overflow (shape_of c.args.survey.now.fields) c.args.budget c.args.walk.spent c.args.walk.history c.args.walk.lines.items
    (failing_from 0 c.args.walk.lines.items c.args.row.now []) _
    (ap (λ (ls : List Derived). failing_from 0 ls c.args.row.now []) (sym c.deref.ensures.value)
    ∙ c.in-Err-Overflow.ensures.overflow c.in-Err-Overflow.field-0-0 c.in-Err-Overflow.field-0-1 (ap (λ fault. Err fault) c.in-Err-Overflow.field-0-is))
