use Rattle.std.proofs.Common.{inl, inr}
use Rattle.prefix_walk.proofs.LeadLaws.{steps-box, steps-line}
use Rattle.prefix_walk.proofs.ends.closed_by.Goals as goal

pub returns-in_ok-write_steps-in-ClosedLine : goal.returns-in_ok-write_steps-in-ClosedLine
returns-in_ok-write_steps-in-ClosedLine c = λ d path next is lists.
    elim c.in-ClosedLine.is [
      | inl line ↦ steps-line d path c.in-ClosedLine.place c.args.levels.now c.args.work next c.args.state c.in_ok-write_steps-in-ClosedLine.field-0 is lists
          line c.in_ok-write_steps-in-ClosedLine.ensures
      | inr code_box ↦ steps-box d path c.in-ClosedLine.place c.args.levels.now c.args.work next c.args.state c.in_ok-write_steps-in-ClosedLine.field-0 is
          lists code_box c.in_ok-write_steps-in-ClosedLine.ensures
    ]
