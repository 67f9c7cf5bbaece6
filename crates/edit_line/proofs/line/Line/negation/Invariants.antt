use Rattle.std.proofs.Common.{◌≡◌, ◌++◌, drop}
use Rattle.edit_line.specs.Shapes.{whole_sets}
use Rattle.edit_line.specs.Negations.{negation_of, never_outside}
use Rattle.edit_line.proofs.line.Line.negation.Given as goal

abbrev pub invariant-loop-place : goal.invariant-loop-place
invariant-loop-place l = l.negation.items ++ never_outside l.self.shape l.place (drop l.place l.self.sets) (drop l.place (whole_sets l.self.shape))
    ≡ negation_of l.self
