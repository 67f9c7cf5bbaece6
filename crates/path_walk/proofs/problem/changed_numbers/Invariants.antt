use Rattle.std.proofs.Common.{◌≡◌, ◌&&◌, ℕ, take}
use Rattle.edit_model.specs.FieldSets.{has_number}
use Rattle.edit_line.specs.Shapes.{has_field, number_fields, shape_of}
use Rattle.bound_cert.specs.Paths.{changes}
use Rattle.path_walk.proofs.problem.changed_numbers.Given as goal

abbrev pub invariant-loop-place : goal.invariant-loop-place
invariant-loop-place l =
    (f : ℕ) → has_number l.set f ≡ (has_field (take l.place (number_fields (shape_of l.problem.survey.now.fields))) f && changes
    l.problem.survey.now.fields l.letters f)
