use Rattle.std.proofs.Common.{◌≡◌, ◌&&◌, ℕ, take}
use Rattle.edit_model.specs.Corrections.{path_order}
use Rattle.edit_model.specs.FieldSets.{has_field, has_number}
use Rattle.bound_cert.specs.Paths.{changes}
use Rattle.edit_report.proofs.changed.changed_set.Given as goal

abbrev pub invariant-loop-place : goal.invariant-loop-place
invariant-loop-place l = (f : ℕ) → has_number l.set f ≡ (has_field (take l.place (path_order l.survey.fields)) f && changes l.survey.fields l.path f)
