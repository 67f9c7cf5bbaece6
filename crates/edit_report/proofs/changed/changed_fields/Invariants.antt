use Rattle.std.proofs.Common.{◌≡◌, take}
use Rattle.std.specs.List.{filter}
use Rattle.edit_model.specs.Corrections.{path_order}
use Rattle.bound_cert.specs.Paths.{changes}
use Rattle.edit_report.proofs.changed.changed_fields.Given as goal

abbrev pub invariant-loop-place : goal.invariant-loop-place
invariant-loop-place l = l.changed.items ≡ filter (changes l.survey.fields l.path) (take l.place (path_order l.survey.fields))
