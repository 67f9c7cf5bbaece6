use Rattle.std.proofs.Common.{◌≡◌, ◌+◌, drop}
use Rattle.edit_model.specs.Corrections.{path_order}
use Rattle.edit_line.specs.Shapes.{place_in}
use Rattle.bound_cert.specs.Paths.{path_place}
use Rattle.cert_check.proofs.changed_fields.path_place.Given as goal

abbrev pub invariant-loop-place : goal.invariant-loop-place
invariant-loop-place l = l.place + place_in (drop l.place (path_order l.survey.fields)) l.field ≡ path_place l.survey.fields l.field
