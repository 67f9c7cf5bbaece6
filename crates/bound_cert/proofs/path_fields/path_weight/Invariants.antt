use Rattle.std.proofs.Common.{◌≡◌, ◌≤◌, ◌+◌, ◌*◌, drop}
use Rattle.std.specs.List.{sum_by}
use Rattle.edit_model.proofs.ChangedWords.{changed_in}
use Rattle.edit_model.specs.Corrections.{path_order}
use Rattle.edit_model.specs.Words.{weight_at}
use Rattle.bound_cert.proofs.path_fields.path_weight.Given as goal

abbrev pub invariant-loop-place : goal.invariant-loop-place
invariant-loop-place l =
    (l.weight + sum_by (weight_at l.survey.fields) (changed_in (drop l.place (path_order l.survey.fields)) (drop l.place l.path))
    ≡ sum_by (weight_at l.survey.fields) (changed_in (path_order l.survey.fields) l.path))
    × (l.weight ≤ 1000 * l.place)
