use Rattle.std.proofs.Common.{◌≡◌, not, drop}
use Rattle.std.specs.List.{filter, fold}
use Rattle.edit_model.specs.Corrections.{path_order}
use Rattle.edit_model.specs.Rows.{is_bad, value_of}
use Rattle.edit_model.specs.FieldSets.{set_of, with_number}
use Rattle.bound_cert.proofs.Letters.{kept_in}
use Rattle.bound_cert.proofs.path_fields.kept_set.Given as goal

abbrev pub invariant-loop-place : goal.invariant-loop-place
invariant-loop-place l =
    fold with_number l.set (filter (λ f. not (is_bad (value_of l.row f))) (kept_in (drop l.place (path_order l.survey.fields)) (drop l.place l.path)))
    ≡ set_of (filter (λ f. not (is_bad (value_of l.row f))) (kept_in (path_order l.survey.fields) l.path))
