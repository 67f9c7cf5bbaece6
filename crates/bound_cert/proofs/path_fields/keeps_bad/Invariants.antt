use Rattle.std.proofs.Common.{◌≡◌, drop}
use Rattle.std.specs.List.{list_any}
use Rattle.edit_model.specs.Corrections.{path_order}
use Rattle.edit_model.specs.Rows.{is_bad, value_of}
use Rattle.bound_cert.proofs.Letters.{kept_in}
use Rattle.bound_cert.proofs.path_fields.keeps_bad.Given as goal

abbrev pub invariant-loop-place : goal.invariant-loop-place
invariant-loop-place l =
    list_any (λ f. is_bad (value_of l.row f)) (kept_in (drop l.place (path_order l.survey.fields)) (drop l.place l.path))
    ≡ list_any (λ f. is_bad (value_of l.row f)) (kept_in (path_order l.survey.fields) l.path)
