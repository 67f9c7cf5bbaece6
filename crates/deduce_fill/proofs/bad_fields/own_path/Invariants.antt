use Rattle.std.proofs.Common.{◌≡◌, map, take}
use Rattle.edit_model.specs.Corrections.{path_order}
use Rattle.edit_model.specs.Rows.{is_bad, value_of}
use Rattle.deduce_fill.proofs.bad_fields.own_path.Given as goal

abbrev pub invariant-loop-place : goal.invariant-loop-place
invariant-loop-place l = l.path.items ≡ map (λ f. is_bad (value_of l.row f)) (take l.place (path_order l.survey.fields))
