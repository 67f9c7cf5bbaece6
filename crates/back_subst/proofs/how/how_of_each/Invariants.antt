use Rattle.std.proofs.Common.{◌≡◌, option_copied, map, take}
use Rattle.std.specs.List.{filter}
use Rattle.edit_model.specs.Corrections.{path_order}
use Rattle.edit_model.specs.FieldSets.{has_number}
use Rattle.edit_model.specs.Rows.{value_of}
use Rattle.back_subst.specs.Gifts.{how_of}
use Rattle.back_subst.proofs.how.how_of_each.Given as goal

abbrev pub invariant-loop-place : goal.invariant-loop-place
invariant-loop-place l =
    l.how.items ≡ map (λ f. how_of (option_copied l.donor) f (value_of l.row f)) (filter (has_number l.changed) (take l.place (path_order l.survey.fields)))
