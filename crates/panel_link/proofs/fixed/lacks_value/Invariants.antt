use Rattle.std.proofs.Common.{◌≡◌, ◌&&◌, drop}
use Rattle.std.specs.List.{list_any}
use Rattle.edit_model.specs.Corrections.{path_order}
use Rattle.edit_model.specs.FieldSets.{has_number}
use Rattle.edit_model.specs.Rows.{is_bad, value_of}
use Rattle.panel_link.specs.LinkedCorrections.{lacks_value}
use Rattle.panel_link.proofs.fixed.lacks_value.Given as goal

abbrev pub invariant-loop-place : goal.invariant-loop-place
invariant-loop-place l =
    lacks_value l.survey l.row l.fixed ≡ list_any (λ f. has_number l.fixed f && is_bad (value_of l.row f)) (drop l.place (path_order l.survey.fields))
