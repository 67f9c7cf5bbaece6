use Rattle.std.proofs.Common.{◌≡◌, ◌≤◌, ◌+◌, ◌*◌, ◌++◌, length, take}
use Rattle.std.specs.List.{filter, flat_map}
use Rattle.edit_line.specs.Shapes.{shape_of}
use Rattle.edit_model.specs.Corrections.{path_order}
use Rattle.edit_model.specs.FieldSets.{has_number}
use Rattle.edit_model.specs.Rows.{value_of}
use Rattle.edit_normal.specs.RuleEdits.{placed_from}
use Rattle.edit_normal.specs.RuleLines.{normal_lines_of}
use Rattle.panel_link.specs.inner.PinLines.{pin_of}
use Rattle.panel_link.proofs.edits.push_pins.Given as goal

abbrev pub invariant-loop-place : goal.invariant-loop-place
invariant-loop-place l =
    (l.lines.items ≡ placed_from 0 (normal_lines_of l.survey
    ++ flat_map (λ f. pin_of (shape_of l.survey.fields) f (value_of l.row f)) (filter (has_number l.fixed) (take l.place (path_order l.survey.fields)))))
    × (length l.lines.items ≤ 1000 + 2 * l.place)
