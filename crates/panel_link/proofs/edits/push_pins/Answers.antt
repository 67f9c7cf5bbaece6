use Rattle.std.proofs.Common.{◌<◌, ◌≤◌, ◌++◌, ℕ, List, ap, append-nil, arith, length, sym, ◌∙◌}
use Rattle.std.specs.List.{filter, flat_map}
use Rattle.std.proofs.lemmas.List.{take_all}
use Rattle.edit_line.specs.Lines.{LineParts}
use Rattle.edit_line.specs.Shapes.{shape_of}
use Rattle.edit_model.specs.Corrections.{path_order}
use Rattle.edit_model.specs.FieldSets.{has_number}
use Rattle.edit_model.specs.Rows.{value_of}
use Rattle.edit_model.specs.declared.field.Field.{Field}
use Rattle.edit_model.proofs.OrderLaws.{order-length}
use Rattle.edit_normal.specs.RuleEdits.{placed_from}
use Rattle.edit_normal.specs.RuleLines.{normal_lines_of}
use Rattle.panel_link.specs.inner.PinLines.{pin_of}
use Rattle.panel_link.proofs.PinParts.{pin-few}
use Rattle.panel_link.proofs.PlacedLines.{lines-and-pins, pins-few, pins-next, placed-length}
use Rattle.panel_link.proofs.edits.push_pins.Goals as goal

pub loop-place-init : goal.loop-place-init
loop-place-init c = (
  c.requires.lines ∙ ap (λ (ls : List LineParts). placed_from 0 ls) (sym (append-nil (normal_lines_of c.args.survey.now))),
  omega (arith, ap (λ (es : List (ℕ × LineParts)). length es) c.requires.lines, placed-length 0 (normal_lines_of c.args.survey.now), c.requires.few),
)

pub loop-place-preserved : goal.loop-place-preserved
loop-place-preserved c =
    let fields = c.args.survey.now.fields in
    let place = c.loop-place.place in
    let below : place < length (path_order fields) = omega (
      arith,
      c.loop-place-test.true,
      order-length fields,
      ap (λ (fs : List Field). length fs)
          c.fields.ensures.fields,
    ) in (
      pins-next (λ f. pin_of (shape_of fields) f (value_of c.args.row.now f)) (has_number c.args.fixed) (path_order fields)
          (normal_lines_of c.args.survey.now) place
          c.path_field.result c.loop-place.lines.items c.push_if_fixed.new.lines.items below c.path_field.ensures.field c.loop-place.invariant.0
          c.in_ok-push_if_fixed.ensures,
      pins-few (λ f. pin_of (shape_of fields) f (value_of c.args.row.now f)) (has_number c.args.fixed) (path_order fields) place
          c.path_field.result c.loop-place.lines.items c.push_if_fixed.new.lines.items (λ f. pin-few (shape_of fields) f (value_of c.args.row.now f))
          c.loop-place.invariant.1
          c.in_ok-push_if_fixed.ensures,
    )

pub returns : goal.returns
returns c =
    let fields = c.args.survey.now.fields in
    let past : length (path_order fields) ≤ c.loop-place.place = omega
    (arith, c.loop-place-test.false, order-length fields, ap (λ (fs : List Field). length fs) c.fields.ensures.fields) in
    c.loop-place.invariant.0
    ∙ ap (λ (fs : List ℕ). placed_from 0 (normal_lines_of c.args.survey.now ++ flat_map (λ f. pin_of (shape_of fields) f (value_of c.args.row.now f))
    (filter (has_number c.args.fixed) fs)))
    (take_all c.loop-place.place (path_order fields) past)
    ∙ ap (λ (ls : List LineParts). placed_from 0 ls) (sym (lines-and-pins c.args.survey.now c.args.row.now c.args.fixed))
