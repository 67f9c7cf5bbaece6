use Rattle.std.proofs.Common.{List, ap, arith, length, subst, sym}
use Rattle.std.proofs.lemmas.List.{length-map}
use Rattle.edit_line.specs.EditSets.{AreEdits}
use Rattle.edit_line.specs.Lines.{LineParts}
use Rattle.edit_line.specs.Shapes.{shape_of}
use Rattle.edit_normal.specs.declared.rule_line.RuleLine.{RuleLine}
use Rattle.edit_normal.proofs.NormalLines.{normal-few, normal-over}
use Rattle.edit_normal.proofs.RuleEditLaws.{placed-edits}
use Rattle.panel_link.specs.Pins.{linked_lines, pinned}
use Rattle.panel_link.proofs.edits.linked_edits.Goals as goal

pub numbered_lines-requires : goal.numbered_lines-requires
numbered_lines-requires c =
    omega (
      arith,
      normal-few c.args.survey.now c.fields-fields.ensures.well_formed,
      ap (λ (ls : List LineParts). length ls) c.requires.lines,
      length-map {B = LineParts} c.args.lines.now (λ (r : RuleLine). r.line),
    )

pub push_pins-requires-clause-few : goal.push_pins-requires-clause-few
push_pins-requires-clause-few c = normal-few c.args.survey.now c.fields-fields.ensures.well_formed

pub new-requires : goal.new-requires
new-requires c =
    subst (λ es. AreEdits (shape_of c.args.survey.now.fields) es) (sym c.in_ok-push_pins.ensures)
    (placed-edits (shape_of c.args.survey.now.fields) (linked_lines c.args.survey.now c.args.row.now c.args.fixed)
    (normal-over (pinned c.args.survey.now c.args.row.now c.args.fixed)))
