use Rattle.std.proofs.Common.{arith, ℕ, ◌∙◌, List, ap, map, subst, sym}
use Rattle.edit_line.specs.EditSets.{AreEdits, EditsParts}
use Rattle.edit_line.specs.Lines.{LineParts}
use Rattle.edit_line.specs.Shapes.{shape_of}
use Rattle.edit_normal.specs.RuleEdits.{placed_from}
use Rattle.edit_normal.specs.declared.rule_line.RuleLine.{RuleLine}
use Rattle.edit_normal.proofs.RuleEditLaws.{edits-mean, placed-edits}
use Rattle.edit_normal.proofs.edits.rule_edits.Goals as goal

pub number_lines-requires : goal.number_lines-requires
number_lines-requires c = omega (arith, c.in_ok-normal_lines.ensures.most, c.rules-rules.ensures.well_formed.few_rules)

pub new-requires : goal.new-requires
new-requires c =
    let shape = shape_of c.args.survey.now.fields in
    subst (λ (es : List (ℕ × LineParts)). AreEdits shape es) (sym c.in_ok-lines.ensures)
    (placed-edits shape (map (λ (l : RuleLine). l.line) c.in_ok-normal_lines.field-0.items) c.in_ok-normal_lines.ensures.over)

pub returns-clause-same : goal.returns-clause-same
returns-clause-same c p =
    let lines = ap (λ (e : EditsParts). e.lines) c.in_ok-edits.ensures ∙ c.in_ok-lines.ensures
    ∙ ap (λ (ls : List LineParts). placed_from 0 ls) c.in_ok-normal_lines.ensures.lines in
    edits-mean c.args.survey.now _ c.rules-rules.ensures.well_formed lines p
