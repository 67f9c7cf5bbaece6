use Rattle.std.proofs.Common.{◌∙◌, ap, length, List, sym}
use Rattle.edit_line.proofs.SetLaws.{AreSets-length}
use Rattle.edit_line.proofs.ShapeLaws.{length-wholes, same_codes}
use Rattle.edit_line.specs.Shapes.{Domain, whole_sets}
use Rattle.rule_report.proofs.conditions.conditions_of.Goals as goal

pub tests_of-requires-clause-sets : goal.tests_of-requires-clause-sets
tests_of-requires-clause-sets c =
    let line = c.args.line.now in
    ap length c.sets.ensures.sets ∙ AreSets-length line.sets (whole_sets line.shape) c.sets.ensures.fit ∙ length-wholes 0 line.shape
    ∙ sym (ap length (same_codes c.codes.result.now c.args.survey.now.fields line.shape c.codes.ensures c.requires))

pub tests_of-requires-clause-wholes : goal.tests_of-requires-clause-wholes
tests_of-requires-clause-wholes c =
    let line = c.args.line.now in
    ap length (c.deref.ensures.value ∙ c.in_ok-wholes.ensures) ∙ ap (λ (shape : List Domain). length (whole_sets shape)) c.shape.ensures
    ∙ length-wholes 0 line.shape
    ∙ sym (ap length (same_codes c.codes.result.now c.args.survey.now.fields line.shape c.codes.ensures c.requires))

pub returns : goal.returns
returns c =
    let line = c.args.line.now in
    let fields = same_codes c.codes.result.now c.args.survey.now.fields line.shape c.codes.ensures c.requires in
    let wholes = c.deref.ensures.value ∙ c.in_ok-wholes.ensures ∙ ap (λ (shape : List Domain). whole_sets shape) c.shape.ensures in
    rw (fields, c.sets.ensures.sets, wholes) at c.tests_of.ensures
