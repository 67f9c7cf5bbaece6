use Rattle.std.proofs.Common.{◌++◌, [], ◌∷◌, length, sym, ap, ◌∙◌, subst, arith}
use Rattle.std.specs.Arc.{arc_value}
use Rattle.edit_line.specs.EditSets.{AreEdits, EditsParts}
use Rattle.edit_line.specs.Shapes.{shape_of}
use Rattle.deduce_fill.specs.inner.Tasks.{task_case, task_edits}
use Rattle.deduce_fill.proofs.OwnPaths.{own-length}
use Rattle.deduce_fill.proofs.TestCases.{more-edits}
use Rattle.deduce_fill.proofs.TestTurns.{walked-line}
use Rattle.deduce_fill.proofs.field_test.walk_with.Goals as goal

pub edits_with-requires-clause-edits : goal.edits_with-requires-clause-edits
edits_with-requires-clause-edits g c =
    subst (λ (e : EditsParts). AreEdits (shape_of c.args.task.now.survey.now.fields) (e.lines ++ (length e.lines, c.args.line.now) ∷ [])) (sym c.deref.ensures)
    (more-edits (task_case c.args.task.now) c.requires.task.case.case c.requires.task.case.placed c.args.line.now c.requires.line c.requires.shape)

pub walk_along-requires-clause-walk : goal.walk_along-requires-clause-walk
walk_along-requires-clause-walk g c = record {
  row = c.requires.task.case.case.row;
  shape = c.in_ok-edits.ensures.shape;
  fit = omega (arith, ap length c.requires.task.path, own-length c.args.task.now.survey.now.fields c.args.task.now.row.now);
  within = c.requires.within;
}

pub returns-clause-exact : goal.returns-clause-exact
returns-clause-exact g c =
    walked-line c.args.task.now.survey.now (task_edits c.args.task.now)
    (arc_value c.in_ok-edits.edits) c.args.task.now.row.now c.args.line.now c.args.task.now.path.now c.args.task.now.budget c.args.spent c.walk_along.result
    (c.in_ok-edits.ensures.lines ∙ ap (λ (e : EditsParts). e.lines ++ (length e.lines, c.args.line.now) ∷ []) c.deref.ensures) c.requires.task.path
    c.walk_along.ensures.exact
