use Rattle.std.proofs.Common.{◌++◌, List, [], ◌∷◌, IsSomeAnd, ap, arith, refl, slice_get, slice_set, subst, sym, ◌∙◌}
use Rattle.edit_line.specs.Lines.{LineParts}
use Rattle.edit_model.specs.Rows.{IsOfKind}
use Rattle.edit_model.specs.declared.field.Field.{Field}
use Rattle.edit_model.specs.declared.value.Value.{Value}
use Rattle.edit_model.proofs.RowLaws.{row-length, value-held}
use Rattle.deduce_fill.specs.Filled.{tested_from}
use Rattle.deduce_fill.specs.inner.Tasks.{task_case}
use Rattle.deduce_fill.proofs.FillTurns.{turn-closed, turn-free}
use Rattle.deduce_fill.proofs.TestFits.{all-fit}
use Rattle.deduce_fill.proofs.filling.test_next.Goals as goal

pub test_lines_of-requires-clause-field : goal.test_lines_of-requires-clause-field
test_lines_of-requires-clause-field g c =
    omega (arith, c.requires.field, row-length c.args.task.now.survey.now.fields c.args.candidate.now c.requires.candidate)

pub test_field-requires-clause-lines : goal.test_field-requires-clause-lines
test_field-requires-clause-lines g c =
    all-fit c.args.task.now.survey.now.fields c.requires.task.case.case.fields c.args.candidate.now c.args.field c.deref.result.now c.requires.candidate
    (c.deref.ensures.value ∙ c.in_ok-lines.ensures)

pub value-value-requires : goal.value-value-requires
value-value-requires g c = omega (arith, c.requires.field, row-length c.args.task.now.survey.now.fields c.args.candidate.now c.requires.candidate)

pub set-requires-clause-kind : goal.set-requires-clause-kind
set-requires-clause-kind g c =
    subst (λ (v : Value). IsSomeAnd (slice_get c.args.task.now.survey.now.fields c.args.field) (λ (f : Field). IsOfKind f.kind v)) (sym c.value-value.ensures)
    (value-held c.args.task.now.survey.now.fields c.args.candidate.now c.args.field c.requires.candidate c.requires.field)

pub returns-in-Closed-clause-turn : goal.returns-in-Closed-clause-turn
returns-in-Closed-clause-turn g c =
    let task = task_case c.args.task.now in
    let told = c.in_ok-proofs.ensures.exact
    ∙ ap (λ (ls : List LineParts). tested_from task c.args.task.now.budget c.args.filling.now.tests c.args.filling.now.work [] ls)
    (c.deref.ensures.value ∙ c.in_ok-lines.ensures) in
    turn-closed task c.args.candidate.now c.args.task.now.budget c.args.field c.args.filling.now c.requires.within c.in_ok-proofs.field-0 told
    c.in-Closed.tests c.in-Closed.work _ refl refl c.set.ensures.row
    c.in-Closed.proofs c.in-Closed.is (c.set.ensures.set ∙ ap (λ (v : Value). slice_set c.args.filling.now.row c.args.field v) c.value-value.ensures)
    (c.in_ok-push-in-Closed.ensures.items
    ∙ ap (λ (v : Value). c.args.filling.now.forced.items ++ record { field = c.args.field; value = v; proofs = c.in-Closed.proofs } ∷ []) c.value-value.ensures)

pub returns-in-Free-clause-turn : goal.returns-in-Free-clause-turn
returns-in-Free-clause-turn g c =
    let task = task_case c.args.task.now in
    let told = c.in_ok-proofs.ensures.exact
    ∙ ap (λ (ls : List LineParts). tested_from task c.args.task.now.budget c.args.filling.now.tests c.args.filling.now.work [] ls)
    (c.deref.ensures.value ∙ c.in_ok-lines.ensures) in
    turn-free task c.args.candidate.now c.args.task.now.budget c.args.field c.args.filling.now c.requires.within c.in_ok-proofs.field-0 told c.in-Free.tests
    c.in-Free.work _ refl refl c.requires.row
    c.in-Free.is refl refl
