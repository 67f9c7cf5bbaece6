use Rattle.std.proofs.Common.{ℕ, List, ap, arith, get_or, length, subst, sym, ◌<◌}
use Rattle.deduce_fill.proofs.FillTurns.{bad-few, bad-within}
use Rattle.deduce_fill.proofs.filling.test_fields.Goals as goal

pub test_next-requires-clause-field : goal.test_next-requires-clause-field
test_next-requires-clause-field g c =
    let below = bad-within c.args.task.now.survey.now.fields c.args.task.now.row.now c.loop-field.field-index
    (omega (arith, c.loop-field-test.true, ap length c.requires.fields)) in
    subst (λ (fs : List ℕ). get_or fs c.loop-field.field-index 0 < length c.args.task.now.survey.now.fields) (sym c.requires.fields) below

pub test_next-requires-clause-tests : goal.test_next-requires-clause-tests
test_next-requires-clause-tests g c =
    let few = bad-few c.args.task.now.survey.now.fields c.args.task.now.row.now in
    omega (arith, c.loop-field.invariant.0.tests, c.loop-field-test.true, ap length c.requires.fields, few, c.requires.task.few_fields)
