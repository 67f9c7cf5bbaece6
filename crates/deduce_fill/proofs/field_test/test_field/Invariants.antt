use Rattle.std.proofs.Common.{◌≤◌}
use Rattle.deduce_fill.specs.inner.Tasks.{task_case}
use Rattle.deduce_fill.proofs.TestTurns.{IsTesting}
use Rattle.deduce_fill.proofs.field_test.test_field.Given as goal

abbrev pub invariant-loop-line : goal.invariant-loop-line
invariant-loop-line g l =
    IsTesting (task_case l.task) l.task.budget l.lines l.tests-2 l.work l.line-index l.tests l.spent l.proofs.items
    × (l.initial.steps ≤ l.steps)
