use Rattle.std.proofs.Common.{◌≤◌}
use Rattle.deduce_fill.specs.inner.Tasks.{task_case}
use Rattle.deduce_fill.proofs.FillTurns.{IsFoundSoFar}
use Rattle.deduce_fill.proofs.filling.test_fields.Given as goal

abbrev pub invariant-loop-field : goal.invariant-loop-field
invariant-loop-field g l =
    IsFoundSoFar (task_case l.task) l.candidate l.task.budget l.work l.fields l.field-index l.filling
    × (l.initial.steps ≤ l.steps)
