use Rattle.std.proofs.Common.{arith}
use Rattle.deduce_fill.specs.inner.Tasks.{task_case}
use Rattle.deduce_fill.proofs.TestTurns.{test-goes}
use Rattle.deduce_fill.proofs.field_test.test_field.Goals as goal

pub loop-line-preserved : goal.loop-line-preserved
loop-line-preserved g c = (
  test-goes (task_case c.args.task.now) c.args.task.now.budget c.args.lines.now c.args.tests c.args.work c.loop-line.line-index c.loop-line.tests
      c.loop-line.spent
      c.loop-line.proofs.items c.loop-line.invariant.0 _ c.line-item.result c.loop-line-test.true c.line-item.is c.in_ok-proof.field-0
      c.in_ok-proof.ensures.exact _ c.in-Closed.work _
      c.in-Closed.is c.in_ok-push-in-Closed.ensures.items,
  omega (arith, c.loop-line.invariant.1, c.in_ok-proof.ensures.counts),
)
