use Rattle.std.proofs.Common.{◌+◌, ◌-◌, ◌∙◌, arith}
use Rattle.proof_grammar.specs.inner.Readings.{read_line}
use Rattle.proof_grammar.specs.inner.StepReading.{table_step_in}
use Rattle.proof_text.proofs.ReadingLaws.{many-fails, many-kept}
use Rattle.proof_text.proofs.reading.steps.next_table_steps.Goals as goal

pub returns-in-Err : goal.returns-in-Err
returns-in-Err c =
    many-fails (read_line table_step_in) (c.args.count - c.loop.counter)
    (c.args.count - (c.loop.counter + 1)) c.loop.steps.items c.args.lines.now c.loop.lines c.next_table_step.new.lines c.next_table_step.new.lines _
    c.in-Err.fault
    (omega (arith, c.loop-test.true)) c.loop.invariant.0 c.loop.invariant.1 c.in-Err.ensures

pub loop-preserved : goal.loop-preserved
loop-preserved c = (
  many-kept (read_line table_step_in) (c.args.count - c.loop.counter)
      (c.args.count - (c.loop.counter + 1)) c.loop.steps.items c.push.new.self.items c.in-Ok.step c.loop.lines.left c.next_table_step.new.lines.left _
      (omega (arith, c.loop-test.true)) c.in-Ok-push.ensures.items c.loop.invariant.0 c.in-Ok.ensures.0,
  c.in-Ok.ensures.1 ∙ c.loop.invariant.1,
)
