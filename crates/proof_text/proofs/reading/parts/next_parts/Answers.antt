use Rattle.std.proofs.Common.{◌+◌, ◌-◌, ◌∙◌, arith}
use Rattle.proof_text.proofs.ReadingLaws.{many-fails, many-kept}
use Rattle.proof_text.proofs.reading.parts.next_parts.Goals as goal

pub returns-in-Err : goal.returns-in-Err
returns-in-Err g c =
    many-fails (g.P.Part.reading c.args.shared) (c.args.count - c.loop.counter)
    (c.args.count - (c.loop.counter + 1)) c.loop.parts.items c.args.lines.now c.loop.lines c.read.new.lines c.read.new.lines _ c.in-Err.fault
    (omega (arith, c.loop-test.true)) c.loop.invariant.0 c.loop.invariant.1 c.in-Err.ensures

pub loop-preserved : goal.loop-preserved
loop-preserved g c = (
  many-kept (g.P.Part.reading c.args.shared) (c.args.count - c.loop.counter)
      (c.args.count - (c.loop.counter + 1)) c.loop.parts.items c.push.new.self.items c.in-Ok.part c.loop.lines.left c.read.new.lines.left _
      (omega (arith, c.loop-test.true)) c.in-Ok-push.ensures.items c.loop.invariant.0 c.in-Ok.ensures.0,
  c.in-Ok.ensures.1 ∙ c.loop.invariant.1,
)
