use Rattle.std.proofs.Common.{◌+◌, ◌-◌, ◌∙◌, arith}
use Rattle.proof_grammar.specs.inner.RowReading.{row_reading}
use Rattle.proof_text.proofs.ReadingLaws.{many-fails, many-kept}
use Rattle.proof_text.proofs.reading.places.next_places.Goals as goal

pub returns-in-Err : goal.returns-in-Err
returns-in-Err c =
    many-fails (row_reading c.args.shared) (c.args.count - c.loop.counter)
    (c.args.count - (c.loop.counter + 1)) c.loop.places.items c.args.lines.now c.loop.lines c.next_place.new.lines c.next_place.new.lines _ c.in-Err.fault
    (omega (arith, c.loop-test.true)) c.loop.invariant.0 c.loop.invariant.1 c.in-Err.ensures

pub loop-preserved : goal.loop-preserved
loop-preserved c = (
  many-kept (row_reading c.args.shared) (c.args.count - c.loop.counter)
      (c.args.count - (c.loop.counter + 1)) c.loop.places.items c.push.new.self.items c.in-Ok.place c.loop.lines.left c.next_place.new.lines.left _
      (omega (arith, c.loop-test.true)) c.in-Ok-push.ensures.items c.loop.invariant.0 c.in-Ok.ensures.0,
  c.in-Ok.ensures.1 ∙ c.loop.invariant.1,
)
