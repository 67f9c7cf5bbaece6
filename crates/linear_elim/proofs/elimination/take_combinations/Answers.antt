use Rattle.std.proofs.Common.{◌∙◌, arith}
use Rattle.linear_elim.specs.Steps.{collect, row_result}
use Rattle.linear_elim.specs.Told.{told_step}
use Rattle.linear_elim.specs.inner.Taken.{taken_in}
use Rattle.linear_elim.proofs.StepLoops.{collect-end, collect-fault, collect-more, fault-of-rest, handed-on, if_told, rows-at, rows-end}
use Rattle.linear_elim.proofs.elimination.take_combinations.Goals as goal

pub loop-place-preserved : goal.loop-place-preserved
loop-place-preserved g c =
    let f = c.args.given.now.column.field in
    let lines = c.args.given.now.lines.now in
    let s = c.derived-item.result in
    let each = row_result f lines in
    let whole = taken_in c.args.work.now.kept (collect each 0 lines) in
    let count = rows-at f lines lines c.loop-place.place s c.loop-place-test.true c.derived-item.is in (
      collect-more each lines whole c.loop-place.place s c.loop-place.work.kept c.take_line.new.work.kept c.loop-place-test.true c.derived-item.is
          c.loop-place.invariant.0 c.in_ok-take_line.ensures.exact,
      omega (arith, count, c.loop-place.invariant.1, c.in_ok-take_line.ensures.counted),
      c.take_line.ensures.over ∙ c.loop-place.invariant.2,
      omega (arith, c.loop-place.invariant.3, c.take_line.ensures.counts),
    )

pub returns-in_err-take_line-clause-exact : goal.returns-in_err-take_line-clause-exact
returns-in_err-take_line-clause-exact g c =
    let f = c.args.given.now.column.field in
    let lines = c.args.given.now.lines.now in
    let each = row_result f lines in
    let whole = taken_in c.args.work.now.kept (collect each 0 lines) in
    handed-on told_step c.args.work.now.kept c.take_line.new.work.kept c.in_err-take_line.field-0.0 c.from_residual-in_err-take_line.result _
    c.from_residual-in_err-take_line.ensures.1
    (if_told (told_step c.in_err-take_line.field-0.0) (λ fault is.
    fault-of-rest c.args.work.now.kept (collect each 0 lines) fault
    (collect-fault each lines whole c.loop-place.place c.derived-item.result c.loop-place.work.kept fault c.loop-place-test.true c.derived-item.is
    c.loop-place.invariant.0 is)) c.in_err-take_line.ensures.exact)

pub returns-in_err-take_line-clause-few : goal.returns-in_err-take_line-clause-few
returns-in_err-take_line-clause-few g c =
    let lines = c.args.given.now.lines.now in
    let count = rows-at c.args.given.now.column.field lines lines c.loop-place.place c.derived-item.result c.loop-place-test.true c.derived-item.is in
    omega (arith, count, c.loop-place.invariant.1, c.in_err-take_line.ensures.few)

pub returns-clause-exact : goal.returns-clause-exact
returns-clause-exact g c =
    let f = c.args.given.now.column.field in
    let lines = c.args.given.now.lines.now in
    let each = row_result f lines in
    collect-end each lines (taken_in c.args.work.now.kept (collect each 0 lines)) c.loop-place.place c.loop-place.work.kept
    (omega (arith, c.loop-place-test.false)) c.loop-place.invariant.0

pub returns-clause-counted : goal.returns-clause-counted
returns-clause-counted g c =
    let lines = c.args.given.now.lines.now in
    let last = rows-end c.args.given.now.column.field lines lines c.loop-place.place (omega (arith, c.loop-place-test.false)) in
    omega (arith, last, c.loop-place.invariant.1)

pub returns-clause-few : goal.returns-clause-few
returns-clause-few g c =
    let lines = c.args.given.now.lines.now in
    let last = rows-end c.args.given.now.column.field lines lines c.loop-place.place (omega (arith, c.loop-place-test.false)) in
    omega (arith, last, c.loop-place.invariant.1)
