use Rattle.std.proofs.Common.{◌∙◌, arith}
use Rattle.linear_elim.specs.Steps.{collect, substituted_result}
use Rattle.linear_elim.specs.Told.{told_step}
use Rattle.linear_elim.specs.inner.Taken.{taken_in}
use Rattle.linear_elim.proofs.StepLoops.{collect-end, collect-fault, collect-more, fault-of-rest, handed-on, if_told, substituted-at, substituted-end}
use Rattle.linear_elim.proofs.substitution.take_each.Goals as goal

pub loop-place-preserved : goal.loop-place-preserved
loop-place-preserved g c =
    let f = c.args.given.now.column.field in
    let lines = c.args.given.now.lines.now in
    let s = c.derived-item.result in
    let each = substituted_result f c.args.e.place c.args.e.derived.now in
    let whole = taken_in c.args.work.now.kept (collect each 0 lines) in
    let count = substituted-at f c.args.e.place lines c.loop-place.place s c.loop-place-test.true c.derived-item.is in (
      collect-more each lines whole c.loop-place.place s c.loop-place.work.kept c.take_substitution.new.work.kept c.loop-place-test.true c.derived-item.is
          c.loop-place.invariant.0 c.in_ok-take_substitution.ensures.exact,
      omega (arith, count, c.loop-place.invariant.1, c.take_substitution.ensures.counted),
      c.take_substitution.ensures.over ∙ c.loop-place.invariant.2,
      omega (arith, c.loop-place.invariant.3, c.take_substitution.ensures.counted),
    )

pub returns-in_err-take_substitution-clause-exact : goal.returns-in_err-take_substitution-clause-exact
returns-in_err-take_substitution-clause-exact g c =
    let f = c.args.given.now.column.field in
    let lines = c.args.given.now.lines.now in
    let each = substituted_result f c.args.e.place c.args.e.derived.now in
    let whole = taken_in c.args.work.now.kept (collect each 0 lines) in
    handed-on told_step c.args.work.now.kept c.take_substitution.new.work.kept c.in_err-take_substitution.field-0.0 c.from_residual.result _
    c.from_residual.ensures.1
    (if_told (told_step c.in_err-take_substitution.field-0.0) (λ fault is.
    fault-of-rest c.args.work.now.kept (collect each 0 lines) fault
    (collect-fault each lines whole c.loop-place.place c.derived-item.result c.loop-place.work.kept fault c.loop-place-test.true c.derived-item.is
    c.loop-place.invariant.0 is)) c.in_err-take_substitution.ensures.exact)

pub returns-in_err-take_substitution-clause-few : goal.returns-in_err-take_substitution-clause-few
returns-in_err-take_substitution-clause-few g c =
    let lines = c.args.given.now.lines.now in
    let count = substituted-at c.args.given.now.column.field c.args.e.place lines c.loop-place.place c.derived-item.result c.loop-place-test.true
    c.derived-item.is in
    omega (arith, count, c.loop-place.invariant.1, c.take_substitution.ensures.counted)

pub returns-clause-exact : goal.returns-clause-exact
returns-clause-exact g c =
    let f = c.args.given.now.column.field in
    let lines = c.args.given.now.lines.now in
    let each = substituted_result f c.args.e.place c.args.e.derived.now in
    collect-end each lines (taken_in c.args.work.now.kept (collect each 0 lines)) c.loop-place.place c.loop-place.work.kept
    (omega (arith, c.loop-place-test.false)) c.loop-place.invariant.0

pub returns-clause-counted : goal.returns-clause-counted
returns-clause-counted g c =
    let lines = c.args.given.now.lines.now in
    let last = substituted-end c.args.given.now.column.field c.args.e.place lines c.loop-place.place (omega (arith, c.loop-place-test.false)) in
    omega (arith, last, c.loop-place.invariant.1)

pub returns-clause-few : goal.returns-clause-few
returns-clause-few g c =
    let lines = c.args.given.now.lines.now in
    let last = substituted-end c.args.given.now.column.field c.args.e.place lines c.loop-place.place (omega (arith, c.loop-place-test.false)) in
    omega (arith, last, c.loop-place.invariant.1)
