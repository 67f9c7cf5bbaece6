use Rattle.std.proofs.Common.{◌∙◌, ap, sym, arith}
use Rattle.linear_elim.specs.Steps.{is_opposite, pair_result}
use Rattle.linear_elim.specs.Told.{told_step}
use Rattle.linear_elim.specs.inner.Taken.{taken_in}
use Rattle.linear_elim.specs.inner.Uppers.{collect_at}
use Rattle.linear_elim.proofs.StepLoops.{fault-of-rest, handed-on, if_told}
use Rattle.linear_elim.proofs.UpperLaws.{count-uppers, places-end, places-fault, places-more, places_count-end, places_count-more, row-uppers}
use Rattle.linear_elim.proofs.elimination.take_opposites.Goals as goal

pub loop-place-preserved : goal.loop-place-preserved
loop-place-preserved g c =
    let f = c.args.given.now.column.field in
    let s = c.args.s.derived.now in
    let lines = c.args.given.now.lines.now in
    let places = c.args.uppers.now in
    let i = c.loop-place.place-index in
    let each = pair_result f c.args.s.place s in
    let whole = taken_in c.args.work.now.kept (collect_at each lines places) in
    let count = places_count-more (is_opposite f s.line) lines places i c.loop-place-test.true in (
      places-more each lines places whole i c.loop-place.work.kept c.loop-place.invariant.0 c.take_at.new.work.kept c.loop-place-test.true
          c.in_ok-take_at.ensures.exact,
      omega (arith, count, c.loop-place.invariant.1, c.take_at.ensures.counted),
      c.take_at.ensures.over ∙ c.loop-place.invariant.2,
      omega (arith, c.loop-place.invariant.3, c.take_at.ensures.counted),
    )

pub returns-in_err-take_at-clause-exact : goal.returns-in_err-take_at-clause-exact
returns-in_err-take_at-clause-exact g c =
    let f = c.args.given.now.column.field in
    let s = c.args.s.derived.now in
    let lines = c.args.given.now.lines.now in
    let places = c.args.uppers.now in
    let each = pair_result f c.args.s.place s in
    let whole = taken_in c.args.work.now.kept (collect_at each lines places) in
    handed-on told_step c.args.work.now.kept c.take_at.new.work.kept c.in_err-take_at.field-0.0 c.from_residual.result _ c.from_residual.ensures.1
    (if_told (told_step c.in_err-take_at.field-0.0) (λ fault is.
    sym (row-uppers f s c.args.s.place lines places c.requires.uppers)
    ∙ fault-of-rest c.args.work.now.kept (collect_at each lines places) fault
    (places-fault each lines places whole c.loop-place.place-index c.loop-place.work.kept c.loop-place.invariant.0 fault c.loop-place-test.true is))
    c.in_err-take_at.ensures.exact)

pub returns-in_err-take_at-clause-few : goal.returns-in_err-take_at-clause-few
returns-in_err-take_at-clause-few g c =
    let f = c.args.given.now.column.field in
    let s = c.args.s.derived.now in
    let lines = c.args.given.now.lines.now in
    let places = c.args.uppers.now in
    let count = places_count-more (is_opposite f s.line) lines places c.loop-place.place-index c.loop-place-test.true in
    let all = count-uppers f s lines places c.requires.uppers in
    omega (arith, count, all, c.loop-place.invariant.1, c.in_err-take_at.ensures.counted)

pub returns-clause-exact : goal.returns-clause-exact
returns-clause-exact g c =
    let f = c.args.given.now.column.field in
    let s = c.args.s.derived.now in
    let lines = c.args.given.now.lines.now in
    let places = c.args.uppers.now in
    let each = pair_result f c.args.s.place s in
    ap (λ r. taken_in c.args.work.now.kept r) (sym (row-uppers f s c.args.s.place lines places c.requires.uppers))
    ∙ places-end each lines places (taken_in c.args.work.now.kept (collect_at each lines places)) c.loop-place.place-index c.loop-place.work.kept
    c.loop-place.invariant.0 (omega (arith, c.loop-place-test.false))

pub returns-clause-counted : goal.returns-clause-counted
returns-clause-counted g c =
    let f = c.args.given.now.column.field in
    let s = c.args.s.derived.now in
    let lines = c.args.given.now.lines.now in
    let places = c.args.uppers.now in
    let last = places_count-end (is_opposite f s.line) lines places c.loop-place.place-index (omega (arith, c.loop-place-test.false)) in
    let all = count-uppers f s lines places c.requires.uppers in
    omega (arith, last, all, c.loop-place.invariant.1)

pub returns-clause-few : goal.returns-clause-few
returns-clause-few g c =
    let f = c.args.given.now.column.field in
    let s = c.args.s.derived.now in
    let lines = c.args.given.now.lines.now in
    let places = c.args.uppers.now in
    let last = places_count-end (is_opposite f s.line) lines places c.loop-place.place-index (omega (arith, c.loop-place-test.false)) in
    let all = count-uppers f s lines places c.requires.uppers in
    omega (arith, last, all, c.loop-place.invariant.1)
