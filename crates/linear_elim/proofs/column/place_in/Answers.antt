use Rattle.std.proofs.Common.{◌+◌, get_or, ap, ◌∙◌, arith, rules}
use Rattle.linear_elim.proofs.ColumnLaws.{is-place, place-end, place_from, skips-place, takes-place}
use Rattle.linear_elim.proofs.column.place_in.Goals.{then-count-eq0+else-i-field, else-count-eq0}
use Rattle.linear_elim.proofs.column.place_in.Goals as goal

pub returns-then-i-field : goal.returns-then-i-field
returns-then-i-field c =
    is-place c.args.counts.now c.loop-i.i c.args.field c.loop-i.place _ c.loop-i-test.true (search rules) c.loop-i.invariant.0 c.if-count-eq0.true
    c.if-i-field.true

pub loop-i-preserved : goal.loop-i-preserved
loop-i-preserved c =
    let i = c.loop-i.i in
    let counts = c.args.counts.now in
    elim c.if-count-eq0.branch [
      | then-count-eq0+else-i-field w ↦ (
        ap (λ n. n + place_from counts (i + 1) c.args.field) w.place-is
            ∙ takes-place counts i c.args.field c.loop-i.place (get_or counts i 0) c.loop-i-test.true (search rules) c.loop-i.invariant.0 w.if-count-eq0.true
            w.if-i-field.false,
        omega (arith, w.place-is, c.loop-i.invariant.1),
      )
      | else-count-eq0 w ↦ (
        ap (λ n. n + place_from counts (i + 1) c.args.field) w.place-is
            ∙ skips-place counts i c.args.field c.loop-i.place (get_or counts i 0) c.loop-i-test.true (search rules) c.loop-i.invariant.0
            (omega (arith, w.if-count-eq0.false)),
        omega (arith, w.place-is, c.loop-i.invariant.1),
      )
    ]

pub returns : goal.returns
returns c = place-end c.args.counts.now c.loop-i.i c.args.field c.loop-i.place (omega (arith, c.loop-i-test.false)) c.loop-i.invariant.0
