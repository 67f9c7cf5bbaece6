use Rattle.std.proofs.Common.{◌+◌, get_or, ap, sym, ◌∙◌, arith, rules}
use Rattle.linear_elim.proofs.ColumnLaws.{name-end, name-moves, name-skips, name-there, name_from}
use Rattle.linear_elim.proofs.column.place_at.Goals.{then-count-eq0+else-left-eq0, else-count-eq0}
use Rattle.linear_elim.proofs.column.place_at.Goals as goal

pub returns-then-left-eq0 : goal.returns-then-left-eq0
returns-then-left-eq0 c =
    let i = c.loop-i.i in
    let counts = c.args.counts.now in
    sym (name-there counts i c.loop-i.left (get_or counts i 0) c.loop-i-test.true (search rules) c.if-count-eq0.true c.if-left-eq0.true) ∙ c.loop-i.invariant

pub loop-i-preserved : goal.loop-i-preserved
loop-i-preserved c =
    let i = c.loop-i.i in
    let counts = c.args.counts.now in
    elim c.if-count-eq0.branch [
      | then-count-eq0+else-left-eq0 w ↦ ap (λ n. name_from counts (i + 1) n) w.left-is
          ∙ sym (name-moves counts i c.loop-i.left (get_or counts i 0) c.loop-i-test.true (search rules) w.if-count-eq0.true w.if-left-eq0.false)
          ∙ c.loop-i.invariant
      | else-count-eq0 w ↦ ap (λ n. name_from counts (i + 1) n) w.left-is
          ∙ sym (name-skips counts i c.loop-i.left (get_or counts i 0) c.loop-i-test.true (search rules) (omega (arith, w.if-count-eq0.false)))
          ∙ c.loop-i.invariant
    ]

pub returns : goal.returns
returns c = sym (name-end c.args.counts.now c.loop-i.i c.loop-i.left (omega (arith, c.loop-i-test.false))) ∙ c.loop-i.invariant
