use Rattle.std.proofs.Common.{◌≡◌, ◌*◌, ◌-◌, IfOk, ap, ◌∙◌, subst, arith}
use Rattle.edit_line.specs.EditSets.{EditsParts}
use Rattle.elimination_bench.specs.inner.Differences.{shape_with}
use Rattle.elimination_bench.proofs.DifferenceLaws.{all-edits, are-edits, differences-more, draw-more}
use Rattle.elimination_bench.proofs.differences.Differences.edits.Goals as goal

pub loop-place-preserved : goal.loop-place-preserved
loop-place-preserved c =
    let inv = c.loop-place.invariant in (
      differences-more c.args.self c.loop-place.place c.loop-place.draw c.loop-place.lines.items c.push.new.self.items c.in_ok-line.field-0
          c.in_ok-push.ensures.items inv.0 inv.1 c.in_ok-line.ensures,
      draw-more c.loop-place.place c.loop-place.draw c.next_draw-draw.result inv.1 c.next_draw-draw.ensures.next,
      c.next_draw-draw.ensures.below,
    )

pub new-requires : goal.new-requires
new-requires c = are-edits c.args.self c.loop-place.place _ c.loop-place.lines.items (c.in_ok-survey.ensures ∙ ap shape_with c.numbers-numbers.ensures)
    c.loop-place.invariant.0

pub returns : goal.returns
returns c =
    let all : c.loop-place.place ≡ c.numbers-numbers.result * (c.numbers-numbers.result - 1) =
    omega (arith, c.loop-place-test.false, c.loop-place.auto.place-end) in
    let same = all-edits c.args.self c.loop-place.place _ c.loop-place.lines.items (c.in_ok-survey.ensures ∙ ap shape_with c.numbers-numbers.ensures)
    c.loop-place.invariant.0 (all ∙ ap (λ n. n * (n - 1)) c.numbers-numbers.ensures) in
    subst (λ (p : EditsParts). IfOk c.new.result (λ edits. edits ≡ p)) same c.new.ensures
