use Rattle.std.proofs.Common.{◌++◌, ◌∙◌, ap, sym, arith, append-nil}
use Rattle.linear_elim.proofs.OwnLoops.{flat-own}
use Rattle.linear_elim.proofs.StepLoops.{flat-end}
use Rattle.std.proofs.lemmas.Grind.{common_steps}
use Rattle.linear_elim.proofs.elimination.own_flat_lines.Goals as goal

pub returns : goal.returns
returns c =
    let f = c.args.given.now.column.field in
    let lines = c.args.given.now.lines.now in
    let flat = c.loop-i.flat in
    sym (append-nil flat) ∙ ap (λ ds. flat ++ ds) (sym (flat-end f lines c.loop-i.i (omega (arith, c.loop-i-test.false)))) ∙ c.loop-i.invariant
    ∙ sym (flat-own f lines c.requires.own)

pub loop-i-preserved : goal.loop-i-preserved
loop-i-preserved c = grind (arith, common_steps)
