use Rattle.std.proofs.Common.{List, All, subst}
use Rattle.std.proofs.lemmas.List.{take_all}
use Rattle.edit_line.specs.Lines.{IsLine, LineParts}
use Rattle.redundancy.proofs.BaseLaws.{lines-more}
use Rattle.redundancy.proofs.pruning.read_lines.Goals as goal

pub loop-line-preserved : goal.loop-line-preserved
loop-line-preserved c = lines-more c.args.lines.now c.loop-line.line-index c.line-item.result c.loop-line-test.true c.line-item.is c.sets-in_form.ensures.line
    c.loop-line.invariant

pub returns : goal.returns
returns c = subst (λ (ls : List LineParts). All IsLine ls) (take_all c.loop-line.line-index c.args.lines.now c.loop-line-test.false) c.loop-line.invariant
