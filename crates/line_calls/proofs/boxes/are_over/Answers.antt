use Rattle.std.proofs.Common.{◌≡◌, List, rules, arith, subst}
use Rattle.std.proofs.lemmas.List.{take_all}
use Rattle.std.proofs.lemmas.List.Elements.{All-more}
use Rattle.edit_line.specs.Domains.{domains}
use Rattle.categ_combine.specs.BoxLists.{AreBoxesOver}
use Rattle.categ_combine.specs.declared.box_from.BoxFrom.{BoxFrom}
use Rattle.line_calls.proofs.boxes.are_over.Goals as goal

pub loop-i-preserved : goal.loop-i-preserved
loop-i-preserved c =
    let here : c.index-boxes-i.result.code_box.shape ≡ domains c.args.shape = search rules in
    All-more (λ (b : BoxFrom). b.code_box.shape ≡ domains c.args.shape) c.args.boxes.now c.loop-i.i c.index-boxes-i.result c.loop-i-test.true c.loop-i.invariant
    (subst (λ (b : BoxFrom). b.code_box.shape ≡ domains c.args.shape) c.index-boxes-i.is here)

pub returns : goal.returns
returns c = λ _. subst (λ (bs : List BoxFrom). AreBoxesOver (domains c.args.shape) bs)
    (take_all c.loop-i.i c.args.boxes.now (omega (arith, c.loop-i-test.false))) c.loop-i.invariant
