use Rattle.std.proofs.Common.{◌++◌, List, take, sym, ap, ◌∙◌, subst, arith}
use Rattle.std.proofs.lemmas.List.Elements.{All-more}
use Rattle.edit_line.specs.Boxes.{IsBox}
use Rattle.categ_combine.specs.Covers.{unchanged_one}
use Rattle.categ_combine.specs.Each.{each_from}
use Rattle.categ_combine.specs.declared.box_from.BoxFrom.{BoxFrom}
use Rattle.categ_combine.proofs.EachLaws.{each-next}
use Rattle.std.proofs.lemmas.Grind.{common_steps}
use Rattle.categ_combine.proofs.step.whole_copies.Goals as goal

pub loop-i-preserved : goal.loop-i-preserved
loop-i-preserved c =
    let e = each-next (unchanged_one c.args.spot.now.place c.args.spot.now.whole) c.args.boxes.now c.loop-i.i c.index-boxes-i.result c.loop-i-test.true in (
      c.in_ok-push_whole.ensures.whole ∙ ap (λ (bs : List BoxFrom). bs
          ++ unchanged_one c.args.spot.now.place c.args.spot.now.whole c.loop-i.i c.index-boxes-i.result) c.loop-i.invariant.0
          ∙ ap (λ (b : BoxFrom). each_from (unchanged_one c.args.spot.now.place c.args.spot.now.whole) 0 (take c.loop-i.i c.args.boxes.now)
          ++ unchanged_one c.args.spot.now.place c.args.spot.now.whole c.loop-i.i b) c.index-boxes-i.is ∙ sym e,
      All-more (λ (b : BoxFrom). IsBox b.code_box) c.args.boxes.now c.loop-i.i c.index-boxes-i.result c.loop-i-test.true c.loop-i.invariant.1
          (subst (λ (b : BoxFrom). IsBox b.code_box) c.index-boxes-i.is c.push_whole.ensures.fit),
    )

pub returns-clause-whole : goal.returns-clause-whole
returns-clause-whole c = grind (arith, common_steps)

pub returns-clause-fit : goal.returns-clause-fit
returns-clause-fit c = grind (arith, common_steps)
