use Rattle.std.proofs.Common.{◌≡◌, List, ap, arith, subst, sym, ◌∙◌}
use Rattle.std.specs.List.{flat_map}
use Rattle.std.proofs.lemmas.List.{take_all}
use Rattle.edit_line.specs.Domains.{domains}
use Rattle.categ_combine.specs.BoxLists.{AreBoxesOver, reduce_from}
use Rattle.categ_combine.specs.Covers.{row_of, with_code_from}
use Rattle.categ_combine.specs.declared.box_from.BoxFrom.{BoxFrom}
use Rattle.categ_combine.proofs.OriginLaws.{over-with_code}
use Rattle.std.proofs.lemmas.Grind.{common_steps}
use Rattle.categ_combine.proofs.cover.with_code.Goals as goal

pub returns-clause-over : goal.returns-clause-over
returns-clause-over c =
    let is : c.loop-cover.work.next.items ≡ with_code_from c.args.at.now.spot.place c.args.at.now.spot.whole c.args.boxes.now c.args.covers.now
    c.args.at.now.code =
    c.loop-cover.invariant ∙ ap (λ (cs : List BoxFrom). reduce_from
    (flat_map (row_of c.args.at.now.spot.place c.args.at.now.spot.whole c.args.at.now.code c.args.boxes.now) cs))
    (take_all c.loop-cover.cover-index c.args.covers.now (omega arith)) in
    subst (λ (bs : List BoxFrom). AreBoxesOver (domains c.args.at.now.spot.shape) bs) (sym is) (
    over-with_code c.args.at.now.spot.place c.args.at.now.spot.whole (domains c.args.at.now.spot.shape) c.args.boxes.now c.args.covers.now
    c.args.at.now.code c.requires.covers
    )

pub loop-cover-preserved : goal.loop-cover-preserved
loop-cover-preserved c = grind (arith, common_steps)

pub returns-clause-next : goal.returns-clause-next
returns-clause-next c = grind (arith, common_steps)
