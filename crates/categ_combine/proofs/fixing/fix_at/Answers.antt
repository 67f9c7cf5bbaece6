use Rattle.std.proofs.Common.{◌+◌, [], List, drop, get_or, inl, sym, ap, ◌∙◌, subst, arith}
use Rattle.std.specs.List.{fold}
use Rattle.std.proofs.Math.Seq.{drop-cons}
use Rattle.std.proofs.lemmas.List.Elements.{All-more}
use Rattle.edit_line.specs.Boxes.{IsBox}
use Rattle.edit_line.specs.Reductions.{IsIn}
use Rattle.categ_combine.specs.BoxLists.{with_from}
use Rattle.categ_combine.specs.Fixing.{fixed_one}
use Rattle.categ_combine.specs.declared.box_from.BoxFrom.{BoxFrom}
use Rattle.categ_combine.specs.inner.Clear.{AllClear}
use Rattle.categ_combine.proofs.ApartLaws.{clear-more, within-spot}
use Rattle.categ_combine.proofs.EachLaws.{each-taken}
use Rattle.std.proofs.lemmas.Grind.{common_steps}
use Rattle.categ_combine.proofs.fixing.fix_at.Goals as goal

pub take_fixed-requires-clause-clear : goal.take_fixed-requires-clause-clear
take_fixed-requires-clause-clear c = λ known.
    c.loop-i.invariant.2 known c.index-boxes-i.result
    (subst (λ (bs : List BoxFrom). IsIn c.index-boxes-i.result bs) (sym (drop-cons c.args.boxes.now c.loop-i.i c.index-boxes-i.result c.loop-i-test.true))
    (inl c.index-boxes-i.is))

pub loop-i-preserved : goal.loop-i-preserved
loop-i-preserved c =
    let boxes = c.args.boxes.now in
    let i = c.loop-i.i in
    let own = c.index-boxes-i.result in
    let e = each-taken with_from (fixed_one c.args.by.now.spot.place c.args.by.now.spot.whole c.args.by.now.code) [] boxes i own c.loop-i-test.true in
    let fit : IsBox (get_or boxes i own).code_box = subst (λ (b : BoxFrom). IsBox b.code_box) c.index-boxes-i.is c.in_ok-take_fixed.ensures.fit in
    let fits = within-spot _ _ (get_or boxes i own).code_box.sets c.args.by.now.spot.place c.args.by.now.spot.whole c.args.by.now.spot.stands
    (c.requires.over i own c.loop-i-test.true) fit in (
      cc (e, c.in_ok-take_fixed.ensures.kept, c.loop-i.invariant.0, c.index-boxes-i.is),
      All-more (λ (b : BoxFrom). IsBox b.code_box) boxes i own c.loop-i-test.true c.loop-i.invariant.1 fit,
      λ known. subst (λ (bs : List BoxFrom). AllClear c.args.by.now.spot.place c.args.by.now.spot.whole bs (drop (i + 1) boxes))
          (sym (c.in_ok-take_fixed.ensures.kept ∙ ap (λ (b : BoxFrom). fold with_from c.loop-i.kept.items
          (fixed_one c.args.by.now.spot.place c.args.by.now.spot.whole c.args.by.now.code i b)) c.index-boxes-i.is))
          (clear-more c.args.by.now.spot.place c.args.by.now.spot.whole c.args.by.now.code boxes c.loop-i.kept.items i own (c.requires.apart known)
          c.loop-i-test.true c.args.by.now.spot.stands.some fits (c.loop-i.invariant.2 known)),
    )

pub returns-clause-left : goal.returns-clause-left
returns-clause-left c = grind (arith, common_steps)

pub returns-clause-fit : goal.returns-clause-fit
returns-clause-fit c = grind (arith, common_steps)
