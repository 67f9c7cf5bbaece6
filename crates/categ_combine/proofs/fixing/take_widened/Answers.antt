use Rattle.std.proofs.Common.{sym, ap, ◌∙◌}
use Rattle.edit_line.specs.Boxes.{BoxParts}
use Rattle.categ_combine.specs.BoxLists.{with_from}
use Rattle.categ_combine.specs.declared.box_from.BoxOrigin.TheVariants.{Fixed}
use Rattle.categ_combine.proofs.ApartLaws.{ok-same, takes-widened, within-spot}
use Rattle.categ_combine.proofs.fixing.take_widened.Goals as goal

pub returns : goal.returns
returns c =
    let fits = within-spot _ _ c.args.b.now.code_box.sets c.args.by.now.spot.place c.args.by.now.spot.whole c.args.by.now.spot.stands c.requires.shape
    c.sets-sets.ensures.fit in
    let own = ap (λ (x : BoxParts). x.sets) c.in_ok-made_whole.ensures in
    ok-same c.take_compared.result c.take_compared.new.kept.items _ _
    (sym (takes-widened c.args.by.now.spot.place c.args.by.now.spot.whole c.args.b.now.code_box.sets c.args.by.now.apart c.args.kept.now.items
    (record { code_box = c.in_ok-made_whole.field-0; origin = Fixed c.args.i }) fits c.requires.clear own)
    ∙ ap (λ (x : BoxParts). with_from c.args.kept.now.items (record { code_box = x; origin = Fixed c.args.i })) c.in_ok-made_whole.ensures)
    c.take_compared.ensures
