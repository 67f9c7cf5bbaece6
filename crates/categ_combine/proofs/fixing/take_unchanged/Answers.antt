use Rattle.std.proofs.Common.{[], ◌∷◌, ◌++◌, refl, sym, ap, ◌∙◌}
use Rattle.edit_line.specs.Boxes.{BoxParts}
use Rattle.categ_combine.specs.Covers.{from_of}
use Rattle.categ_combine.specs.declared.box_from.BoxOrigin.TheVariants.{Unchanged}
use Rattle.categ_combine.proofs.ApartLaws.{takes-last, takes-none, within-spot}
use Rattle.categ_combine.proofs.fixing.take_unchanged.Goals as goal

pub returns-then-lie_in_compared : goal.returns-then-lie_in_compared
returns-then-lie_in_compared c =
    let spot = c.args.by.now.spot in
    let sets = c.args.b.now.code_box.sets in
    let new = from_of c.args.b.now.code_box.shape sets (Unchanged c.args.i) in
    let fits = within-spot _ _ sets spot.place spot.whole spot.stands c.requires.shape c.sets.ensures.fit in
    sym (takes-none spot.place spot.whole sets c.sets.result.now c.args.by.now.apart c.args.kept.now.items c.deref.result.now new c.lie_in_compared.result
    c.deref.ensures.value c.sets.ensures.sets c.lie_in_compared.ensures refl c.requires.whole fits c.requires.clear c.if-lie_in_compared.true)

pub returns-in_ok-push : goal.returns-in_ok-push
returns-in_ok-push c =
    let spot = c.args.by.now.spot in
    let sets = c.args.b.now.code_box.sets in
    let new = from_of c.args.b.now.code_box.shape sets (Unchanged c.args.i) in
    let fits = within-spot _ _ sets spot.place spot.whole spot.stands c.requires.shape c.sets.ensures.fit in
    c.in_ok-push.ensures.items ∙ ap (λ (x : BoxParts). c.args.kept.now.items ++ record { code_box = x; origin = Unchanged c.args.i } ∷ []) c.in_ok-copy.ensures
    ∙ sym (takes-last spot.place spot.whole sets c.sets.result.now c.args.by.now.apart c.args.kept.now.items c.deref.result.now new c.lie_in_compared.result
    c.deref.ensures.value c.sets.ensures.sets c.lie_in_compared.ensures refl c.requires.whole fits c.requires.clear c.if-lie_in_compared.false c.if-by.true)
