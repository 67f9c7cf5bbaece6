use Rattle.std.proofs.Common.{◌≡◌, sym, subst, ◌∙◌}
use Rattle.edit_line.specs.Domains.{domains}
use Rattle.categ_combine.specs.Apart.{LieApart}
use Rattle.categ_combine.specs.BoxLists.{AreBoxesOver, ForShape, reduce_from}
use Rattle.categ_combine.specs.Each.{each_from}
use Rattle.categ_combine.specs.Fixing.{fixed_one}
use Rattle.categ_combine.proofs.ApartLaws.{apart-reduced, ok-so}
use Rattle.categ_combine.proofs.OverLaws.{over-fixed}
use Rattle.categ_combine.proofs.StepLaws.{first-shape, fixed-exact}
use Rattle.categ_combine.proofs.fixing.fix_apart.Goals as goal

pub returns-in-Some-clause-over : goal.returns-in-Some-clause-over
returns-in-Some-clause-over c =
    let boxes = c.args.boxes.now in
    let spot = c.spot_of-spot.result in
    let own = domains c.shape.result in
    ok-so (λ left. left.items ≡ reduce_from (each_from (fixed_one spot.place spot.whole c.args.code) 0 boxes))
    (λ left. ForShape boxes c.args.field c.args.code (λ shape. AreBoxesOver shape left.items))
    c.fix_at.result (
    λ left is. λ shape over below.
    subst (λ bs. AreBoxesOver shape bs) (sym (fixed-exact own shape boxes left.items c.args.field c.args.code spot.place spot.whole
    (c.shape.ensures ∙ first-shape boxes c.in-Some.first.now shape c.in-Some.ensures.value over) c.spot_of-spot.ensures.place
    c.spot_of-spot.ensures.whole is))
    (over-fixed shape boxes c.args.field c.args.code over)
    ) c.fix_at.ensures.left

pub returns-in-Some-clause-apart : goal.returns-in-Some-clause-apart
returns-in-Some-clause-apart c =
    let spot = c.spot_of-spot.result in
    ok-so (λ left. left.items ≡ reduce_from (each_from (fixed_one spot.place spot.whole c.args.code) 0 c.args.boxes.now)) (λ left. LieApart left.items)
    c.fix_at.result (
    λ left is. subst (λ bs. LieApart bs) (sym is) (apart-reduced (each_from (fixed_one spot.place spot.whole c.args.code) 0 c.args.boxes.now))
    ) c.fix_at.ensures.left
