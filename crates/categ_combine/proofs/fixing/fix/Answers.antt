use Rattle.std.proofs.Common.{◌≡◌, sym, subst, ◌∙◌, arith}
use Rattle.edit_line.specs.Domains.{domains}
use Rattle.categ_combine.specs.Apart.{LieApart}
use Rattle.categ_combine.specs.BoxLists.{AreBoxesOver, ForShape, SayWithCode, reduce_from, sets_of}
use Rattle.categ_combine.specs.inner.FitBoxes.{AreBoxes}
use Rattle.categ_combine.specs.Each.{each_from}
use Rattle.categ_combine.specs.Fixing.{fixed, fixed_one}
use Rattle.categ_combine.specs.Origins.{AllCome, ComesFromFix}
use Rattle.categ_combine.proofs.ApartLaws.{apart-reduced, ok-so}
use Rattle.categ_combine.proofs.BoxOrigins.{fixed-comes}
use Rattle.categ_combine.proofs.OverLaws.{over-fixed}
use Rattle.categ_combine.proofs.StepLaws.{first-shape, fixed-exact, fixed-same, fixed-sets, if_ok}
use Rattle.std.proofs.lemmas.Grind.{common_steps}
use Rattle.categ_combine.proofs.fixing.fix.Goals as goal

pub returns-in-Some-clause-over : goal.returns-in-Some-clause-over
returns-in-Some-clause-over c =
    let boxes = c.args.boxes.now in
    let spot = c.spot_of-spot.result in
    let own = domains c.shape.result in
    if_ok (λ left. left.items ≡ reduce_from (each_from (fixed_one spot.place spot.whole c.args.code) 0 boxes)) (λ left. AreBoxes boxes)
    (λ left. ForShape boxes c.args.field c.args.code (λ shape. AreBoxesOver shape left.items))
    c.fix_at.result (
    λ left is fit. λ shape over below.
    subst (λ bs. AreBoxesOver shape bs) (sym (fixed-exact own shape boxes left.items c.args.field c.args.code spot.place spot.whole
    (c.shape.ensures ∙ first-shape boxes c.in-Some.first.now shape c.in-Some.ensures.value over) c.spot_of-spot.ensures.place
    c.spot_of-spot.ensures.whole is))
    (over-fixed shape boxes c.args.field c.args.code over)
    ) c.fix_at.ensures.left c.fix_at.ensures.fit

pub returns-in-Some-clause-origins : goal.returns-in-Some-clause-origins
returns-in-Some-clause-origins c =
    let boxes = c.args.boxes.now in
    let spot = c.spot_of-spot.result in
    let own = domains c.shape.result in
    if_ok (λ left. left.items ≡ reduce_from (each_from (fixed_one spot.place spot.whole c.args.code) 0 boxes)) (λ left. AreBoxes boxes)
    (λ left. ForShape boxes c.args.field c.args.code (λ shape. AllCome (ComesFromFix shape boxes c.args.field c.args.code) left.items))
    c.fix_at.result (
    λ left is fit. λ shape over below.
    subst (λ bs. AllCome (ComesFromFix shape boxes c.args.field c.args.code) bs)
    (sym (fixed-exact own shape boxes left.items c.args.field c.args.code spot.place spot.whole
    (c.shape.ensures ∙ first-shape boxes c.in-Some.first.now shape c.in-Some.ensures.value over) c.spot_of-spot.ensures.place
    c.spot_of-spot.ensures.whole is))
    (fixed-comes shape boxes c.args.field over c.args.code)
    ) c.fix_at.ensures.left c.fix_at.ensures.fit

pub returns-in-Some-clause-sets : goal.returns-in-Some-clause-sets
returns-in-Some-clause-sets c =
    let boxes = c.args.boxes.now in
    let spot = c.spot_of-spot.result in
    let own = domains c.shape.result in
    if_ok (λ left. left.items ≡ reduce_from (each_from (fixed_one spot.place spot.whole c.args.code) 0 boxes)) (λ left. AreBoxes boxes)
    (λ left. ForShape boxes c.args.field c.args.code (λ shape. sets_of left.items ≡ fixed shape (sets_of boxes) c.args.field c.args.code))
    c.fix_at.result (
    λ left is fit. λ shape over below.
    fixed-sets own shape boxes left.items c.args.field c.args.code spot.place spot.whole
    (c.shape.ensures ∙ first-shape boxes c.in-Some.first.now shape c.in-Some.ensures.value over) c.spot_of-spot.ensures.place
    c.spot_of-spot.ensures.whole is
    ) c.fix_at.ensures.left c.fix_at.ensures.fit

pub returns-in-Some-clause-same : goal.returns-in-Some-clause-same
returns-in-Some-clause-same c =
    let boxes = c.args.boxes.now in
    let spot = c.spot_of-spot.result in
    let own = domains c.shape.result in
    if_ok (λ left. left.items ≡ reduce_from (each_from (fixed_one spot.place spot.whole c.args.code) 0 boxes)) (λ left. AreBoxes boxes)
    (λ left. ForShape boxes c.args.field c.args.code (λ shape. SayWithCode shape boxes c.args.field c.args.code left.items))
    c.fix_at.result (
    λ left is fit. λ shape over below p held.
    fixed-same own shape boxes left.items c.args.field c.args.code spot.place spot.whole
    (c.shape.ensures ∙ first-shape boxes c.in-Some.first.now shape c.in-Some.ensures.value over) c.spot_of-spot.ensures.place
    c.spot_of-spot.ensures.whole is p over fit below held
    ) c.fix_at.ensures.left c.fix_at.ensures.fit

pub returns-in-Some-clause-apart : goal.returns-in-Some-clause-apart
returns-in-Some-clause-apart c =
    let spot = c.spot_of-spot.result in
    ok-so (λ left. left.items ≡ reduce_from (each_from (fixed_one spot.place spot.whole c.args.code) 0 c.args.boxes.now)) (λ left. LieApart left.items)
    c.fix_at.result (
    λ left is. subst (λ bs. LieApart bs) (sym is) (apart-reduced (each_from (fixed_one spot.place spot.whole c.args.code) 0 c.args.boxes.now))
    ) c.fix_at.ensures.left

pub returns-in-None-clause-exact : goal.returns-in-None-clause-exact
returns-in-None-clause-exact c = grind (arith, common_steps)

pub returns-in-None-clause-sets : goal.returns-in-None-clause-sets
returns-in-None-clause-sets c = grind (arith, common_steps)

pub returns-in-None-clause-same : goal.returns-in-None-clause-same
returns-in-None-clause-same c = grind (arith, common_steps)
