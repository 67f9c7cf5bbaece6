use Rattle.std.proofs.Common.{◌≡◌, List, ap, arith, sym, subst, ◌∙◌}
use Rattle.edit_line.specs.Domains.{domains}
use Rattle.categ_combine.specs.Apart.{LieApart}
use Rattle.categ_combine.specs.BoxLists.{AreBoxesOver, ForShape, SayWithSomeCode, sets_of}
use Rattle.categ_combine.specs.inner.FitBoxes.{AreBoxes}
use Rattle.categ_combine.specs.Covers.{IsElimination, cover_count, covered, covered_from}
use Rattle.categ_combine.specs.Origins.{AllCome, ComesFromCover}
use Rattle.categ_combine.specs.Steps.{IsDone}
use Rattle.categ_combine.specs.declared.box_from.BoxFrom.{BoxFrom}
use Rattle.categ_combine.proofs.ApartLaws.{done-apart, ok-so}
use Rattle.categ_combine.proofs.BoxOrigins.{covered-comes, done-comes}
use Rattle.categ_combine.proofs.OriginLaws.{sets-covered}
use Rattle.categ_combine.proofs.OverLaws.{done-over, over-covered}
use Rattle.categ_combine.proofs.StepLaws.{done-same, done-sets, first-shape, if_ok, none-count, none-covered, none-first}
use Rattle.categ_combine.proofs.step.cat_step.Goals as goal

pub returns-in-None-clause-exact : goal.returns-in-None-clause-exact
returns-in-None-clause-exact c = λ shape over takes.
    let none = none-first c.args.boxes.now c.in-None.ensures.value in (
      cc (c.from_vec.ensures, c.new.ensures.items, none-covered shape c.args.field takes, ap (λ (bs : List BoxFrom). covered_from shape bs c.args.field) none),
      sym (ap (λ (bs : List BoxFrom). cover_count shape (sets_of bs) c.args.field) none ∙ none-count shape c.args.field),
    )

pub returns-in-None-clause-passed : goal.returns-in-None-clause-passed
returns-in-None-clause-passed c = λ shape over takes.
    let none = none-first c.args.boxes.now c.in-None.ensures.value in
    let count = ap (λ (bs : List BoxFrom). cover_count shape (sets_of bs) c.args.field) none ∙ none-count shape c.args.field in
    (λ no_pairs. absurd no_pairs, λ past. absurd (omega (arith, past, count)))

pub returns-in-None-clause-sets : goal.returns-in-None-clause-sets
returns-in-None-clause-sets c = λ shape over takes.
    let none = none-first c.args.boxes.now c.in-None.ensures.value in
    let exact : c.from_vec.result ≡ covered_from shape c.args.boxes.now c.args.field = cc
    (c.from_vec.ensures, c.new.ensures.items, none-covered shape c.args.field takes, ap (λ (bs : List BoxFrom). covered_from shape bs c.args.field) none) in
    ap (λ (bs : List BoxFrom). sets_of bs) exact ∙ sets-covered shape c.args.boxes.now c.args.field

pub returns-in-None-clause-over : goal.returns-in-None-clause-over
returns-in-None-clause-over c = λ shape over takes.
    let none = none-first c.args.boxes.now c.in-None.ensures.value in
    let exact : c.from_vec.result ≡ covered_from shape c.args.boxes.now c.args.field = cc
    (c.from_vec.ensures, c.new.ensures.items, none-covered shape c.args.field takes, ap (λ (bs : List BoxFrom). covered_from shape bs c.args.field) none) in
    subst (λ bs. AreBoxesOver shape bs) (sym exact) (over-covered shape c.args.boxes.now c.args.field over)

pub returns-in-Some-clause-over : goal.returns-in-Some-clause-over
returns-in-Some-clause-over c =
    let boxes = c.args.boxes.now in
    let own = domains c.shape.result in
    if_ok (λ told. IsDone told (IsElimination own boxes c.args.field)) (λ told. IsDone told (λ left pairs. AreBoxes boxes))
    (λ told. ForShape boxes c.args.field 0 (λ shape. IsDone told (λ left pairs. AreBoxesOver shape left)))
    c.step_over.result (
    λ told are fit. λ shape over takes.
    done-over own shape boxes c.args.field (c.shape.ensures ∙ first-shape boxes c.in-Some.first.now shape c.in-Some.ensures.value over) over told are
    ) c.step_over.ensures.exact c.step_over.ensures.fit

pub returns-in-None-clause-origins : goal.returns-in-None-clause-origins
returns-in-None-clause-origins c = λ shape over takes.
    let none = none-first c.args.boxes.now c.in-None.ensures.value in
    let exact : c.from_vec.result ≡ covered_from shape c.args.boxes.now c.args.field = cc
    (c.from_vec.ensures, c.new.ensures.items, none-covered shape c.args.field takes, ap (λ (bs : List BoxFrom). covered_from shape bs c.args.field) none) in
    subst (λ bs. AllCome (ComesFromCover shape c.args.boxes.now c.args.field) bs) (sym exact) (covered-comes shape c.args.boxes.now c.args.field over takes)

pub returns-in-Some-clause-origins : goal.returns-in-Some-clause-origins
returns-in-Some-clause-origins c =
    let boxes = c.args.boxes.now in
    let own = domains c.shape.result in
    if_ok (λ told. IsDone told (IsElimination own boxes c.args.field)) (λ told. IsDone told (λ left pairs. AreBoxes boxes))
    (λ told. ForShape boxes c.args.field 0 (λ shape. IsDone told (λ left pairs. AllCome (ComesFromCover shape boxes c.args.field) left)))
    c.step_over.result (
    λ told are fit. λ shape over takes.
    done-comes own shape boxes c.args.field (c.shape.ensures ∙ first-shape boxes c.in-Some.first.now shape c.in-Some.ensures.value over) over takes told are
    ) c.step_over.ensures.exact c.step_over.ensures.fit

pub returns-in-Some-clause-sets : goal.returns-in-Some-clause-sets
returns-in-Some-clause-sets c =
    let boxes = c.args.boxes.now in
    let own = domains c.shape.result in
    if_ok (λ told. IsDone told (IsElimination own boxes c.args.field)) (λ told. IsDone told (λ left pairs. AreBoxes boxes))
    (λ told. ForShape boxes c.args.field 0 (λ shape. IsDone told (λ left pairs. sets_of left ≡ covered shape (sets_of boxes) c.args.field)))
    c.step_over.result (
    λ told are fit. λ shape over takes.
    done-sets own shape boxes c.args.field (c.shape.ensures ∙ first-shape boxes c.in-Some.first.now shape c.in-Some.ensures.value over) told are
    ) c.step_over.ensures.exact c.step_over.ensures.fit

pub returns-in-Some-clause-same : goal.returns-in-Some-clause-same
returns-in-Some-clause-same c =
    let boxes = c.args.boxes.now in
    let own = domains c.shape.result in
    if_ok (λ told. IsDone told (IsElimination own boxes c.args.field)) (λ told. IsDone told (λ left pairs. AreBoxes boxes))
    (λ told. ForShape boxes c.args.field 0 (λ shape. IsDone told (λ left pairs. SayWithSomeCode shape boxes c.args.field left)))
    c.step_over.result (
    λ told are fit. λ shape over takes.
    done-same own shape boxes c.args.field (c.shape.ensures ∙ first-shape boxes c.in-Some.first.now shape c.in-Some.ensures.value over) over takes told are fit
    ) c.step_over.ensures.exact c.step_over.ensures.fit

pub returns-in-Some-clause-apart : goal.returns-in-Some-clause-apart
returns-in-Some-clause-apart c =
    let own = domains c.shape.result in
    ok-so (λ told. IsDone told (IsElimination own c.args.boxes.now c.args.field)) (λ told. IsDone told (λ left pairs. LieApart left))
    c.step_over.result (λ told are. done-apart own c.args.boxes.now c.args.field told are) c.step_over.ensures.exact
