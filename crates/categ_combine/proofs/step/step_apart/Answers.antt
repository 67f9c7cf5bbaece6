use Rattle.std.proofs.Common.{◌∙◌}
use Rattle.edit_line.specs.Domains.{domains}
use Rattle.categ_combine.specs.Apart.{LieApart}
use Rattle.categ_combine.specs.BoxLists.{AreBoxesOver, ForShape}
use Rattle.categ_combine.specs.inner.FitBoxes.{AreBoxes}
use Rattle.categ_combine.specs.Covers.{IsElimination}
use Rattle.categ_combine.specs.Steps.{IsDone}
use Rattle.categ_combine.proofs.ApartLaws.{done-apart, ok-so}
use Rattle.categ_combine.proofs.OverLaws.{done-over}
use Rattle.categ_combine.proofs.StepLaws.{first-shape, if_ok}
use Rattle.categ_combine.proofs.step.step_apart.Goals as goal

pub returns-in-Some-clause-over : goal.returns-in-Some-clause-over
returns-in-Some-clause-over c =
    let boxes = c.args.boxes.now in
    let own = domains c.shape.result in
    if_ok (λ told. IsDone told (IsElimination own boxes c.args.field)) (λ told. IsDone told (λ left pairs. AreBoxes boxes))
    (λ told. ForShape boxes c.args.field 0 (λ shape. IsDone told (λ left pairs. AreBoxesOver shape left)))
    c.step_over.result (
    λ told are fit. λ shape over takes.
    done-over own shape boxes c.args.field (c.shape.ensures ∙ first-shape boxes c.in-Some.first.now shape c.in-Some.ensures.value over) over told are
    ) c.step_over.ensures.exact c.step_over.ensures.fit

pub returns-in-Some-clause-apart : goal.returns-in-Some-clause-apart
returns-in-Some-clause-apart c =
    let own = domains c.shape.result in
    ok-so (λ told. IsDone told (IsElimination own c.args.boxes.now c.args.field)) (λ told. IsDone told (λ left pairs. LieApart left))
    c.step_over.result (λ told are. done-apart own c.args.boxes.now c.args.field told are) c.step_over.ensures.exact
