use Rattle.std.proofs.Common.{◌≡◌, List, ℕ, ap, subst, sym, ◌∙◌}
use Rattle.edit_line.specs.Shapes.{shape_of}
use Rattle.categ_combine.specs.BoxLists.{sets_of}
use Rattle.categ_combine.specs.declared.box_from.BoxFrom.{BoxFrom}
use Rattle.back_subst.specs.Given.{IsGivenCode}
use Rattle.back_subst.specs.inner.Codes.{AreCountableBut, IsFree, boxes_for}
use Rattle.back_subst.proofs.CodeSteps.{same-boxes}
use Rattle.back_subst.proofs.code.code_for.Goals as goal

pub settle_others-requires-clause-few : goal.settle_others-requires-clause-few
settle_others-requires-clause-few c =
    let (left, blank, boxes, made, few, free) = c.requires.some in (
      left,
      blank,
      subst (λ (bs : List (List ℕ)). AreCountableBut (shape_of c.args.survey.now.fields) c.args.row.now left c.args.field bs)
          (sym (same-boxes _ _ _ c.in-Ok.ensures.sets made)) few,
    )

pub free_code-requires-clause-some : goal.free_code-requires-clause-some
free_code-requires-clause-some c =
    let (left, blank, boxes, made, few, (code, free)) = c.requires.some in
    let same : sets_of c.in-Ok.boxes.items ≡ boxes = same-boxes _ _ _ c.in-Ok.ensures.sets made in (
      code,
      subst (λ (bs : List (List ℕ)). IsFree (shape_of c.args.survey.now.fields) bs c.args.field code)
          (ap (λ (bs : List (List ℕ)). boxes_for (shape_of c.args.survey.now.fields) c.args.row.now left c.args.field bs) (sym same)
          ∙ sym (c.in_ok-settled.ensures.sets left blank) ∙ ap (λ (bs : List BoxFrom). sets_of bs) (sym c.deref.ensures.value)) free,
    )

pub returns : goal.returns
returns c = (
  sets_of c.in-Ok.boxes.items,
  c.in-Ok.ensures.sets,
  λ left blank. subst (λ (bs : List (List ℕ)). IsGivenCode (IsFree (shape_of c.args.survey.now.fields) bs c.args.field) c.args.target c.free_code.result)
      (ap (λ (bs : List BoxFrom). sets_of bs) c.deref.ensures.value ∙ c.in_ok-settled.ensures.sets left blank) c.free_code.ensures,
)
