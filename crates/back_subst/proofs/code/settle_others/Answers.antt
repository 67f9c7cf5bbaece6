use Rattle.std.proofs.Common.{◌≡◌, ◌∙◌, ◌<◌, ◌^◌, ℕ, true, List, get_or, length, subst, refl, sym, ap}
use Rattle.edit_line.specs.Shapes.{code_fields, has_field, shape_of}
use Rattle.edit_line.proofs.ShapeLaws.{same_codes}
use Rattle.edit_model.specs.Rows.{value_of}
use Rattle.categ_combine.specs.BoxLists.{AreBoxesOver, sets_of}
use Rattle.categ_combine.specs.declared.box_from.BoxFrom.{BoxFrom}
use Rattle.std.proofs.lemmas.Bool.Decides.{Decides-eqb}
use Rattle.std.proofs.lemmas.List.{take_all}
use Rattle.categ_combine.specs.Covers.{cover_count}
use Rattle.back_subst.specs.inner.Codes.{settled_but, settled_by}
use Rattle.back_subst.proofs.CodeSteps.{few-here, listed-at, passed-by, settled-more, unequal}
use Rattle.back_subst.proofs.code.settle_others.Goals as goal
use Rattle.back_subst.proofs.code.settle_others.Goals.{After-codes-field-items, then-field-but+in_ok-kept, else-field-but}

module _ (c : After-codes-field-items) where
  fields-are : c.codes-field-items.result.now ≡ code_fields (shape_of c.args.survey.now.fields)
  fields-are = same_codes c.codes-field-items.result.now c.args.survey.now.fields (shape_of c.args.survey.now.fields) c.codes-field-items.ensures refl

  there : (i : ℕ) → i < length c.codes-field-items.result.now
      → has_field (code_fields (shape_of c.args.survey.now.fields)) (get_or c.codes-field-items.result.now i 0) ≡ true
  there i below = ap (λ fs. has_field fs (get_or c.codes-field-items.result.now i 0)) (sym fields-are) ∙ listed-at c.codes-field-items.result.now i 0 below

pub loop-field-init : goal.loop-field-init
loop-field-init c = (c.requires.over, λ left blank. refl)

pub settle_field-requires-clause-field : goal.settle_field-requires-clause-field
settle_field-requires-clause-field c =
    there (goal.at.settle_field-requires-clause-field c).After-codes-field-items c.loop-field.field-index c.loop-field-test.true

pub settle_field-requires-clause-codes : goal.settle_field-requires-clause-codes
settle_field-requires-clause-codes c =
    c.requires.codes _ (there (goal.at.settle_field-requires-clause-codes c).After-codes-field-items c.loop-field.field-index c.loop-field-test.true)

pub settle_field-requires-clause-few : goal.settle_field-requires-clause-few
settle_field-requires-clause-few c = λ none.
    let at = (goal.at.settle_field-requires-clause-few c).After-codes-field-items in
    let order = c.codes-field-items.result.now in
    let i = c.loop-field.field-index in
    let (left, blank, few) = c.requires.few in
    subst (λ (bs : List BoxFrom). cover_count (shape_of c.args.survey.now.fields) (sets_of bs) (get_or order i 0) < 2 ^ 64) (sym c.deref.ensures.value)
    (few-here c.args.survey.now.fields c.args.row.now left c.args.but i order (sets_of c.args.boxes.items) (sets_of c.loop-field.kept.items)
    c.loop-field-test.true (c.loop-field.invariant.1 left blank) c.requires.row blank (there at i c.loop-field-test.true)
    (unequal _ _ c.if-field-but.true) (fields-are at) few none)

pub loop-field-preserved : goal.loop-field-preserved
loop-field-preserved c =
    let shape = shape_of c.args.survey.now.fields in
    let at = (goal.at.loop-field-preserved c).After-codes-field-items in
    let order = c.codes-field-items.result.now in
    let i = c.loop-field.field-index in
    elim c.if-field-but.branch [
      | then-field-but+in_ok-kept w ↦ (
        subst (λ (bs : List BoxFrom). AreBoxesOver shape bs) (ap (λ v. v.items) (sym w.kept-is)) w.in_ok-kept.ensures.over,
        λ left blank.
            settled-more c.args.survey.now.fields c.args.row.now left c.args.but i order (sets_of c.args.boxes.items) (sets_of c.loop-field.kept.items)
            c.loop-field-test.true (c.loop-field.invariant.1 left blank) c.requires.row blank (there at i c.loop-field-test.true)
            (unequal _ _ w.if-field-but.true) (sets_of c.if-field-but.kept.items)
            (ap (λ v. sets_of v.items) w.kept-is ∙ w.in_ok-kept.ensures.sets
            ∙ ap (λ (bs : List BoxFrom). settled_by shape (value_of c.args.row.now (get_or order i 0)) (get_or order i 0) (sets_of bs))
            w.deref.ensures.value),
      )
      | else-field-but w ↦ (
        subst (λ (bs : List BoxFrom). AreBoxesOver shape bs) (ap (λ v. v.items) (sym w.kept-is)) c.loop-field.invariant.0,
        λ left blank.
            ap (λ v. sets_of v.items) w.kept-is
            ∙ passed-by c.args.survey.now.fields c.args.row.now left c.args.but i order (sets_of c.args.boxes.items) (sets_of c.loop-field.kept.items)
            c.loop-field-test.true (c.loop-field.invariant.1 left blank) ((Decides-eqb _ _).1 w.if-field-but.false),
      )
    ]

pub returns-clause-sets : goal.returns-clause-sets
returns-clause-sets c = λ left blank.
    let at = (goal.at.returns-clause-sets c).After-codes-field-items in
    c.loop-field.invariant.1 left blank ∙ ap (λ fs. settled_but (shape_of c.args.survey.now.fields) c.args.row.now left c.args.but fs
    (sets_of c.args.boxes.items)) (take_all c.loop-field.field-index c.codes-field-items.result.now c.loop-field-test.false ∙ fields-are at)
