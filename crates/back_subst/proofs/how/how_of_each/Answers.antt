use Rattle.std.proofs.Common.{◌∙◌, ◌<◌, ℕ, ◌++◌, [], ◌∷◌, List, ap, arith, length, option_copied, sym}
use Rattle.edit_model.specs.Corrections.{path_order}
use Rattle.edit_model.specs.FieldSets.{has_number}
use Rattle.edit_model.specs.Rows.{value_of}
use Rattle.edit_model.specs.declared.field.Field.{Field}
use Rattle.edit_model.specs.declared.value.Value.{Value}
use Rattle.edit_model.proofs.OrderLaws.{order-length}
use Rattle.edit_model.proofs.RowLaws.{row-length}
use Rattle.back_subst.specs.Gifts.{how_of}
use Rattle.back_subst.specs.declared.gift.How.{How}
use Rattle.back_subst.proofs.HowLaws.{told-all, told-more, told-same}
use Rattle.back_subst.proofs.UnderWayLaws.{donor-within}
use Rattle.back_subst.proofs.how.how_of_each.Goals as goal
use Rattle.back_subst.proofs.how.how_of_each.Goals.{then-has+in_ok-push, else-has}

pub value-requires : goal.value-requires
value-requires c = omega (arith, c.path_field-field.ensures.within, row-length c.args.survey.now.fields c.args.row.now c.requires.row)

pub how_of-requires : goal.how_of-requires
how_of-requires c = donor-within c.args.survey.now (option_copied c.args.donor) c.path_field-field.result c.requires.donor c.path_field-field.ensures.within

pub loop-place-preserved : goal.loop-place-preserved
loop-place-preserved c =
    let h : ℕ → How = λ f. how_of (option_copied c.args.donor) f (value_of c.args.row.now f) in
    let t = has_number c.args.changed in
    let order = path_order c.args.survey.now.fields in
    let below : c.loop-place.place < length order = omega
    (arith, c.loop-place-test.true, order-length c.args.survey.now.fields, ap (λ (fs : List Field). length fs) c.fields.ensures.fields) in
    elim c.if-has.branch [
      | then-has+in_ok-push w ↦
          ap (λ v. v.items) w.how-is ∙ w.in_ok-push.ensures.items
          ∙ ap (λ x. c.loop-place.how.items ++ x ∷ []) (w.how_of.ensures
          ∙ ap (λ (v : Value). how_of (option_copied c.args.donor) c.path_field-field.result v) w.value.ensures)
          ∙ told-more h t order c.loop-place.place c.path_field-field.result c.loop-place.how.items below c.path_field-field.ensures.field
          c.loop-place.invariant (sym c.has.ensures ∙ w.if-has.true)
      | else-has w ↦
          ap (λ v. v.items) w.how-is ∙ told-same h t order c.loop-place.place c.path_field-field.result c.loop-place.how.items below
          c.path_field-field.ensures.field c.loop-place.invariant (sym c.has.ensures ∙ w.if-has.false)
    ]

pub returns : goal.returns
returns c =
    told-all (λ f. how_of (option_copied c.args.donor) f (value_of c.args.row.now f)) (has_number c.args.changed) (path_order c.args.survey.now.fields)
    c.loop-place.place c.loop-place.how.items
    (omega (arith, c.loop-place-test.false, order-length c.args.survey.now.fields, ap (λ (fs : List Field). length fs) c.fields.ensures.fields))
    c.loop-place.invariant
