use Rattle.std.proofs.Common.{◌≡◌, ◌∙◌, ◌<◌, ◌+◌, false, true, ℕ, List, ap, arith, length, subst, sym}
use Rattle.edit_model.specs.FieldSets.{has_number}
use Rattle.edit_model.specs.Rows.{IsRow, value_of}
use Rattle.edit_model.specs.declared.field.Field.{Field}
use Rattle.edit_model.specs.declared.value.Value.{Value}
use Rattle.edit_model.specs.declared.value.Value.TheVariants.{Bad}
use Rattle.back_subst.proofs.BlankLaws.{blank-all, blank-more, blank-same, kept-more}
use Rattle.back_subst.proofs.blank.blank_fields.Goals as goal
use Rattle.back_subst.proofs.blank.blank_fields.Goals.{then-has, else-has}

abbrev IsBlankUpTo : List Field → ℕ → List Value → ℕ → List Value → Type 0
IsBlankUpTo fields changed row i new =
    IsRow fields new × ((f : ℕ) → f < i → has_number changed f ≡ true → value_of new f ≡ Bad)
    × ((f : ℕ) → has_number changed f ≡ false → value_of new f ≡ value_of row f)

pub loop-field-preserved : goal.loop-field-preserved
loop-field-preserved c =
    let fields = c.args.survey.now.fields in
    let i = c.loop-field.field in
    let below : i < length fields = subst (λ (fs : List Field). i < length fs) c.fields.ensures.fields c.loop-field-test.true in
    elim c.if-has.branch [
      | then-has w ↦
          let there = sym c.has.ensures ∙ w.if-has.true in
          subst (λ r. IsBlankUpTo fields c.args.changed c.args.row.now (i + 1) r) (sym (w.new-is ∙ w.set.ensures.set)) (
            subst (λ (r : List Value). IsRow fields r) w.set.ensures.set w.set.ensures.row,
            blank-more fields c.args.changed i c.args.row.now c.loop-field.new c.loop-field.invariant.0 below c.loop-field.invariant.1,
            kept-more fields c.args.changed i c.args.row.now c.loop-field.new c.loop-field.invariant.0 below c.loop-field.invariant.1 there
                c.loop-field.invariant.2,
          )
      | else-has w ↦
          subst (λ r. IsBlankUpTo fields c.args.changed c.args.row.now (i + 1) r) (sym w.new-is) (
            c.loop-field.invariant.0,
            blank-same fields c.args.changed i c.args.row.now c.loop-field.new c.loop-field.invariant.0 below c.loop-field.invariant.1
                (sym c.has.ensures ∙ w.if-has.false),
            c.loop-field.invariant.2,
          )
    ]

pub returns-clause-blank : goal.returns-clause-blank
returns-clause-blank c =
    blank-all c.args.survey.now.fields c.args.changed c.loop-field.field c.loop-field.new c.loop-field.invariant.0
    (omega (arith, c.loop-field-test.false, ap (λ (fs : List Field). length fs) c.fields.ensures.fields)) c.loop-field.invariant.1
