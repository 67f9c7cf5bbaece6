use Rattle.std.proofs.Common.{Bool, List, [], ◌∷◌, ◌++◌, get_or, length, map, sym, ap, ◌∙◌, arith}
use Rattle.std.proofs.lemmas.List.{take_all}
use Rattle.edit_model.specs.Corrections.{path_order}
use Rattle.edit_model.specs.Rows.{is_bad, value_of}
use Rattle.edit_model.specs.declared.value.Value.{Value}
use Rattle.edit_model.proofs.OrderLaws.{order-length}
use Rattle.edit_model.proofs.RowLaws.{row-length}
use Rattle.deduce_fill.proofs.FieldLoops.{map-more}
use Rattle.deduce_fill.proofs.bad_fields.own_path.Goals as goal

pub value-requires : goal.value-requires
value-requires c = omega (arith, c.path_field.ensures.within, row-length c.args.survey.now.fields c.args.row.now c.requires)

pub loop-place-preserved : goal.loop-place-preserved
loop-place-preserved c =
    c.in_ok-push.ensures.items
    ∙ ap (λ (b : Bool). c.loop-place.path.items ++ b ∷ [])
    (c.is_bad.ensures ∙ ap (λ (v : Value). is_bad v) (c.value.ensures ∙ ap (λ f. value_of c.args.row.now f) c.path_field.ensures.field))
    ∙ ap (λ (bs : List Bool). bs ++ is_bad (value_of c.args.row.now (get_or (path_order c.args.survey.now.fields) c.loop-place.place 0)) ∷ [])
    c.loop-place.invariant
    ∙ sym (map-more (λ f. is_bad (value_of c.args.row.now f)) (path_order c.args.survey.now.fields) c.loop-place.place
    (omega (arith, c.loop-place-test.true, ap length c.fields.ensures.fields, order-length c.args.survey.now.fields)))

pub returns : goal.returns
returns c =
    c.loop-place.invariant
    ∙ ap (map (λ f. is_bad (value_of c.args.row.now f)))
    (take_all c.loop-place.place (path_order c.args.survey.now.fields)
    (omega (arith, c.loop-place-test.false, ap length c.fields.ensures.fields, order-length c.args.survey.now.fields)))
