use Rattle.std.proofs.Common.{ℕ, List, [], ◌∷◌, ◌++◌, if◌then◌else◌, get_or, length, sym, ap, ◌∙◌, arith}
use Rattle.std.specs.List.{filter}
use Rattle.std.proofs.lemmas.List.{take_all}
use Rattle.edit_model.specs.Corrections.{path_order}
use Rattle.edit_model.specs.Rows.{is_bad, value_of}
use Rattle.edit_model.proofs.OrderLaws.{order-length}
use Rattle.edit_model.proofs.RowLaws.{row-length}
use Rattle.deduce_fill.proofs.FieldLoops.{filter-more}
use Rattle.deduce_fill.proofs.bad_fields.bad_fields.Goals as goal

pub push_if_bad-requires : goal.push_if_bad-requires
push_if_bad-requires c = omega (arith, c.path_field.ensures.within, row-length c.args.survey.now.fields c.args.row.now c.requires)

pub loop-place-preserved : goal.loop-place-preserved
loop-place-preserved c =
    c.in_ok-push_if_bad.ensures
    ∙ ap (λ f. c.loop-place.fields.items ++ (if is_bad (value_of c.args.row.now f) then f ∷ [] else [])) c.path_field.ensures.field
    ∙ ap (λ (fs : List ℕ). fs ++ (if is_bad (value_of c.args.row.now (get_or (path_order c.args.survey.now.fields) c.loop-place.place 0)) then get_or
    (path_order c.args.survey.now.fields) c.loop-place.place 0 ∷ [] else [])) c.loop-place.invariant
    ∙ sym (filter-more (λ f. is_bad (value_of c.args.row.now f)) (path_order c.args.survey.now.fields) c.loop-place.place
    (omega (arith, c.loop-place-test.true, ap length c.fields.ensures.fields, order-length c.args.survey.now.fields)))

pub returns : goal.returns
returns c =
    c.loop-place.invariant
    ∙ ap (filter (λ f. is_bad (value_of c.args.row.now f)))
    (take_all c.loop-place.place (path_order c.args.survey.now.fields)
    (omega (arith, c.loop-place-test.false, ap length c.fields.ensures.fields, order-length c.args.survey.now.fields)))
