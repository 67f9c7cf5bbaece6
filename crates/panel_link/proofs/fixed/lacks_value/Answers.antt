use Rattle.std.proofs.Common.{◌<◌, ◌≤◌, ◌&&◌, List, ap, arith, length, sym, ◌∙◌}
use Rattle.edit_model.specs.Corrections.{path_order}
use Rattle.edit_model.specs.FieldSets.{has_number}
use Rattle.edit_model.specs.Rows.{is_bad, value_of}
use Rattle.edit_model.specs.declared.field.Field.{Field}
use Rattle.edit_model.proofs.OrderLaws.{order-length}
use Rattle.edit_model.proofs.RowLaws.{row-length}
use Rattle.panel_link.proofs.FixedLoops.{any-here, any-later, any-past}
use Rattle.panel_link.proofs.fixed.lacks_value.Goals as goal

pub lacks_at-requires-clause-few : goal.lacks_at-requires-clause-few
lacks_at-requires-clause-few c = omega (arith, c.path_field.ensures.within, c.fields-fields.ensures.well_formed.few_fields)

pub lacks_at-requires-clause-within : goal.lacks_at-requires-clause-within
lacks_at-requires-clause-within c = omega (arith, c.path_field.ensures.within, row-length c.args.survey.now.fields c.args.row.now c.requires)

pub returns-then-lacks_at : goal.returns-then-lacks_at
returns-then-lacks_at c =
    let order = path_order c.args.survey.now.fields in
    let below : c.loop-place.place < length order = omega (
      arith,
      c.loop-place-test.true,
      ap (λ (fs : List Field). length fs)
          c.fields.ensures.fields,
      order-length c.args.survey.now.fields,
    ) in
    sym (c.loop-place.invariant
    ∙ any-here (λ f. has_number c.args.fixed f && is_bad (value_of c.args.row.now f)) order c.loop-place.place c.path_field.result below
    c.path_field.ensures.field
    (sym c.lacks_at.ensures ∙ c.if-lacks_at.true))

pub loop-place-preserved : goal.loop-place-preserved
loop-place-preserved c =
    let order = path_order c.args.survey.now.fields in
    let below : c.loop-place.place < length order = omega (
      arith,
      c.loop-place-test.true,
      ap (λ (fs : List Field). length fs)
          c.fields.ensures.fields,
      order-length c.args.survey.now.fields,
    ) in
    c.loop-place.invariant
    ∙ any-later (λ f. has_number c.args.fixed f && is_bad (value_of c.args.row.now f)) order c.loop-place.place c.path_field.result below
    c.path_field.ensures.field
    (sym c.lacks_at.ensures ∙ c.if-lacks_at.false)

pub returns : goal.returns
returns c =
    let order = path_order c.args.survey.now.fields in
    let past : length order ≤ c.loop-place.place = omega (
      arith,
      c.loop-place-test.false,
      ap (λ (fs : List Field). length fs)
          c.fields.ensures.fields,
      order-length c.args.survey.now.fields,
    ) in
    sym (c.loop-place.invariant ∙ any-past (λ f. has_number c.args.fixed f && is_bad (value_of c.args.row.now f)) order c.loop-place.place past)
