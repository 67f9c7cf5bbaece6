use Rattle.std.proofs.Common.{◌≡◌, IfOk, ℕ, List, ap, arith, length, subst, ◌∙◌}
use Rattle.edit_model.specs.declared.field.Field.{Field}
use Rattle.panel_files.proofs.JoinedLaws.{filled-joined, filled-length}
use Rattle.panel_files.proofs.PartLaws.{file-lengths}
use Rattle.panel_files.specs.Joined.{both_columns}
use Rattle.panel_files.specs.LastFields.{own_fields}
use Rattle.panel_files.proofs.rows.both_columns.Goals as goal

pub overflow_sub-fields : goal.overflow_sub-fields
overflow_sub-fields c =
    let fields = c.fields-fields.result.now in
    let long : length c.args.columns.now ≡ length (own_fields fields c.args.set) = rw c.fields-fields.ensures.fields c.requires in
    omega (arith, file-lengths fields c.args.set, long)

pub join-requires-clause-last : goal.join-requires-clause-last
join-requires-clause-last c =
    filled-length c.fields-fields.result.now c.args.set c.args.columns.now c.args.past (rw c.fields-fields.ensures.fields c.requires) c.deref.result.now
    (c.deref.ensures.value ∙ c.in_ok-pasts.ensures.items_if_clones_equal (λ y e. e))

pub returns : goal.returns
returns c =
    subst (λ (whole : List ℕ). IfOk c.join.result (λ both. both.items ≡ whole))
    (filled-joined c.fields-fields.result.now c.args.set c.args.columns.now c.args.past (rw c.fields-fields.ensures.fields c.requires) c.deref.result.now
    (c.deref.ensures.value ∙ c.in_ok-pasts.ensures.items_if_clones_equal (λ y e. e))
    ∙ ap (λ (fields : List Field). both_columns fields c.args.set c.args.columns.now c.args.past) c.fields-fields.ensures.fields)
    c.join.ensures
