use Rattle.std.proofs.Common.{ℕ, ◌+◌, List, subst, sym, true≢false, ◌∙◌}
use Rattle.edit_model.specs.declared.field.Field.{Field}
use Rattle.panel_files.proofs.FieldLaws.{set-none, set-of-all, set-with-last, set-without-it}
use Rattle.panel_files.specs.LastFields.{AreLastFields}
use Rattle.panel_files.specs.inner.LastBelow.{AreLastBelow}
use Rattle.panel_files.proofs.fields.last_set.Goals as goal
use Rattle.panel_files.proofs.fields.last_set.Goals.{then-is_last, else-is_last}

pub loop-number-init : goal.loop-number-init
loop-number-init c = set-none c.fields-field-items.result.now c.empty-set.result c.empty-set.ensures.none

pub loop-number-preserved : goal.loop-number-preserved
loop-number-preserved c =
    let fields = c.fields-field-items.result.now in
    let n = c.loop-number.number in
    let set = c.loop-number.set in
    let below = c.loop-number-test.true in
    let before = c.loop-number.invariant in
    elim c.if-is_last.branch [
      | then-is_last w ↦
          subst (λ (next : ℕ). AreLastBelow fields (n + 1) next) (sym w.set-is)
          (set-with-last fields n set c.field-item.result below c.field-item.is before w.with-set.result
          (c.is_last.ensures.0 w.if-is_last.true) w.with-set.ensures.has w.with-set.ensures.others)
      | else-is_last w ↦
          subst (λ (next : ℕ). AreLastBelow fields (n + 1) next) (sym w.set-is)
          (set-without-it fields n set c.field-item.result below c.field-item.is before
          (λ is. true≢false (sym (c.is_last.ensures.1 is) ∙ w.if-is_last.false)))
    ]

pub returns : goal.returns
returns c =
    subst (λ (fields : List Field). AreLastFields fields c.loop-number.set) c.fields-field-items.ensures.fields
    (set-of-all c.fields-field-items.result.now c.loop-number.number c.loop-number.set c.loop-number-test.false c.loop-number.invariant)
