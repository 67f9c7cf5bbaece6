use Rattle.std.proofs.Common.{◌≡◌, ◌≤◌, ◌++◌, true, ℕ, List, drop, option_copied, take}
use Rattle.std.specs.Arc.{arc_value}
use Rattle.edit_model.specs.FieldSets.{has_number}
use Rattle.edit_model.specs.declared.value.Value.{Value}
use Rattle.edit_line.specs.EditSets.{EditsParts}
use Rattle.edit_line.specs.Shapes.{has_field}
use Rattle.back_subst.specs.Given.{target_of}
use Rattle.back_subst.specs.inner.Systems.{start_lines}
use Rattle.back_subst.specs.inner.UnderWay.{AreComputedBy, IsUnderWay}
use Rattle.back_subst.proofs.giving.give_numbers.Given as goal

abbrev pub invariant-loop-field : goal.invariant-loop-field
invariant-loop-field g l =
    ((e : EditsParts) → g.S.Systems.serves l.initial.source e → g.S.Systems.serves l.source e)
    × ((f : ℕ) → g.S.Systems.keeps l.initial.source f ≡ true → g.S.Systems.keeps l.source f ≡ true)
    × ((f : ℕ) → has_number l.left f ≡ has_field (drop l.field-index l.order) f) × ((row : List Value) (given : List ℕ)
    → IsUnderWay l.task.survey.now (start_lines (arc_value l.task.edits.now)) (target_of (option_copied l.task.donor)) row given l.order l.initial.new
    → IsUnderWay l.task.survey.now (start_lines (arc_value l.task.edits.now)) (target_of (option_copied l.task.donor)) row
    (given ++ take l.field-index l.order) (drop l.field-index l.order) l.new)
    × AreComputedBy (start_lines (arc_value l.task.edits.now)) (target_of (option_copied l.task.donor)) l.new (take l.field-index l.order)
    (drop l.field-index l.order)
    × (l.initial.steps ≤ l.steps)
