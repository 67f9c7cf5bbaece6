use Rattle.std.proofs.Common.{◌≡◌, ◌<◌, ℕ, true, false, IfNone, IfSome}
use Rattle.edit_model.specs.FieldSets.{has_number}
use Rattle.linear_elim.proofs.fields.last_field.Given as goal

abbrev pub invariant-loop-field : goal.invariant-loop-field
invariant-loop-field l =
    IfSome l.last (λ f. (has_number l.fields f ≡ true) × ((g : ℕ) → f < g → g < l.field → has_number l.fields g ≡ false))
    × IfNone l.last ((g : ℕ) → g < l.field → has_number l.fields g ≡ false)
    × IfSome l.last (λ f. f < 64)
