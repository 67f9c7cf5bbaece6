use Rattle.std.proofs.Common.{◌≡◌, ℕ, ◌<◌, true}
use Rattle.edit_model.specs.FieldSets.{has_number}
use Rattle.elimination_bench.proofs.elimination.first_fields.Given as goal

abbrev pub invariant-loop-field : goal.invariant-loop-field
invariant-loop-field l = ((f : ℕ) → has_number l.set f ≡ true → f < l.field) × ((f : ℕ) → f < l.field → has_number l.set f ≡ true)
