use Rattle.std.proofs.Common.{ℕ, ◌+◌, ◌<◌, map}
use Rattle.std.specs.Prelude.{slice_index}
use Rattle.edit_model.specs.declared.rule.Term.{Term}
use Rattle.edit_model.proofs.check.linear.are_rising.Given as goal

abbrev pub invariant-loop-i : goal.invariant-loop-i
invariant-loop-i l =
    (k : ℕ) → k + 1 < l.i → slice_index (map (λ (t : Term). t.field) l.terms) k < slice_index (map (λ (t : Term). t.field) l.terms) (k + 1)
