use Rattle.std.proofs.Common.{◌≡◌, ◌<◌, ◌-◌, ◌++◌, drop, length, not, take}
use Rattle.std.specs.List.{filter}
use Rattle.std.specs.Vec.{vec_capacity, vec_len}
use Rattle.edit_line.specs.inner.Keys.{keys_of}
use Rattle.edit_line.specs.Subsumption.{subsumes}
use Rattle.edit_line.specs.declared.derived.Derived.{Derived}
use Rattle.edit_line.proofs.kept.remove_subsumed.Given as goal

abbrev pub invariant-loop-place : goal.invariant-loop-place
invariant-loop-place l =
    (take l.place l.lines.items ++ filter (λ (b : Derived). not (subsumes l.line b.line)) (drop l.place l.lines.items)
    ≡ filter (λ (b : Derived). not (subsumes l.line b.line)) l.initial.lines.items)
    × (l.keys.items ≡ keys_of l.lines.items)
    × (vec_len l.initial.lines < vec_capacity l.initial.lines → vec_len l.lines < vec_capacity l.lines)
    × (vec_len l.initial.keys < vec_capacity l.initial.keys → vec_len l.keys < vec_capacity l.keys)

abbrev pub decreases-loop-place : goal.decreases-loop-place
decreases-loop-place l = length l.lines.items - l.place
