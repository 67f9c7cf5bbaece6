use Rattle.std.proofs.Common.{◌≡◌, ◌+◌, ◌≤◌, drop, filter, length}
use Rattle.edit_line.specs.declared.derived.Derived.{Derived}
use Rattle.linear_elim.specs.Steps.{is_opposite}
use Rattle.linear_elim.proofs.pair_count.row_pairs.Given as goal

abbrev pub invariant-loop-t : goal.invariant-loop-t
invariant-loop-t l =
    (l.count + length (filter (λ (t : Derived). is_opposite l.given.column.field l.s.line t.line) (drop l.t-index l.given.lines.now))
    ≡ length (filter (λ (t : Derived). is_opposite l.given.column.field l.s.line t.line) l.given.lines.now))
    × (l.count ≤ l.t-index)
