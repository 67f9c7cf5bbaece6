use Rattle.std.proofs.Common.{◌≡◌, ◌++◌, drop}
use Rattle.linear_elim.specs.Combinations.{is_upper}
use Rattle.linear_elim.specs.inner.Uppers.{places_from}
use Rattle.linear_elim.proofs.elimination.upper_places.Given as goal

abbrev pub invariant-loop-i : goal.invariant-loop-i
invariant-loop-i l =
    l.uppers.items ++ places_from (is_upper l.given.column.field) l.i (drop l.i l.given.lines.now)
    ≡ places_from (is_upper l.given.column.field) 0 l.given.lines.now
