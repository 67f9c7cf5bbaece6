use Rattle.std.proofs.Common.{◌≡◌, ◌==◌, if◌then◌else◌, map, pos, take}
use Rattle.deduce_fill.proofs.test_line.side_line.Given as goal

abbrev pub invariant-loop-other : goal.invariant-loop-other
invariant-loop-other l = l.factors.items ≡ map (λ g. if g == l.field then l.factor else pos 0) (take l.other-index l.other-items)
