use Rattle.std.proofs.Common.{◌≡◌, drop, map}
use Rattle.case_files.specs.Comparison.{are_same}
use Rattle.case_files.proofs.difference.is_same.Given as goal

abbrev pub invariant-loop-i : goal.invariant-loop-i
invariant-loop-i l =
    are_same (map (λ line. line.now) (drop l.i l.expected)) (map (λ line. line.items) (drop l.i l.came))
    ≡ are_same (map (λ line. line.now) l.expected) (map (λ line. line.items) l.came)
