use Rattle.std.proofs.Common.{◌≡◌, map, take}
use Rattle.redundancy.specs.Verdicts.{keeps_line, usable_from}
use Rattle.pruned_rules.proofs.pruned.kept_of.Given as goal

abbrev pub invariant-loop-place : goal.invariant-loop-place
invariant-loop-place l = l.kept.items ≡ usable_from 0 (take l.place l.lines) (take l.place (map keeps_line l.verdicts))
