use Rattle.redundancy.proofs.BaseLaws.{IsTried}
use Rattle.redundancy.proofs.pruning.prune.Given as goal

abbrev pub invariant-loop-place : goal.invariant-loop-place
invariant-loop-place l = IsTried l.survey l.lines l.budget l.place l.left.items l.verdicts.items

abbrev pub decreases-loop-place : goal.decreases-loop-place
decreases-loop-place l = l.place
