use Rattle.bound_cert.specs.inner.Tasks.{case}
use Rattle.bound_cert.proofs.FaultLoop.{GoesOn}
use Rattle.bound_cert.proofs.check.check_leaves.Given as goal

abbrev pub invariant-loop-place : goal.invariant-loop-place
invariant-loop-place l = GoesOn (case l.task) l.leaves l.place
