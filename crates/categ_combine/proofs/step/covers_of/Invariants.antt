use Rattle.edit_line.specs.Domains.{domains}
use Rattle.categ_combine.proofs.CoverLoops.{IsSoFar}
use Rattle.categ_combine.proofs.step.covers_of.Given as goal

abbrev pub invariant-loop-code : goal.invariant-loop-code
invariant-loop-code l = IsSoFar (domains l.spot.shape) l.spot.place l.spot.whole l.boxes l.size l.most l.code l.covers.items l.pairs
