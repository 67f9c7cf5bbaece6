use Rattle.std.proofs.Common.{sym, subst, take}
use Rattle.edit_paths.proofs.ClosedPaths.{closed-path}
use Rattle.edit_paths.proofs.OpenPaths.{open-point}
use Rattle.prefix_walk.specs.PathWalks.{prefixes}
use Rattle.prefix_walk.proofs.ClosingProofs.{Refuted, refuted-on}
use Rattle.prefix_walk.proofs.Prefixes.{agrees-on, path-in, take-in}
use Rattle.prefix_walk.proofs.WalkEnds.{closed-at, open-at, open-within}
use Rattle.prefix_walk.proofs.laws.walk_laws.Goals as goal

pub returns-clause-closed : goal.returns-clause-closed
returns-clause-closed c d path budget spent work steps is ended p meets agrees =
    let end = closed-at d budget spent work steps (prefixes path) ended in
    closed-path d is end.path end.closed p meets (agrees-on d path end.path end.there p agrees)

pub returns-clause-open : goal.returns-clause-open
returns-clause-open c d path budget spent work is complete ended =
    open-point d is path complete ((open-at d budget spent work (prefixes path) ended).each path (path-in path)).0

pub returns-clause-within : goal.returns-clause-within
returns-clause-within c d path budget spent work ended =
    let all = open-at d budget spent work (prefixes path) ended in
    ((all.each path (path-in path)).0, open-within d budget spent work path ended, λ k fits. (all.each (take k path) (take-in path k)).1)

pub returns-clause-steps : goal.returns-clause-steps
returns-clause-steps c d path budget spent work steps is complete none ended given usable are =
    let end = closed-at d budget spent work steps (prefixes path) ended in
    subst (Refuted d is given usable are path) (sym end.by_steps) (refuted-on d is given usable are path end.path none end.there end.closed)
