use Rattle.std.proofs.Common.{◌*◌, arith}
use Rattle.std.proofs.lemmas.Nat.{le-div}
use Rattle.donor_measure.proofs.distance.whole_distance.Goals as goal

pub returns-then-apart-from-clause-distance : goal.returns-then-apart-from-clause-distance
returns-then-apart-from-clause-distance c = let all = le-div 1000 (1000 * c.args.apart) c.args.scale (omega arith)
    (omega (arith, c.from.ensures, c.if-apart-from.true)) in omega (arith, all)
