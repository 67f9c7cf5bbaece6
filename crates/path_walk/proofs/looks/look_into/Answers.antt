use Rattle.std.proofs.Common.{subst}
use Rattle.path_walk.specs.Bases.{IsBasisBefore}
use Rattle.path_walk.specs.Problems.{case_in}
use Rattle.path_walk.specs.declared.looks.Basis.{Basis}
use Rattle.path_walk.proofs.CodePathLaws.{codes-kept}
use Rattle.path_walk.proofs.looks.look_into.Goals as goal

pub returns-in-Boxes-clause-kept : goal.returns-in-Boxes-clause-kept
returns-in-Boxes-clause-kept g c =
    let basis = subst (λ (k : Basis). IsBasisBefore (case_in c.args.problem.now) c.args.path.now k) c.in-Boxes.is c.requires.basis in
    codes-kept (case_in c.args.problem.now) c.args.path.now basis.0 c.requires.fit (g.S.Systems.keeps c.args.source.now) c.requires.before
    c.look_at_codes.result
