use Rattle.std.proofs.Common.{Bool, List, ℤ, subst, sym}
use Rattle.path_walk.specs.Problems.{case_in}
use Rattle.path_walk.specs.inner.Tries.{IsAside}
use Rattle.path_walk.proofs.TriedLaws.{aside-tried}
use Rattle.path_walk.proofs.number_paths.tried_line.Goals as goal

pub returns-then-was_tried : goal.returns-then-was_tried
returns-then-was_tried c = λ next.
    sym (aside-tried (case_in c.args.problem.now) c.args.path.now c.args.place c.args.line.now c.requires.fit c.requires.over c.requires.passed aside next)
  where
    aside : IsAside c.args.path.now c.args.line.now.factors
    aside =
        subst (λ (p : List Bool). IsAside p c.args.line.now.factors) c.letters.ensures
        (subst (λ (factors : List ℤ). IsAside c.letters.result.now factors) c.factors.ensures.factors (c.was_tried.ensures c.if-was_tried.true))
