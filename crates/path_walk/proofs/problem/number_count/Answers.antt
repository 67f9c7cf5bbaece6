use Rattle.std.proofs.Common.{arith}
use Rattle.edit_paths.proofs.LetterLaws.{count-kinds}
use Rattle.path_walk.specs.Problems.{case_in}
use Rattle.path_walk.proofs.ProblemLaws.{numbers-counted}
use Rattle.path_walk.proofs.problem.number_count.Goals as goal

pub returns-clause-count : goal.returns-clause-count
returns-clause-count c = numbers-counted (case_in c.args.problem.now) c.numbers.result.now c.numbers.ensures

pub returns-clause-fit : goal.returns-clause-fit
returns-clause-fit c =
    omega (arith, numbers-counted (case_in c.args.problem.now) c.numbers.result.now c.numbers.ensures, count-kinds (case_in c.args.problem.now))
