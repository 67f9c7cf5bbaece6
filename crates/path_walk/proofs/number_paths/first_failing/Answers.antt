use Rattle.path_walk.specs.Problems.{case_in}
use Rattle.path_walk.proofs.NumberPathLaws.{line-over}
use Rattle.path_walk.proofs.TriedLaws.{lines-passed}
use Rattle.path_walk.proofs.number_paths.first_failing.Goals as goal

pub tried_line-requires-clause-over : goal.tried_line-requires-clause-over
tried_line-requires-clause-over c =
    line-over (case_in c.args.problem.now) c.requires.problem.case c.args.path.now c.requires.held c.args.lines.now c.requires.made c.loop-place.place
    c.index-lines-place.result c.loop-place-test.true c.index-lines-place.is

pub tried_line-requires-clause-passed : goal.tried_line-requires-clause-passed
tried_line-requires-clause-passed c =
    lines-passed (case_in c.args.problem.now) c.args.path.now c.args.lines.now c.loop-place.place c.index-lines-place.result c.requires.fit
    c.requires.reached c.requires.made c.loop-place-test.true c.index-lines-place.is
