use Rattle.std.proofs.Common.{◌≡◌, drop}
use Rattle.edit_paths.specs.States.{first_failing}
use Rattle.path_walk.specs.Problems.{case_in}
use Rattle.path_walk.proofs.number_paths.first_failing.Given as goal

abbrev pub invariant-loop-place : goal.invariant-loop-place
invariant-loop-place l = first_failing (case_in l.problem) l.path l.place (drop l.place l.lines) ≡ first_failing (case_in l.problem) l.path 0 l.lines
