use Rattle.std.proofs.Common.{◌≡◌, ◌≤◌, ℕ, true}
use Rattle.edit_line.specs.EditSets.{EditsParts}
use Rattle.path_walk.specs.Problems.{case_in}
use Rattle.prefix_walk.proofs.PrefixTurns.{IsWalking}
use Rattle.prefix_walk.proofs.walk.take_paths.Given as goal

abbrev pub invariant-loop-count : goal.invariant-loop-count
invariant-loop-count g l =
    IsWalking (case_in l.problem) l.walk.path.now l.walk.budget l.walk.spent (g.S.Systems.keeps l.source) l.count l.work l.before l.levels.items
    × ((e : EditsParts) → g.S.Systems.serves l.initial.source e → g.S.Systems.serves l.source e)
    × ((f : ℕ) → g.S.Systems.keeps l.initial.source f ≡ true → g.S.Systems.keeps l.source f ≡ true)
    × (l.initial.steps ≤ l.steps)
