use Rattle.std.proofs.Common.{◌≡◌, ◌≤◌, ℕ, true}
use Rattle.edit_line.specs.EditSets.{EditsParts}
use Rattle.path_walk.specs.Problems.{case_in}
use Rattle.localise_tree.specs.inner.Nodes.{AreKept, paths_of}
use Rattle.localise_tree.proofs.SearchLaws.{IsRunning}
use Rattle.localise_tree.proofs.SearchLoop.{left}
use Rattle.localise_tree.proofs.best_first.search.Given as goal

abbrev pub invariant-loop-node : goal.invariant-loop-node
invariant-loop-node g l =
    IsRunning (case_in l.problem) l.budget l.spent l.taken.paths.items l.ends.items
    × AreKept (g.S.Systems.keeps l.source) (case_in l.problem) l.ends.items
    × ((e : EditsParts) → g.S.Systems.serves l.initial.source e → g.S.Systems.serves l.source e)
    × ((f : ℕ) → g.S.Systems.keeps l.initial.source f ≡ true → g.S.Systems.keeps l.source f ≡ true)
    × (l.initial.steps ≤ l.steps)

abbrev pub decreases-loop-node : goal.decreases-loop-node
decreases-loop-node g l = left (case_in l.problem) (paths_of l.ends.items)
