use Rattle.std.proofs.Common.{drop, length, ◌≡◌}
use Rattle.std.specs.List.{fold}
use Rattle.edit_paths.specs.Histories.{with_proof}
use Rattle.edit_paths.specs.Levels.{history_of}
use Rattle.edit_paths.proofs.writing.+prove.Given as goal

abbrev pub decreases-prove : goal.decreases-prove
decreases-prove l = length l.levels.now

abbrev pub invariant-loop-part : goal.invariant-loop-part
invariant-loop-part l =
    (fold (λ done i. with_proof (history_of l.before) i done) l.done (drop l.part-index l.part-items)
    ≡ fold (λ done i. with_proof (history_of l.before) i done) l.initial.done l.part-items)
    × (l.step ≡ l.initial.step)
