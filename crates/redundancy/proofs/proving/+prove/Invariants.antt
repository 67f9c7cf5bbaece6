use Rattle.std.proofs.Common.{drop, length, ◌≡◌}
use Rattle.std.specs.List.{fold}
use Rattle.edit_paths.specs.Histories.{with_proof}
use Rattle.redundancy.proofs.proving.+prove.Given as goal

abbrev pub decreases-prove : goal.decreases-prove
decreases-prove l = length l.lists.now

abbrev pub invariant-loop-part : goal.invariant-loop-part
invariant-loop-part l = fold (λ done i. with_proof l.before i done) l.done.items (drop l.part-index l.part-items)
    ≡ fold (λ done i. with_proof l.before i done) l.initial.done.items l.part-items
