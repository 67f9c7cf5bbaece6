use Rattle.std.proofs.Common.{◌+◌, ◌≤◌, arith, length, take}
use Rattle.std.proofs.lemmas.List.Folds.{length-flat_map-take}
use Rattle.proof_grammar.specs.ProofLines.{leaf_lines}
use Rattle.cert_check.proofs.LineCounts.{lines_of}
use Rattle.cert_check.proofs.tree_check.lines_before.Goals as goal
use Rattle.cert_check.proofs.tree_check.lines_before.Goals.{After-index-leaves-place}

-- the lines up to the leaf are no more than those of all leaves
within : (c : After-index-leaves-place) → lines_of (take c.loop-place.place c.args.leaves.now) + length (leaf_lines c.index-leaves-place.result) ≤ lines_of
    c.args.leaves.now
within c = rw (← c.index-leaves-place.is) at (length-flat_map-take leaf_lines c.args.leaves.now c.loop-place.place c.index-leaves-place.result
    (omega (arith, c.loop-place-test.true, c.requires.count)))

pub leaf_line_count-lines-requires : goal.leaf_line_count-lines-requires
leaf_line_count-lines-requires c = omega (arith, within c, c.requires.few)

pub overflow_add-lines : goal.overflow_add-lines
overflow_add-lines c = omega (
  arith,
  within (goal.at.overflow_add-lines c).After-index-leaves-place,
  c.requires.few,
  c.loop-place.invariant,
  c.leaf_line_count-lines.ensures,
)
