use Rattle.std.proofs.Common.{◌==◌, ◌+◌, ◌<◌, ◌∙◌, List, ap, arith, length, sym, take}
use Rattle.bound_cert.specs.declared.cert.Leaf.{Leaf}
use Rattle.cert_check.specs.Places.{step_offset}
use Rattle.cert_check.proofs.LineCounts.{fault-within, lines_of, step-below}
use Rattle.cert_check.proofs.tree_check.tree_offset.Goals as goal
use Rattle.cert_check.proofs.tree_check.tree_offset.Goals.{After-lines_before}

-- what is named stands on a line of the leaves
within : (c : After-lines_before) → lines_of (take c.args.leaf c.args.leaves.now) + step_offset c.args.step < lines_of c.args.leaves.now
within c = fault-within c.args.leaves.now c.args.leaf c.args.step
    (λ none. absurd (cc (sym c.if-is_empty.false ∙ c.is_empty.ensures ∙ ap (λ (ls : List Leaf). length ls == 0) none))) c.requires.named

pub step_offset-requires : goal.step_offset-requires
step_offset-requires c = step-below c.args.leaves.now c.args.leaf _ c.args.step c.requires.few (within c)

pub overflow_add-result : goal.overflow_add-result
overflow_add-result c = omega (arith, within (goal.at.overflow_add-result c).After-lines_before, c.requires.few, c.lines_before.ensures, c.step_offset.ensures)

pub overflow_add-result-2 : goal.overflow_add-result-2
overflow_add-result-2 c = omega (
  arith,
  within (goal.at.overflow_add-result-2 c).After-lines_before,
  c.requires.few,
  c.lines_before.ensures,
  c.step_offset.ensures,
)

pub returns-clause-within : goal.returns-clause-within
returns-clause-within c = omega (arith, within (goal.at.returns-clause-within c).After-lines_before, c.lines_before.ensures, c.step_offset.ensures)
