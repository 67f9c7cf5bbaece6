use Rattle.edit_line.proofs.CodeCounts.{size_of-is, size_of-past}
use Rattle.edit_line.proofs.shape.Shape.size_of.Goals as goal

pub returns-then-place-counts-clause-size : goal.returns-then-place-counts-clause-size
returns-then-place-counts-clause-size c = size_of-is _ c.code_counts-counts.result.now c.args.field c.code_counts-counts.ensures.domains

pub returns-else-place-counts-clause-size : goal.returns-else-place-counts-clause-size
returns-else-place-counts-clause-size c = size_of-past _ c.code_counts-counts.result.now c.args.field c.code_counts-counts.ensures.domains
    c.if-place-counts.false
