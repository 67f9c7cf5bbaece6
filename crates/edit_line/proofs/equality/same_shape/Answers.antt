use Rattle.std.proofs.Common.{◌∙◌}
use Rattle.edit_line.specs.Equality.{same_shape}
use Rattle.edit_line.proofs.EqualityLaws.{counts-same}
use Rattle.edit_line.proofs.equality.same_shape.Goals as goal

pub returns : goal.returns
returns c = c.eq.ensures ∙ counts-same c.code_counts.result.now c.code_counts-2.result.now
    ∙ (λ i. same_shape (c.code_counts.ensures.domains i) (c.code_counts-2.ensures.domains i))
