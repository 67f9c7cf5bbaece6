use Rattle.std.proofs.Common.{◌∙◌, ap, length, List, ℤ, negsuc}
use Rattle.edit_line.specs.Lines.{parts_of}
use Rattle.edit_line.specs.declared.relation.Relation.TheVariants.{AtLeast}
use Rattle.edit_line.specs.Shapes.{Domain, number_fields}
use Rattle.edit_line.proofs.NegationLines.{zeros-are}
use Rattle.edit_line.proofs.negation.never_line.Goals as goal

pub returns : goal.returns
returns c =
    let shape = c.args.line.now.shape in
    c.over.ensures
    ∙ ap (λ (s : List Domain). parts_of s c.args.sets.items c.in_ok-factors.factors.items (negsuc 0) AtLeast) c.shape.ensures
    ∙ ap (λ (fs : List ℤ). parts_of shape c.args.sets.items fs (negsuc 0) AtLeast)
    (c.in_ok-factors.ensures.items_if_clones_equal (λ y e. e) ∙ zeros-are (number_fields shape) (length c.factors.result.now)
    (ap (λ (fs : List ℤ). length fs) c.factors.ensures.factors ∙ c.factors.ensures.count))
