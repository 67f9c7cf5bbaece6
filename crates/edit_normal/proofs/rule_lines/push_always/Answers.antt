use Rattle.std.proofs.Common.{List, ℕ, subst, sym, ◌∙◌}
use Rattle.edit_line.specs.Shapes.{whole_sets}
use Rattle.edit_line.specs.inner.SetBounds.{AreWithin}
use Rattle.edit_line.proofs.SetLaws.{AreWithin-wholes}
use Rattle.edit_normal.proofs.rule_lines.push_always.Goals as goal

pub push_conclusion-requires-clause-within : goal.push_conclusion-requires-clause-within
push_conclusion-requires-clause-within c =
    subst (λ (ss : List ℕ). AreWithin ss (whole_sets c.args.fields.now)) (sym (c.in_ok-sets-in-Codes.ensures.items ∙ c.wholes.ensures))
    (AreWithin-wholes (whole_sets c.args.fields.now))
