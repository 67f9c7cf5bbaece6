use Rattle.std.proofs.Common.{List, ℕ, subst, sym}
use Rattle.edit_line.specs.Shapes.{whole_sets}
use Rattle.edit_line.specs.inner.SetBounds.{AreWithin}
use Rattle.edit_line.proofs.SetLaws.{AreWithin-wholes}
use Rattle.edit_normal.proofs.rule_lines.push_compare_always.Goals as goal

pub push_compare-requires : goal.push_compare-requires
push_compare-requires c =
    subst (λ (ss : List ℕ). AreWithin ss (whole_sets c.args.fields.now)) (sym c.wholes-wholes.ensures) (AreWithin-wholes (whole_sets c.args.fields.now))

pub push_side-requires-clause-within : goal.push_side-requires-clause-within
push_side-requires-clause-within c =
    subst (λ (ss : List ℕ). AreWithin ss (whole_sets c.args.fields.now)) (sym c.wholes-wholes.ensures) (AreWithin-wholes (whole_sets c.args.fields.now))
