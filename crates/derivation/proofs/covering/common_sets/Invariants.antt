use Rattle.std.proofs.Common.{◌≡◌, drop, map}
use Rattle.edit_line.specs.inner.SetBounds.{AreWithin}
use Rattle.edit_line.specs.Shapes.{shape_of, whole_sets}
use Rattle.derivation.specs.inner.Meanings.{meaning}
use Rattle.derivation.specs.ValidSteps.{common_from}
use Rattle.derivation.proofs.covering.common_sets.Given as goal

abbrev pub invariant-loop-code : goal.invariant-loop-code
invariant-loop-code l =
    (common_from (map meaning l.known) l.place l.code (drop l.code l.parts) l.common.items
    ≡ common_from (map meaning l.known) l.place 0 l.parts (whole_sets (shape_of l.basis.survey.now.fields)))
    × AreWithin l.common.items (whole_sets (shape_of l.basis.survey.now.fields))
