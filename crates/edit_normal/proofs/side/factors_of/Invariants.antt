use Rattle.std.proofs.Common.{◌≡◌, All, map, take}
use Rattle.fraction128.specs.Range.{InRange}
use Rattle.edit_normal.specs.NormalForm.{term_factor}
use Rattle.edit_normal.specs.inner.Sides.{signed}
use Rattle.edit_normal.proofs.side.factors_of.Given as goal

abbrev pub invariant-loop-field : goal.invariant-loop-field
invariant-loop-field l = record {
  are : l.factors.items ≡ map (λ f. signed l.negative (term_factor l.linear.terms f)) (take l.field-index l.fields);
  in_range : All InRange l.factors.items;
}
