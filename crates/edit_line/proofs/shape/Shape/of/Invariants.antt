use Rattle.std.proofs.Common.{◌≡◌, ◌≤◌, All, length, map, take}
use Rattle.edit_line.specs.inner.CodeCounts.{code_count}
use Rattle.edit_model.specs.declared.field.Field.{Field}
use Rattle.edit_line.proofs.shape.Shape.of.Given as goal

abbrev pub invariant-loop-i : goal.invariant-loop-i
invariant-loop-i l = record {
  counts : take l.i l.codes ≡ map (λ (f : Field). code_count f.kind) (take l.i l.fields);
  size : length l.codes ≡ 64;
  few : All (λ k. k ≤ 64) l.codes;
}
