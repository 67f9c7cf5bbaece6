use Rattle.std.proofs.Common.{◌≡◌, take}
use Rattle.edit_model.specs.FieldSets.{set_of}
use Rattle.deduce_fill.proofs.bad_fields.set_of.Given as goal

abbrev pub invariant-loop-field : goal.invariant-loop-field
invariant-loop-field l = l.set ≡ set_of (take l.field-index l.fields)
