use Rattle.std.proofs.Common.{◌≡◌, ◌≢◌, ℕ, ◌<◌, get_or, take}
use Rattle.edit_model.specs.inner.Indexes.{names_of}
use Rattle.edit_model.specs.declared.field.Field.{Field}
use Rattle.edit_model.proofs.check.have_distinct_names.Given as goal

abbrev pub invariant-loop-field : goal.invariant-loop-field
invariant-loop-field l = record {
  names : l.names ≡ names_of (take l.field-index l.fields);
  distinct : (j k : ℕ) (d : Field) → j < k → k < l.field-index → (get_or l.fields j d).name ≢ (get_or l.fields k d).name;
}
