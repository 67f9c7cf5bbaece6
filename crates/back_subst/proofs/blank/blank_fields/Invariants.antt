use Rattle.std.proofs.Common.{◌≡◌, ◌<◌, false, true, ℕ}
use Rattle.edit_model.specs.FieldSets.{has_number}
use Rattle.edit_model.specs.Rows.{IsRow, value_of}
use Rattle.edit_model.specs.declared.value.Value.TheVariants.{Bad}
use Rattle.back_subst.proofs.blank.blank_fields.Given as goal

abbrev pub invariant-loop-field : goal.invariant-loop-field
invariant-loop-field l =
    IsRow l.survey.fields l.new × ((f : ℕ) → f < l.field → has_number l.changed f ≡ true → value_of l.new f ≡ Bad)
    × ((f : ℕ) → has_number l.changed f ≡ false → value_of l.new f ≡ value_of l.row f)
