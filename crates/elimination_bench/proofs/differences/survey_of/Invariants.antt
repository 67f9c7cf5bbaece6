use Rattle.std.proofs.Common.{◌≡◌, All, map, replicate, take}
use Rattle.edit_model.specs.Surveys.{IsField}
use Rattle.edit_model.specs.declared.field.Field.{Field}
use Rattle.edit_line.specs.Shapes.{Numerical, shape_of}
use Rattle.elimination_bench.proofs.NameLaws.{letter_names}
use Rattle.elimination_bench.proofs.differences.survey_of.Given as goal

abbrev pub invariant-loop-i : goal.invariant-loop-i
invariant-loop-i l = (shape_of l.fields.items ≡ replicate l.i Numerical) × (map (λ (f : Field). f.name) l.fields.items ≡ take l.i letter_names)
    × All IsField l.fields.items
