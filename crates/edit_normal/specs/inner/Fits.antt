use Rattle.std.specs.Prelude.{◌≡◌, true, List}
use Rattle.edit_model.specs.declared.rule.Test.{Test}
use Rattle.edit_model.specs.declared.rule.Test.TheVariants.{Number, Codes}
use Rattle.edit_line.specs.Shapes.{Domain, code_fields, has_field}

-- a code test is on a categorical field
abbrev pub FitsCodes : List Domain → Test → Type 0
FitsCodes shape (Number e) = Unit {0}
FitsCodes shape (Codes field negated codes) = has_field (code_fields shape) field ≡ true
