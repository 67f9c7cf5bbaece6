-- What private contracts say of the fields of lines and of kinds of fields.
use Rattle.std.specs.Prelude.{IsTrue, List, ℕ}
use Rattle.edit_model.specs.Rows.{value_of}
use Rattle.edit_model.specs.Trials.{IsNumberValue}
use Rattle.edit_model.specs.declared.value.Value.{Value}
use Rattle.edit_line.specs.Lines.{LineParts}
use Rattle.edit_line.specs.Shapes.{Domain, code_fields, has_field, number_fields}
use Rattle.edit_line.specs.Sums.{AtFactors}

-- the record has a number at each field that stands in the line
abbrev pub HasNumbers : List Value → LineParts → Type 0
HasNumbers row line = AtFactors (λ f. IsNumberValue (value_of row f)) (number_fields line.shape) line.factors

-- the field is categorical
abbrev pub IsCategorical : List Domain → ℕ → Type 0
IsCategorical shape f = IsTrue (has_field (code_fields shape) f)
