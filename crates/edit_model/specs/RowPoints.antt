use Rattle.std.specs.Prelude.{ℕ, List}
use Rattle.std.specs.Bool.{IsFalse}
use Rattle.edit_model.specs.Corrections.{differs_from}
use Rattle.edit_model.specs.Points.{Point}
use Rattle.edit_model.specs.Rows.{value_of}
use Rattle.edit_model.specs.declared.value.Value.{Value}
use Rattle.edit_model.specs.declared.value.Value.TheVariants.{Code, Number, Bad}

-- the point has the record's value at the field
abbrev pub Agrees : List Value → Point → ℕ → Type 0
Agrees row p f = IsFalse (differs_from (value_of row f) p f)

-- the number of a value's code, 0 where it is none
abbrev pub code_in : Value → ℕ
code_in (Code c) = c
code_in (Number x) = 0
code_in Bad = 0
