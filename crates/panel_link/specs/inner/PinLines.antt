use Rattle.std.specs.Prelude.{ℕ, ℤ, ◌^◌, List, [], bit_and, bit_xor}
use Rattle.fraction128.specs.declared.fraction.Fraction.{Fraction}
use Rattle.edit_model.specs.declared.value.Value.{Value}
use Rattle.edit_model.specs.declared.value.Value.TheVariants.{Bad, Code, Number}
use Rattle.edit_line.specs.Lines.{LineParts}
use Rattle.edit_line.specs.Shapes.{Domain}
use Rattle.edit_normal.specs.NormalForm.{rule_lines_of, term_factor}
use Rattle.panel_link.specs.Pins.{code_kept, number_kept, times_field}

-- the pin of a field with this value, if there is one
abbrev pub pin_of : List Domain → ℕ → Value → List LineParts
pin_of shape f (Number x) = rule_lines_of shape (number_kept f x)
pin_of shape f (Code code) = rule_lines_of shape (code_kept f code)
pin_of shape f Bad = []

-- the factor of a field in the pin of a number
abbrev pub own_factor : ℕ → Fraction → ℕ → ℤ
own_factor f x = term_factor (times_field f x)

-- the codes of a set but this one
abbrev pub others_of : ℕ → ℕ → ℕ
others_of set code = bit_and set (bit_xor set (2 ^ code))
