-- How large the numbers of records are.
use Rattle.std.specs.Prelude.{◌<◌, ◌≤◌, ◌^◌, unsigned_abs, List}
use Rattle.std.specs.List.{AllByRecursion}
use Rattle.fraction128.specs.declared.fraction.Fraction.{Fraction}
use Rattle.edit_model.specs.declared.value.Value.{Value}
use Rattle.edit_model.specs.declared.value.Value.TheVariants.{Code, Number, Bad}

-- a number as the numerals of record files spell them: its numerator is below 10 ^ 21, and its denominator at most 10 ^ 6
abbrev pub IsPlain : Fraction → Type 0
IsPlain x = (unsigned_abs x.numerator < 10 ^ 21) × (unsigned_abs x.denominator ≤ 10 ^ 6)

-- a plain number, a code, or no value
abbrev pub IsPlainValue : Value → Type 0
IsPlainValue (Code c) = Unit {0}
IsPlainValue (Number x) = IsPlain x
IsPlainValue Bad = Unit {0}

-- the numbers of a record are plain
abbrev pub HasPlainNumbers : List Value → Type 0
HasPlainNumbers row = AllByRecursion IsPlainValue row
