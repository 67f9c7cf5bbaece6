use Rattle.std.proofs.Common.{◌≡◌, take}
use Rattle.std.specs.Str.Parse.{AllDigits, digits_value}
use Rattle.record_text.proofs.numeral.number_of_digits.Given as goal

abbrev pub invariant-loop-digit : goal.invariant-loop-digit
invariant-loop-digit l = (l.number ≡ digits_value 10 (take l.digit-index l.digits)) × AllDigits 10 (take l.digit-index l.digits)
