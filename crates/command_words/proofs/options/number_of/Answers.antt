use Rattle.std.proofs.Common.{◌≡◌, ℕ, List, Result, Ok, arith}
use Rattle.std.specs.Str.Parse.{AllDigits, ParsesUnsigned, digits_value}
use Rattle.std.proofs.lemmas.Str.Parse.{IsNumeralModel, digits_value_short, numerals_by_value, parse_gives, tells_digits}
use Rattle.command_words.specs.Options.{IsNumberText}
use Rattle.command_words.proofs.options.number_of.Goals as goal

numerals : IsNumeralModel (AllDigits 10) (digits_value 10)
numerals = numerals_by_value (AllDigits 10) tells_digits

-- the text of a number is read
number_read : {E : Type 0} (text : List ℕ) (n : ℕ) (r : Result ℕ E) → ParsesUnsigned 64 10 text r → IsNumberText text n → r ≡ Ok (digits_value 10 text)
number_read text n r h is =
    let small = digits_value_short numerals text 10 is.0.1 is.1 in
    parse_gives numerals 64 text r h is.0.1 is.0.0 (omega arith)

pub returns-in-Err-clause-none : goal.returns-in-Err-clause-none
returns-in-Err-clause-none c = λ n is. let read = number_read c.args.text.now n c.parse.result c.parse.ensures.value.0 is in let unread = c.in-Err.is in cc
