-- The number that some digits spell, one digit more, and what a number that is too large shows of more digits.
use Rattle.std.proofs.Common.{◌≡◌, refl, ℕ, ◌+◌, ◌-◌, ◌*◌, ◌<◌, ◌≤◌, ◌^◌, true, false, List, length, take, get_or, arith}
use Rattle.std.proofs.lemmas.Bool.{and_parts, lt-leb, leb-true, true_from_ne_false}
use Rattle.std.proofs.lemmas.Int.Digits.{digits_value_more}
use Rattle.std.proofs.lemmas.List.Folds.{list_all_at}
use Rattle.std.proofs.lemmas.Str.{digit_value_digit}
use Rattle.std.proofs.lemmas.Str.Parse.{digits_value-take-le}
use Rattle.std.specs.List.{list_all}
use Rattle.std.specs.Prelude.{nat_le}
use Rattle.std.specs.Str.Parse.{digits_value}
use Rattle.edit_model.specs.Surveys.{is_digit}
use Rattle.rule_grammar.specs.Tokens.{whole_numeral}
use Rattle.rule_grammar.specs.declared.token.Numeral.TheVariants as amount

-- each byte of digits is one
pub digit_at : (digits : List ℕ) (i : ℕ) → list_all is_digit digits ≡ true → i < length digits → (48 ≤ get_or digits i 0) × (get_or digits i 0 ≤ 57)
digit_at digits i all within =
    let one : is_digit (get_or digits i 0) ≡ true = true_from_ne_false _ (λ fails. (let h = list_all_at is_digit digits i 0 within fails in cc)) in
    let both = and_parts (nat_le 48 (get_or digits i 0)) (nat_le (get_or digits i 0) 57) one in
    (leb-true 48 (get_or digits i 0) both.0, leb-true (get_or digits i 0) 57 both.1)

pub number_more : (digits : List ℕ) (n i d : ℕ) → list_all is_digit digits ≡ true → i < length digits → n ≡ digits_value 10 (take i digits)
    → d ≡ get_or digits i 0 - 48
    → n * 10 + d ≡ digits_value 10 (take (i + 1) digits)
number_more digits n i d all within so_far same =
    let digit = digit_at digits i all within in
    let v = digit_value_digit (get_or digits i 0) digit in
    rw (digits_value_more 10 digits i within) (omega arith)

pub number_large : (digits : List ℕ) (i n : ℕ) → n ≡ digits_value 10 (take i digits) → 10 ^ 15 < n → amount.OutOfRange ≡ whole_numeral digits
number_large digits i n same large =
    let above : nat_le (digits_value 10 digits) (10 ^ 15) ≡ false =
    lt-leb (digits_value 10 digits) (10 ^ 15) (omega (arith, digits_value-take-le 10 digits i)) in
    rw above refl
