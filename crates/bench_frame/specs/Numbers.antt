use Rattle.std.specs.Prelude.{ℕ, ◌&&◌, List, Option, Some, None, length, nat_le, if◌then◌else◌}
use Rattle.std.specs.Str.{all_ascii_digits}
use Rattle.std.specs.Str.Parse.{digits_value}

-- the number that a text of one decimal digit or more spells, if it is at least and at most this
abbrev pub number_in : List ℕ → ℕ → ℕ → Option ℕ
number_in text least most =
    if nat_le 1 (length text) && (all_ascii_digits text && (nat_le least (digits_value 10 text) && nat_le (digits_value 10 text) most))
    then Some (digits_value 10 text)
    else None
