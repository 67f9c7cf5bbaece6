use Rattle.std.specs.Prelude.{ℤ, ◌<◌, ◌^◌, unsigned_abs, List}
use Rattle.std.specs.List.{AllByRecursion}

-- a whole number of absolute value at most 2 ^ 127 - 1
abbrev pub InRange : ℤ → Type 0
InRange z = unsigned_abs z < 2 ^ 127

-- each number of the list is in range
abbrev pub AllInRange : List ℤ → Type 0
AllInRange numbers = AllByRecursion InRange numbers
