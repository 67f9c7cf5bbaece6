-- Sums, the greatest of numbers, and the lengths that they have in a picture.
use Rattle.std.specs.Prelude.{ℕ, ◌+◌, ◌-◌, ◌*◌, ◌/◌, ◌^◌, ◌==◌, max, min, if◌then◌else◌, List}
use Rattle.std.specs.List.{fold, sum}

-- a sum, or the greatest number that can be shown
abbrev pub plus : ℕ → ℕ → ℕ
plus a b = min (a + b) (2 ^ 64 - 1)

-- the sum of numbers, or the greatest number that can be shown
abbrev pub total_of : List ℕ → ℕ
total_of numbers = min (sum numbers) (2 ^ 64 - 1)

-- the greatest of numbers, 0 of none
abbrev pub greatest_of : List ℕ → ℕ
greatest_of numbers = fold (λ a b. max a b) 0 numbers

-- the units that stand for a value, where `most` units stand for the greatest: none for 0, and at least one for a value above it
abbrev pub scaled : ℕ → ℕ → ℕ → ℕ
scaled most greatest value = if value == 0 then 0 else max (min (value * most / max greatest 1) most) 1
