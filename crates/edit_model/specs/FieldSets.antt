use Rattle.std.specs.Prelude.{ℕ, ◌==◌, ◌||◌, ◌^◌, Bool, false, List, [], ◌∷◌, bit_or, bit_xor}
use Rattle.std.specs.Int.{bit_at}
use Rattle.std.specs.List.{fold}

-- whether a set of fields, kept as bits, has the field of this number
abbrev pub has_number : ℕ → ℕ → Bool
has_number bits field = bit_at bits field == 1

-- a set of fields, as bits, with one more
abbrev pub with_number : ℕ → ℕ → ℕ
with_number set field = bit_or set (2 ^ field)

-- a set of fields, as bits, without one: it is put in, and then taken out
abbrev pub without_number : ℕ → ℕ → ℕ
without_number set field = bit_xor (with_number set field) (2 ^ field)

-- the set of the fields of a list, as bits
abbrev pub set_of : List ℕ → ℕ
set_of fields = fold with_number 0 fields

-- whether a list of fields has the field
abbrev pub has_field : List ℕ → ℕ → Bool
has_field [] f = false
has_field (i ∷ fields) f = (i == f) || has_field fields f
