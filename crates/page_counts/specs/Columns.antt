-- The values of a field in some rows.
use Rattle.std.specs.Prelude.{ℕ, ◌==◌, Bool, false, List, [], map, slice_index_or}
use Rattle.std.specs.List.{count_by, range_with_len}
use Rattle.edit_model.specs.Rows.{value_of}
use Rattle.edit_model.specs.declared.value.Value.{Value}
use Rattle.edit_model.specs.declared.value.Value.TheVariants.{Code}

-- the value of a field in the row of this number, Bad where there is no such row or field
abbrev pub value_at : List (List Value) → ℕ → ℕ → Value
value_at rows field number = value_of (slice_index_or rows number []) field

-- the values of a field in the rows of these numbers
abbrev pub column_of : List (List Value) → ℕ → List ℕ → List Value
column_of rows field numbers = map (value_at rows field) numbers

-- whether a value is this code
abbrev pub is_code : ℕ → Value → Bool
is_code code (Code c) = c == code
is_code code _ = false

-- how many values each of so many codes has
abbrev pub code_counts : ℕ → List Value → List ℕ
code_counts codes values = map (λ code. count_by (is_code code) values) (range_with_len 0 codes)
