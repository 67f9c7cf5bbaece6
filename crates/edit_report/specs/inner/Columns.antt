-- Which field stands in each column.
use Rattle.std.specs.Prelude.{◌≡◌, ◌<◌, ℕ, List, Option, length, slice_index_or}
use Rattle.edit_report.specs.Layouts.{field_in}

-- for each column, from the first on, the field that stands there
abbrev pub AreFieldsIn : List ℕ → List (Option ℕ) → Type 0
AreFieldsIn columns fields = (k : ℕ) (d : Option ℕ) → k < length fields → slice_index_or fields k d ≡ field_in columns k
