-- The rows of a released file. Private contracts alone cite this page.
use Rattle.std.specs.Prelude.{◌≡◌, ℕ, ◌≤◌, List, ◌∷◌, length}
use Rattle.std.specs.List.{AllByRecursion}
use Rattle.foundation.specs.Limits.{most_columns, most_records}
use Rattle.record_text.specs.Sheets.{AreRecordsOf}
use Rattle.record_text.specs.Trimming.{header_of}

-- the bytes are, as a record file, this header and this number of rows as long as it
pub record AreRowsOf (header : List (List ℕ)) (bytes : List ℕ) (count : ℕ) (rows : List (List (List ℕ))) : Type 0 where
  pub first : List (List ℕ)
  pub given : AreRecordsOf bytes (first ∷ rows)
  pub same : header_of first ≡ header
  pub long : AllByRecursion (λ (texts : List (List ℕ)). length texts ≡ length header) rows
  pub counted : length rows ≡ count

-- a record file may have such a header, and this number of rows
pub record AreInLimits (header : List (List ℕ)) (count : ℕ) : Type 0 where
  pub width : length header ≤ most_columns
  pub few : count ≤ most_records
