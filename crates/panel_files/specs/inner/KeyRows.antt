-- The rows of a file, looked up by their keys.
use Rattle.std.specs.Prelude.{ℕ, List, Option}
use Rattle.std.specs.Map.{lookup}
use Rattle.std.specs.Option.{option_flatten}
use Rattle.std.specs.Str.{bytes_eq}

-- the one row of a key by a table of keys, in which those of several rows stand without a row
abbrev pub row_in : List (List ℕ × Option ℕ) → List ℕ → Option ℕ
row_in entries key = option_flatten (lookup (bytes_eq key) entries)
