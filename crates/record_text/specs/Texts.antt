-- Records as they are written.
use Rattle.std.specs.Prelude.{ℕ, List, [], ◌∷◌, ◌++◌}
use Rattle.csv.specs.Writing.{default_writer, row_text}

-- the records as csv's default writer writes them, each ended by a line feed
abbrev pub records_text : List (List (List ℕ)) → List ℕ
records_text [] = []
records_text (texts ∷ rest) = row_text default_writer texts ++ records_text rest
