-- When the names of two files show that they lead to one file.
use Rattle.std.specs.Prelude.{◌≡◌, ⊤, ℕ, List, [], ◌∷◌, if◌then◌else◌}
use Rattle.std.specs.List.{AllByRecursion}
use Rattle.std.specs.Path.{cur_dir, path_components}
use Rattle.std.specs.Str.{bytes_eq}

-- the parts of a path without a `.` in front, which leads to where one is
abbrev pub without_here : List (List ℕ) → List (List ℕ)
without_here [] = []
without_here (part ∷ parts) = if bytes_eq part cur_dir then parts else part ∷ parts

-- the folders that the name leads through, from the root where it begins there, and then the file: `a/b` of `a/b`, `./a//b` and `a/./b`
unfoldable pub file_parts : List ℕ → List (List ℕ)
file_parts name = without_here (path_components name)

-- the names lead through the same folders to the same file; what the desk has under two names, by a link, no name shows
abbrev pub LeadToOne : List ℕ → List ℕ → Type 0
LeadToOne a b = file_parts a ≡ file_parts b

-- no two of the names lead to one file
abbrev pub AreApart : List (List ℕ) → Type 0
AreApart [] = ⊤
AreApart (name ∷ names) = AllByRecursion (λ other. ¬ LeadToOne name other) names × AreApart names
