use Rattle.std.specs.Prelude.{◌≡◌, ℕ, ℤ, ◌+◌, ◌*◌, ◌%◌, ◌^◌, ◌==◌, ◌||◌, not, Bool, List, ◌++◌, drop, map, take}
use Rattle.std.specs.Int.{cast_unsigned, w128}
use Rattle.std.specs.List.{filter, fold, list_any}
use Rattle.edit_line.specs.Lines.{LineParts}
use Rattle.edit_line.specs.Subsumption.{subsumes}
use Rattle.edit_line.specs.declared.derived.Derived.{Derived}

-- A key of a line's factors: lines with equal factors have equal keys, and a line without a factor has the key 0. So
-- most lines need not be compared.

-- the key of some factors and one more
abbrev pub key_with : ℕ → ℤ → ℕ
key_with key factor = ((key * 11400714819323198485) % 2 ^ 64 + cast_unsigned w128 factor % 2 ^ 64) % 2 ^ 64

-- the key of factors
abbrev pub key_of : List ℤ → ℕ
key_of factors = fold key_with 0 factors

-- the keys of the lines
abbrev pub keys_of : List Derived → List ℕ
keys_of lines = map (λ (d : Derived). key_of d.line.factors) lines

-- whether a line with the first key may subsume one with the second
abbrev pub may_subsume : ℕ → ℕ → Bool
may_subsume first second = (first == second) || (first == 0)

-- whether one of the lines subsumes the line
abbrev pub any_over : LineParts → List Derived → Bool
any_over line lines = list_any (λ (a : Derived). subsumes a.line line) lines

-- the lines from this place on tell whether one of all subsumes the line: so it is where none before the place does
abbrev pub NoneOver : ℕ → LineParts → List Derived → Type 0
NoneOver place line lines = any_over line (drop place lines) ≡ any_over line lines

-- the lines that the line does not subsume
abbrev pub not_under : LineParts → List Derived → List Derived
not_under line lines = filter (λ (b : Derived). not (subsumes line b.line)) lines

-- the lines before this place, and of the others those that the line does not subsume
abbrev pub left_from : ℕ → LineParts → List Derived → List Derived
left_from place line lines = take place lines ++ not_under line (drop place lines)

-- the line subsumes none of the lines before this place
abbrev pub NoneUnder : ℕ → LineParts → List Derived → Type 0
NoneUnder place line lines = left_from place line lines ≡ not_under line lines
