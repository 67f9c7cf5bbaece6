use Rattle.std.specs.Prelude.{ℕ, suc, ◌+◌, Bool, List, [], ◌∷◌, Result, Ok, Option, Some, None, if◌then◌else◌}
use Rattle.std.specs.List.{slice_get}
use Rattle.edit_line.specs.Lines.{LineParts}
use Rattle.edit_line.specs.declared.derived.Derived.{Derived}
use Rattle.linear_elim.specs.Steps.{StepOverflow, followed_by, pair_result, substituted_result}
use Rattle.linear_elim.specs.declared.elimination.Placed.{Placed}

-- ---- the step with the upper lines listed once

-- the places of the lines that pass the test, counted from i
abbrev pub places_from : (LineParts → Bool) → ℕ → List Derived → List ℕ
places_from test i [] = []
places_from test i (t ∷ lines) = if test t.line then i ∷ places_from test (suc i) lines else places_from test (suc i) lines

-- what a line, at its place, gives at the field with each other one
abbrev pub pairs_with : ℕ → Placed → ℕ → Derived → Result (List Derived) StepOverflow
pairs_with f s = pair_result f s.place s.derived.now

-- what the equality, at its place, gives at the field with each other line
abbrev pub substituted_with : ℕ → Placed → ℕ → Derived → Result (List Derived) StepOverflow
substituted_with f e = substituted_result f e.place e.derived.now

-- what the function gives for the line that is found at the place
abbrev pub found_result : {F : Type 0}
    → (ℕ → Derived → Result (List Derived) F) → ℕ → Option Derived → Result (List Derived) F
found_result each j (Some t) = each j t
found_result each j None = Ok []

-- what the function gives for the lines at these places: all lists joined, or the first fault
abbrev pub collect_at : {F : Type 0}
    → (ℕ → Derived → Result (List Derived) F) → List Derived → List ℕ → Result (List Derived) F
collect_at each lines [] = Ok []
collect_at each lines (j ∷ places) = followed_by (found_result each j (slice_get lines j)) (collect_at each lines places)

-- 1 where the line that is found passes the test
abbrev pub found_count : (LineParts → Bool) → Option Derived → ℕ
found_count test (Some t) = if test t.line then 1 else 0
found_count test None = 0

-- how many of the lines at these places pass the test
abbrev pub count_at : (LineParts → Bool) → List Derived → List ℕ → ℕ
count_at test lines [] = 0
count_at test lines (j ∷ places) = found_count test (slice_get lines j) + count_at test lines places
