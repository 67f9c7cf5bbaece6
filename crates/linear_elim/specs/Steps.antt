use Rattle.std.specs.Prelude.{ℕ, suc, ◌+◌, ◌==◌, ◌&&◌, not, Bool, List, [], ◌∷◌, ◌++◌, All, Option, Some, None, Result, Ok, Err}
use Rattle.std.specs.Prelude.{length, map, if◌then◌else◌}
use Rattle.std.specs.List.{filter, find, flat_map}
use Rattle.foundation.specs.Results.{◌>>=◌}
use Rattle.edit_line.specs.Lines.{LineParts}
use Rattle.edit_line.specs.Places.{place_named}
use Rattle.edit_line.specs.Reductions.{reduce, reduce_derived}
use Rattle.edit_line.specs.Shapes.{Domain, number_fields}
use Rattle.edit_line.specs.declared.derived.Derived.{Derived}
use Rattle.edit_line.specs.declared.derived.Origin.TheVariants.{Pair, Same}
use Rattle.edit_line.specs.declared.place.Place.{Place}
use Rattle.edit_line.specs.Combinations.{all_meet}
use Rattle.linear_elim.specs.Combinations.{CombinedParts, SameShape, combination, combine_result, determines, is_flat, is_lower, is_upper}

-- ---- the step over lines alone

-- t bounds the field from above, and its sets all meet those of s; with s a line that bounds it from below, they are an opposite pair
abbrev pub is_opposite : ℕ → LineParts → LineParts → Bool
is_opposite f s t = is_upper f t && all_meet s.sets t.sets

-- the combinations of the opposite pairs whose sets all meet, in order
abbrev pub combinations : List LineParts → ℕ → List LineParts
combinations lines f = flat_map (λ s. map (λ t. combination s t f) (filter (is_opposite f s) lines)) (filter (is_lower f) lines)

-- the list without the first element that passes the test
abbrev pub without_first : {X : Type 0} → (X → Bool) → List X → List X
without_first test [] = []
without_first test (x ∷ xs) = if test x then xs else x ∷ without_first test xs

-- the equality e, substituted into each of the others in which the field stands, in order
abbrev pub substitutions : LineParts → List LineParts → ℕ → List LineParts
substitutions e others f = map (λ t. combination e t f) (filter (λ t. not (is_flat f t)) others)

-- what is made of the lines with the field: where an equality has it, the substitutions of the first such; else the combinations
abbrev pub made_by : Option LineParts → List LineParts → ℕ → List LineParts
made_by (Some e) lines f = substitutions e (without_first (determines f) lines) f
made_by None lines f = combinations lines f

-- the lines that elimination of the field makes
abbrev pub made : List LineParts → ℕ → List LineParts
made lines f = made_by (find (determines f) lines) lines f

-- one step of elimination, by an equality or of Fourier and Motzkin: the lines without the field, and then those that are made
abbrev pub eliminated : List LineParts → ℕ → List LineParts
eliminated lines f = filter (is_flat f) lines ++ made lines f

-- the step, reduced
abbrev pub step : List LineParts → ℕ → List LineParts
step lines f = reduce (eliminated lines f)

-- ---- the step as one value, with origins and its first overflow

-- the places, in the list that the step took, of the lines whose combination leaves the range, and the place in it
pub record StepOverflow : Type 0 where
  pub first : ℕ
  pub second : ℕ
  pub place : Place

-- the lines are over one survey's fields
abbrev pub OneShape : List Derived → Type 0
OneShape lines = All (λ (s : Derived). All (λ (t : Derived). SameShape s.line t.line) lines) lines

-- the elements before, and then those that the answer gives
abbrev pub with_more : {X F : Type 0} → List X → Result (List X) F → Result (List X) F
with_more before answer = answer >>= (λ more. Ok (before ++ more))

-- both lists joined, or the first fault
abbrev pub followed_by : {X F : Type 0} → Result (List X) F → Result (List X) F → Result (List X) F
followed_by answer rest = answer >>= (λ first. with_more first rest)

-- what the function gives for each element and its number, counted from i: all lists joined, or the first fault
abbrev pub collect : {X Y F : Type 0} → (ℕ → X → Result (List Y) F) → ℕ → List X → Result (List Y) F
collect each i [] = Ok []
collect each i (x ∷ xs) = followed_by (each i x) (collect each (suc i) xs)

-- the combination as a derived line, and the place by its field
abbrev pub paired : List Domain → ℕ → ℕ → Result CombinedParts ℕ → Result (List Derived) StepOverflow
paired shape i j (Ok c) = Ok (record { line = c.line; origin = Pair i c.m j c.n c.g } ∷ [])
paired shape i j (Err place) = Err (record { first = i; second = j; place = place_named (number_fields shape) place })

-- the combination of s and t, where they are an opposite pair whose sets all meet
abbrev pub pair_result : ℕ → ℕ → Derived → ℕ → Derived → Result (List Derived) StepOverflow
pair_result f i s j t =
    if is_opposite f s.line t.line
    then paired s.line.shape i j (combine_result s.line t.line f)
    else Ok []

-- the combinations of s with each line that is opposite to it, in order
abbrev pub row_result : ℕ → List Derived → ℕ → Derived → Result (List Derived) StepOverflow
row_result f lines i s = if is_lower f s.line then collect (pair_result f i s) 0 lines else Ok []

-- the first equality in which the field stands, with its place, counted from i
abbrev pub equality_from : ℕ → ℕ → List Derived → Option (ℕ × Derived)
equality_from f i [] = None
equality_from f i (s ∷ lines) = if determines f s.line then Some (i, s) else equality_from f (suc i) lines

-- the equality at place i is substituted into t at place j: t is another line, and the field stands in it
abbrev pub substitutes : ℕ → ℕ → ℕ → LineParts → Bool
substitutes f i j t = not (i == j) && not (is_flat f t)

-- the substitution of the equality e into t, where it is substituted
abbrev pub substituted_result : ℕ → ℕ → Derived → ℕ → Derived → Result (List Derived) StepOverflow
substituted_result f i e j t =
    if substitutes f i j t.line
    then paired e.line.shape i j (combine_result e.line t.line f)
    else Ok []

-- what is made of the lines with the field: where an equality has it, its substitutions; else the combinations
abbrev pub made_with : Option (ℕ × Derived) → List Derived → ℕ → Result (List Derived) StepOverflow
made_with (Some e) lines f = collect (substituted_result f e.0 e.1) 0 lines
made_with None lines f = collect (row_result f lines) 0 lines

-- the lines that elimination of the field makes, or the first pair and place that leave the range
abbrev pub made_result : List Derived → ℕ → Result (List Derived) StepOverflow
made_result lines f = made_with (equality_from f 0 lines) lines f

-- the lines without the field, in order, each with its number, counted from i
abbrev pub flat_from : ℕ → ℕ → List Derived → List Derived
flat_from f i [] = []
flat_from f i (s ∷ lines) =
    if is_flat f s.line
    then record { line = s.line; origin = Same i } ∷ flat_from f (suc i) lines
    else flat_from f (suc i) lines

-- the lines without the field and then those that are made, or the first pair and place that leave the range
abbrev pub eliminated_result : List Derived → ℕ → Result (List Derived) StepOverflow
eliminated_result lines f = with_more (flat_from f 0 lines) (made_result lines f)

-- the lines reduced, where there are any
abbrev pub reduced_result : {F : Type 0} → Result (List Derived) F → Result (List Derived) F
reduced_result answer = answer >>= (λ lines. Ok (reduce_derived lines))

-- elimination of a numerical field: the step's lines with their origins, reduced, or the first pair and place that leave the range
abbrev pub step_result : List Derived → ℕ → Result (List Derived) StepOverflow
step_result lines f = reduced_result (eliminated_result lines f)

-- ---- how many pairs are combined

-- the number of lines that are opposite to s, a line that bounds the field from below
abbrev pub opposites : ℕ → Derived → List Derived → ℕ
opposites f s lines = length (filter (λ (t : Derived). is_opposite f s.line t.line) lines)

-- the number of pairs of s, where it bounds the field from below
abbrev pub row_count : ℕ → List Derived → Derived → ℕ
row_count f lines s = if is_lower f s.line then opposites f s lines else 0

-- the number of pairs of all these lines: the sum of their counts
abbrev pub rows_count : ℕ → List Derived → List Derived → ℕ
rows_count f lines [] = 0
rows_count f lines (s ∷ rows) = row_count f lines s + rows_count f lines rows

-- the number of lines from place j on into which the equality at place i is substituted
abbrev pub substituted_count : ℕ → ℕ → ℕ → List Derived → ℕ
substituted_count f i j [] = 0
substituted_count f i j (t ∷ lines) = (if substitutes f i j t.line then 1 else 0) + substituted_count f i (suc j) lines

-- the number of lines that are made
abbrev pub count_with : Option (ℕ × Derived) → List Derived → ℕ → ℕ
count_with (Some e) lines f = substituted_count f e.0 0 lines
count_with None lines f = rows_count f lines lines

-- the number of pairs that the step combines: an equality and a line into which it is substituted, or two opposite lines
abbrev pub pairs_count : List Derived → ℕ → ℕ
pairs_count lines f = count_with (equality_from f 0 lines) lines f
