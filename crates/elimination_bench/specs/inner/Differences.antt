use Rattle.std.specs.Prelude.{ℕ, zero, suc, ◌+◌, ◌-◌, ◌*◌, ◌/◌, ◌%◌, List, [], ◌∷◌, ℤ, map, pos, negsuc, if◌then◌else◌, nat_lt, replicate, slice_set}
use Rattle.std.specs.List.{range_with_len}
use Rattle.edit_line.specs.Lines.{LineParts, parts_of}
use Rattle.edit_line.specs.declared.relation.Relation.TheVariants.{AtLeast}
use Rattle.edit_line.specs.Shapes.{Categorical, Domain, Numerical}
use Rattle.elimination_bench.specs.declared.differences.Differences.{Differences}
use Rattle.elimination_bench.specs.declared.differences.Differences.TheVariants.{Coded, Plain}

-- how many numerical fields there are
abbrev pub numbers_of : Differences → ℕ
numbers_of Plain = 32
numbers_of Coded = 20

-- how many lines: one for each ordered pair of two numerical fields
abbrev pub count_of : Differences → ℕ
count_of system = numbers_of system * (numbers_of system - 1)

-- this number of numerical fields, and then a field of 8 codes
abbrev pub shape_with : ℕ → List Domain
shape_with zero = Categorical 8 ∷ []
shape_with (suc n) = Numerical ∷ shape_with n

-- the linear congruential sequence that constants and sets are drawn from
abbrev pub next_draw : ℕ → ℕ
next_draw x = (75 * x + 74) % 65537

-- its number at a place
abbrev pub draw_at : ℕ → ℕ
draw_at zero = 1
draw_at (suc place) = next_draw (draw_at place)

-- the set of codes of a line: all 8, or some that are drawn
abbrev pub set_of : Differences → ℕ → ℕ
set_of Plain draw = 255
set_of Coded draw = 1 + draw % 255

-- the field that the line at a place, of those over n numerical fields, bounds from below
abbrev pub lower_field : ℕ → ℕ → ℕ
lower_field n place = place / (n - 1)

-- the field that it bounds from above: the others in turn
abbrev pub upper_field : ℕ → ℕ → ℕ
upper_field n place = let other = place % (n - 1) in if nat_lt other (lower_field n place) then other else other + 1

-- 1 at one of n fields, -1 at another, 0 at the rest
abbrev pub difference : ℕ → ℕ → ℕ → List ℤ
difference n i j = slice_set (slice_set (replicate n (pos 0)) i (pos 1)) j (negsuc 0)

-- x - y + c is at least 0, where the code is in the set: for each ordered pair of fields x and y, with a number c from 0 to 999
abbrev pub difference_line : Differences → ℕ → ℕ → LineParts
difference_line system place draw =
    let n = numbers_of system in
    parts_of (shape_with n) (set_of system draw ∷ []) (difference n (lower_field n place) (upper_field n place)) (pos (draw % 1000)) AtLeast

-- the line at a place, with the place as its number
abbrev pub numbered_line : Differences → ℕ → ℕ × LineParts
numbered_line system place = (place, difference_line system place (draw_at place))

-- this number of the first lines
abbrev pub differences : Differences → ℕ → List (ℕ × LineParts)
differences system count = map (λ place. numbered_line system place) (range_with_len 0 count)
