use Rattle.std.specs.Prelude.{ℕ, suc, ℤ, pos, negsuc, ◌-ℤ◌, ◌*ℤ◌, ◌&&◌, ◌||◌, not, Bool, true, false, List, [], ◌∷◌, Option, Some}
use Rattle.std.specs.Prelude.{None, Result, Ok, int_lt, if◌then◌else◌, slice_set}
use lib.IntN.{neg_ℤ}
use Rattle.std.specs.Ordering.{int_eq}
use Rattle.std.specs.Option.{ok_or}
use Rattle.std.specs.Result.{result_ok}
use Rattle.foundation.specs.Results.{◌>>=◌}
use Rattle.foundation.specs.Options.{◌>>?◌}
use Rattle.fraction128.specs.Formulas.{Ratio, added, divided, middle}
use Rattle.edit_model.specs.declared.value.Value.{Value}
use Rattle.edit_line.specs.CodeFields.{codes_in}
use Rattle.edit_line.specs.Lines.{LineParts, bound_relation, factor}
use Rattle.edit_line.specs.Sets.{are_codes_in}
use Rattle.edit_line.specs.Subsumption.{is_enough}
use Rattle.edit_line.specs.Sums.{sum_at, whole}
use Rattle.edit_line.specs.declared.relation.Relation.{Relation}
use Rattle.edit_line.specs.declared.relation.Relation.TheVariants.{Above, AtLeast, Equal}
use Rattle.edit_model.specs.declared.value.Value.TheVariants.{Bad}

-- The number of a field as the walk finds it, in numbers of at most 127 bits; or the place of the line at which one leaves the range.

-- whether the line bounds the field at the record
abbrev pub is_bounding : LineParts → List Value → ℕ → Bool
is_bounding line row f = are_codes_in line.sets (codes_in line.shape row) && not (int_eq (factor line f) (pos 0))

-- the line's sum at the record without the field, which is set to no value, and so adds nothing
abbrev pub rest_of : LineParts → List Value → ℕ → Result Ratio ℕ
rest_of line row f = sum_at line (slice_set row f Bad)

-- the bound of the line: its rest, divided by the negative of its factor
abbrev pub bound_at : LineParts → List Value → ℕ → Option Ratio
bound_at line row f = result_ok (rest_of line row f) >>? (λ rest. divided rest (neg_ℤ (factor line f)))

-- a bound that was found, and the place of its line
pub record Found : Type 0 where
  pub at : Ratio
  pub strict : Bool
  pub line : ℕ

abbrev pub found_at : Ratio → Bool → ℕ → Found
found_at at strict line = record { at = at; strict = strict; line = line }

-- how far a number is inside a bound, seen from a side
abbrev pub inside_by : ℤ → Found → Ratio → ℤ
inside_by side b x = side *ℤ (x.numerator *ℤ b.at.denominator -ℤ b.at.numerator *ℤ x.denominator)

-- whether a later bound is tighter: it is further in, or is the same number and only it is left out
abbrev pub is_further_in : ℤ → Found → Found → Bool
is_further_in side old new =
    let gap = inside_by side old new.at in
    int_lt (pos 0) gap || (int_eq gap (pos 0) && (new.strict && not old.strict))

-- the tighter of two bounds, the earlier one where they are equal
abbrev pub tighter : ℤ → Option Found → Found → Found
tighter side None new = new
tighter side (Some old) new = if is_further_in side old new then new else old

-- the bounds so far
pub record FoundBounds : Type 0 where
  pub lower : Option Found
  pub upper : Option Found

abbrev pub no_bounds : FoundBounds
no_bounds = record { lower = None; upper = None }

-- the bounds, narrowed by one more: a lower one where `lower` is true, else an upper one
abbrev pub with_found : FoundBounds → Bool → Found → FoundBounds
with_found ends lower new =
    if lower
    then record { lower = Some (tighter (pos 1) ends.lower new); upper = ends.upper }
    else record { lower = ends.lower; upper = Some (tighter (negsuc 0) ends.upper new) }

-- the bounds, and those of a line: an equality bounds from both sides, and a line that is to be above 0 leaves its bound out
abbrev pub bounded_by : Relation → FoundBounds → Bool → Ratio → ℕ → FoundBounds
bounded_by AtLeast ends lower at i = with_found ends lower (found_at at false i)
bounded_by Above ends lower at i = with_found ends lower (found_at at true i)
bounded_by Equal ends lower at i = with_found (with_found ends true (found_at at false i)) false (found_at at false i)

-- the bounds, and those that the line at place i gives the field
abbrev pub with_bound : FoundBounds → LineParts → ℕ → Ratio → ℕ → FoundBounds
with_bound ends line f at i = bounded_by line.relation ends (int_lt (pos 0) (factor line f)) at i

-- the bounds of the lines, from place i on
abbrev pub bounds_from : ℕ → List LineParts → List Value → ℕ → FoundBounds → Result FoundBounds ℕ
bounds_from i [] row f ends = Ok ends
bounds_from i (line ∷ lines) row f ends =
    if is_bounding line row f
    then ok_or (bound_at line row f) i >>= (λ at. bounds_from (suc i) lines row f (with_bound ends line f at i))
    else bounds_from (suc i) lines row f ends

-- the middle of both bounds, or one further in, where there is no other
abbrev pub step_in : ℤ → Ratio → Option Found → Option Ratio
step_in side x None = added x (whole side)
step_in side x (Some other) = middle x other.at

-- the number at a bound, where that keeps the target out
abbrev pub number_at : ℤ → Found → Option Found → Result Ratio ℕ
number_at side b other = if b.strict then ok_or (step_in side b.at other) b.line else Ok b.at

-- the number at a bound that keeps the target out, and else the next answer
abbrev pub unless_out : ℤ → Option Found → Option Found → Ratio → Result Ratio ℕ → Result Ratio ℕ
unless_out side None other target next = next
unless_out side (Some b) other target next =
    if is_enough (bound_relation b.strict) (inside_by side b target) then next else number_at side b other

-- the number nearest to the target between the bounds
abbrev pub nearest_found : FoundBounds → Ratio → Result Ratio ℕ
nearest_found ends target =
    unless_out (pos 1) ends.lower ends.upper target (unless_out (negsuc 0) ends.upper ends.lower target (Ok target))

-- the number that the lines give to the field for the target, or the place of the line at which a number leaves the range
abbrev pub number_result : List LineParts → List Value → ℕ → Ratio → Result Ratio ℕ
number_result lines row f target = bounds_from 0 lines row f no_bounds >>= (λ ends. nearest_found ends target)
