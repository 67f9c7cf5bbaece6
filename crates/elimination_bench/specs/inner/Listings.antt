use Rattle.std.specs.Prelude.{ℕ, ◌+◌, ◌-◌, ◌%◌, ◌==◌, true, List, Option, Some, None, Result, Ok, Err, map, pos, replicate, if◌then◌else◌}
use Rattle.std.specs.List.{range_with_len}
use Rattle.edit_line.specs.Lines.{LineParts}
use Rattle.edit_model.specs.declared.value.Value.{Value}
use Rattle.edit_model.specs.declared.value.Value.TheVariants.{Bad}
use Rattle.derivation.specs.Premises.{Premises, premises_of}
use Rattle.derivation.specs.ValidSteps.{steps_result}
use Rattle.derivation.specs.declared.proved.Proved.{Proved}
use Rattle.derivation.specs.declared.step.Step.{Step}
use Rattle.derivation.specs.declared.step.Step.TheVariants as step
use Rattle.elimination_bench.specs.inner.Differences.{count_of, differences, numbers_of, shape_with}
use Rattle.elimination_bench.specs.inner.Texts.{accepted_text, refused_text}
use Rattle.elimination_bench.specs.declared.differences.Differences.TheVariants.{Plain}
use Rattle.elimination_bench.specs.declared.listing.Listing.{Listing}
use Rattle.elimination_bench.specs.declared.listing.Listing.TheVariants.{Given, Sums}

-- the step at a place: the given lines in turn; or the first of them, and then the sum of it and the line before
abbrev pub step_at : Listing → ℕ → Step
step_at Given place = step.Given (place % count_of Plain)
step_at Sums place = if place == 0 then step.Given 0 else step.Combine (place - 1) (pos 1) 0 (pos 1) (pos 1)

-- this number of the first steps
abbrev pub steps_of : Listing → ℕ → List Step
steps_of listing count = map (λ place. step_at listing place) (range_with_len 0 count)

-- the lines of the plain generated edits
abbrev pub generated_lines : List LineParts
generated_lines = map (λ (e : ℕ × LineParts). e.1) (differences Plain (count_of Plain))

-- a record of which nothing is known
abbrev pub unknown_values : List Value
unknown_values = replicate (numbers_of Plain + 1) Bad

-- these lines, all usable, and a record of which nothing is known and no field is kept
abbrev pub generated_premises : Premises
generated_premises = premises_of (shape_with (numbers_of Plain)) generated_lines (replicate (count_of Plain) true) unknown_values 0

-- the place of the first step that is not valid, if one is not
abbrev pub refused_at : Result Proved ℕ → Option ℕ
refused_at (Ok proved) = None
refused_at (Err place) = Some place

-- the place of the first step that is not valid among the first steps of a listing over the generated edits
abbrev pub first_refused : Listing → ℕ → Option ℕ
first_refused listing count = refused_at (steps_result generated_premises (steps_of listing count))

-- what is printed of this number of steps, of which the one at this place is refused, if one is
abbrev pub verdict_text : ℕ → Option ℕ → List ℕ
verdict_text count None = accepted_text count
verdict_text count (Some place) = refused_text count place
