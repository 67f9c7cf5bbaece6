use Rattle.std.specs.Prelude.{◌≡◌, ℕ, suc, ℤ, ◌==◌, ◌&&◌, Bool, false, List, [], ◌∷◌, ◌++◌, Option, Some, None, Result, Ok, Err, length, if◌then◌else◌, slice_get, slice_index_or}
use Rattle.std.specs.Option.{ok_or}
use Rattle.std.specs.Result.{result_unwrap_or}
use Rattle.foundation.specs.Results.{◌>>=◌}
use Rattle.foundation.specs.Options.{◌>>?◌}
use Rattle.edit_model.specs.FieldSets.{has_number}
use Rattle.edit_model.specs.Rows.{value_of}
use Rattle.edit_model.specs.declared.value.Value.{Value}
use Rattle.edit_model.specs.declared.value.Value.TheVariants.{Bad, Code, Number}
use Rattle.edit_model.specs.Points.{has_code}
use Rattle.edit_line.specs.Boxes.{box_of}
use Rattle.edit_line.specs.CodeFields.{has_code_at, place_of, size_of, whole_at}
use Rattle.edit_line.specs.Combinations.{may_combine, in_both, sum_of}
use Rattle.edit_line.specs.Divisors.{divided_by}
use Rattle.edit_line.specs.Lines.{LineParts}
use Rattle.edit_line.specs.Sets.{none_is_empty}
use Rattle.edit_line.specs.Shapes.{Domain, code_fields, has_field, number_fields, whole_sets}
use Rattle.edit_line.specs.Sums.{fails_at, stands_only}
use Rattle.derivation.specs.Premises.{Premises}
use Rattle.derivation.specs.declared.proved.Proved.{Proved}
use Rattle.derivation.specs.declared.proved.Proved.TheVariants as proved
use Rattle.derivation.specs.declared.step.Step.{Step}
use Rattle.derivation.specs.declared.step.Step.TheVariants as step

-- Places, of given lines and of steps, are numbered from 0.

-- ---- what earlier steps proved

-- the line, if a line was proved
abbrev pub as_line : Option Proved → Option LineParts
as_line (Some (proved.Line line)) = Some line
as_line (Some (proved.Box code_box)) = None
as_line None = None

-- the sets of the box, if a box was proved
abbrev pub as_box : Option Proved → Option (List ℕ)
as_box (Some (proved.Box code_box)) = Some code_box.sets
as_box (Some (proved.Line line)) = None
as_box None = None

-- the value, where the test is true
abbrev pub only_if : {A : Type 0} → Bool → A → Option A
only_if test value = if test then Some value else None

-- ---- a given line

-- the given line at the place, if it is usable
abbrev pub given_line : Premises → ℕ → Option Proved
given_line p place = if slice_index_or p.usable place false then slice_get p.given place >>? (λ line. Some (proved.Line line)) else None

-- ---- a combination of two lines

-- the combination
abbrev pub combined_line : ℤ → ℤ → ℤ → LineParts → LineParts → Option Proved
combined_line m n g s t = only_if (may_combine m n g s t) (proved.Line (divided_by g (sum_of m n s t)))

-- ---- a line that fails at the kept fields

-- whether only fields of the set stand in the line, and its linear part is false at the record, where a value that
-- is Bad counts as 0: so it is false at each point that has the record's values at these fields, where the record
-- has them
abbrev pub fails_at_kept : List Value → ℕ → LineParts → Bool
fails_at_kept row kept line =
    stands_only (has_number kept) (number_fields line.shape) line.factors && result_unwrap_or (fails_at line row) false

-- the box of the line's sets, where it fails so at the kept fields
abbrev pub failed_box : Premises → LineParts → Option Proved
failed_box p line = only_if (fails_at_kept p.row p.kept line) (proved.Box (box_of p.shape line.sets))

-- ---- boxes

-- the box of these sets, made whole at the field
abbrev pub whole_box : List Domain → ℕ → List ℕ → Proved
whole_box shape field sets = proved.Box (box_of shape (whole_at shape field sets))

-- the box that was proved at a place, if it has the code at the field
abbrev pub part_with : List Proved → ℕ → ℕ → ℕ → Option (List ℕ)
part_with earlier at code part = as_box (slice_get earlier part) >>? (λ sets. only_if (has_code_at at code sets) sets)

-- what the boxes of these parts, one for each code from this one on, have in common with the sets so far
abbrev pub common_from : List Proved → ℕ → ℕ → List ℕ → List ℕ → Option (List ℕ)
common_from earlier at code [] common = Some common
common_from earlier at code (part ∷ parts) common =
    part_with earlier at code part >>? (λ sets. common_from earlier at (suc code) parts (in_both common sets))

-- the box of these sets, made whole at the field, if no set of it is empty
abbrev pub covered_sets : List Domain → ℕ → List ℕ → Option Proved
covered_sets shape field common = only_if (none_is_empty (whole_at shape field common)) (whole_box shape field common)

-- the box of what the parts have in common on the other fields, whole at the field: with each code there, the codes
-- are in a part. There is one part for each code of the field, in declared order
abbrev pub covered_box : Premises → List Proved → ℕ → List ℕ → Option Proved
covered_box p earlier field parts =
    if has_field (code_fields p.shape) field && (length parts == size_of p.shape field)
    then common_from earlier (place_of p.shape field) 0 parts (whole_sets p.shape) >>? (λ common. covered_sets p.shape field common)
    else None

-- whether a set has the code that is the value
abbrev pub has_value : ℕ → Value → Bool
has_value set (Code code) = has_code set code
has_value set (Number x) = false
has_value set Bad = false

-- the box of these sets, made whole at the field, if it has the value there
abbrev pub fixed_sets : List Domain → ℕ → Value → List ℕ → Option Proved
fixed_sets shape field v sets = only_if (has_value (slice_index_or sets (place_of shape field) 0) v) (whole_box shape field sets)

-- the box that was proved, made whole at a kept field at which it has the record's code
abbrev pub fixed_box : Premises → List Proved → ℕ → ℕ → Option Proved
fixed_box p earlier field part =
    if has_field (code_fields p.shape) field && has_number p.kept field
    then as_box (slice_get earlier part) >>? (λ sets. fixed_sets p.shape field (value_of p.row field) sets)
    else None

-- ---- lists of steps

-- what a step proves from what the earlier ones did; nothing where it is invalid
abbrev pub proved_by : Premises → List Proved → Step → Option Proved
proved_by p earlier (step.Given place) = given_line p place
proved_by p earlier (step.Combine a m b n g) =
    as_line (slice_get earlier a) >>? (λ s. as_line (slice_get earlier b) >>? (λ t. combined_line m n g s t))
proved_by p earlier (step.Fail a) = as_line (slice_get earlier a) >>? (λ line. failed_box p line)
proved_by p earlier (step.Cover field parts) = covered_box p earlier field parts
proved_by p earlier (step.Fix field part) = fixed_box p earlier field part

-- what the steps prove, each from all before it; or the place of the first that is invalid
abbrev pub proved_from : Premises → List Proved → List Step → Result (List Proved) ℕ
proved_from p earlier [] = Ok earlier
proved_from p earlier (step ∷ steps) = do
  proved ← ok_or (proved_by p earlier step) (length earlier)
  proved_from p (earlier ++ proved ∷ []) steps

-- the last one, and place 0 where there is none
abbrev pub last_from : Option Proved → List Proved → Result Proved ℕ
last_from None [] = Err 0
last_from (Some last) [] = Ok last
last_from before (proved ∷ later) = last_from (Some proved) later

-- the last of what was proved, or the place of the first invalid step
abbrev pub last_proved : Result (List Proved) ℕ → Result Proved ℕ
last_proved all_proved = all_proved >>= (λ all. last_from None all)

-- what the last of the steps proves, where all are valid; or the place of the first that is not, which is 0 where there are no steps
abbrev pub steps_result : Premises → List Step → Result Proved ℕ
steps_result p steps = last_proved (proved_from p [] steps)

-- all steps are valid, and the last one proves this
abbrev pub AreValidSteps : Premises → List Step → Proved → Type 0
AreValidSteps p steps proved = steps_result p steps ≡ Ok proved

-- the step at this place is the first that is not valid; the place is 0 where there are no steps
abbrev pub IsFirstInvalid : Premises → List Step → ℕ → Type 0
IsFirstInvalid p steps place = steps_result p steps ≡ Err place
