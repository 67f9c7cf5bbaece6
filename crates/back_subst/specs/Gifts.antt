use Rattle.std.specs.Prelude.{◌≡◌, ◌≢◌, ◌⊎◌, ◌<◌, ◌≤◌, ℕ, ◌^◌, ◌*ℤ◌, ◌==◌, Bool, true, false, List, [], Option, Some, None}
use Rattle.std.specs.Prelude.{IfSome, if◌then◌else◌, length, map, take}
use Rattle.std.specs.List.{filter}
use Rattle.std.specs.Ordering.{int_eq}
use Rattle.edit_model.specs.Corrections.{Differs, IsCorrection, IsLeastWeight, path_order}
use Rattle.edit_model.specs.FieldSets.{has_number}
use Rattle.edit_model.specs.Parts.{SurveyParts}
use Rattle.edit_model.specs.Points.{Point}
use Rattle.edit_model.specs.RowPoints.{Agrees, code_in}
use Rattle.edit_model.specs.Rows.{IsRow, value_of}
use Rattle.edit_model.specs.declared.field.Field.{Field}
use Rattle.edit_model.specs.declared.value.Value.{Value}
use Rattle.edit_model.specs.declared.value.Value.TheVariants.{Bad, Code, Number}
use Rattle.edit_line.specs.EditSets.{EditsParts}
use Rattle.edit_line.specs.Lines.{AllHold}
use Rattle.edit_line.specs.Shapes.{shape_of}
use Rattle.bound_cert.specs.Paths.{path_weight}
use Rattle.edit_paths.specs.Cases.{SearchCase, Meets, case_of, edit_lines}
use Rattle.edit_paths.specs.States.{IsOpen}
use Rattle.edit_paths.specs.Works.{work_of}
use Rattle.back_subst.specs.Allowed.{Completes}
use Rattle.back_subst.specs.Given.{number_in, target_of}
use Rattle.back_subst.specs.declared.gift.How.{How}
use Rattle.back_subst.specs.declared.gift.How.TheVariants.{Default, Donor, Nearest}

-- whether the value is the target; where there is none, 0 and the first code stand for it
abbrev pub is_target : Value → Value → Bool
is_target target (Code c) = code_in target == c
is_target target (Number x) = int_eq ((number_in target).numerator *ℤ x.denominator) (x.numerator *ℤ (number_in target).denominator)
is_target target Bad = false

-- a target that was taken: the donor's value, or the default one
abbrev pub taken_from : Option (List Value) → How
taken_from (Some donor) = Donor
taken_from None = Default

-- how the value at a field was found
abbrev pub how_of : Option (List Value) → ℕ → Value → How
how_of donor f v = if is_target (target_of donor f) v then taken_from donor else Nearest

-- the changed fields in path order
abbrev pub changed_fields : SurveyParts → ℕ → List ℕ
changed_fields survey changed = filter (has_number changed) (path_order survey.fields)

-- how the value at each changed field was found, in path order
abbrev pub hows_of : SurveyParts → ℕ → Option (List Value) → List Value → List How
hows_of survey changed donor new = map (λ f. how_of donor f (value_of new f)) (changed_fields survey changed)

-- the donor, if there is one, is a record of the survey with a value at each field
abbrev pub IsDonorRecord : SurveyParts → Option (List Value) → Type 0
IsDonorRecord survey donor = IfSome donor (λ row. IsRow survey.fields row × ((f : ℕ) → f < length row → value_of row f ≢ Bad))

-- the path that says something of all fields, and changes those of the set
abbrev pub path_of : List Field → ℕ → List Bool
path_of fields changed = map (has_number changed) (path_order fields)

-- the set weighs no more than any correction does, or the record has no value at any of its fields
abbrev pub IsNeeded : SurveyParts → List Value → ℕ → Type 0
IsNeeded survey row changed =
    IsLeastWeight survey row (path_weight survey.fields (path_of survey.fields changed))
    ⊎ ((f : ℕ) → f < length row → has_number changed f ≡ true → value_of row f ≡ Bad)

-- each correction that has the new record's values differs from the record at all fields of the set
abbrev pub DiffersThroughout : SurveyParts → List Value → ℕ → List Value → Type 0
DiffersThroughout survey row changed new =
    (p : Point) (f : ℕ) → Completes survey new [] p → has_number changed f ≡ true → Differs row p f

-- the point has the record's values at all fields outside the set
abbrev pub AgreesOutside : List Value → ℕ → Point → Type 0
AgreesOutside row changed p = (f : ℕ) → f < length row → has_number changed f ≡ false → Agrees row p f

-- the work of each path that this path extends, and its own, is less than 2^64
abbrev pub IsCheap : SearchCase → List Bool → Type 0
IsCheap c path = (k : ℕ) → k ≤ length path → work_of c (take k path) < 2 ^ 64

-- what is asked of a record and of its changed fields before values are given: the path that changes just these is open,
-- and its work can be counted; every rule follows from the edits, and each edit holds at each correction that has the
-- record's values at the other fields
pub record CanGive (survey : SurveyParts) (edits : EditsParts) (row : List Value) (changed : ℕ) : Type 0 where
  pub is_row : IsRow survey.fields row
  pub shape : edits.shape ≡ shape_of survey.fields
  pub path : IsOpen (case_of survey edits row) (path_of survey.fields changed)
  pub sound : (p : Point) → Meets (case_of survey edits row) p → IsCorrection survey p
  pub complete : (p : Point) → IsCorrection survey p → AgreesOutside row changed p → AllHold (edit_lines (case_of survey edits row)) p
  pub few : IsCheap (case_of survey edits row) (path_of survey.fields changed)
