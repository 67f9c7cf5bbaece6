use Rattle.std.specs.Prelude.{◌≡◌, ℕ, ◌+◌, List, [], ◌∷◌, Result, Ok, Err, IsTrue}
use Rattle.std.specs.List.{filter, fold}
use Rattle.foundation.specs.Results.{◌>>=◌, fault_as}
use Rattle.edit_model.specs.FieldSets.{has_number}
use Rattle.edit_line.specs.EditSets.{EditsParts, base_lines}
use Rattle.edit_line.specs.Lines.{LineParts}
use Rattle.edit_line.specs.Reductions.{reduce, reduce_derived}
use Rattle.edit_line.specs.Shapes.{Domain, IsNumerical, number_fields}
use Rattle.edit_line.specs.declared.derived.Derived.{Derived}
use Rattle.linear_elim.specs.Steps.{StepOverflow, pairs_count, step, step_result}

-- ---- the fold over lines alone

-- the fold of the step over the fields, from the reduced lines
abbrev pub system : List LineParts → List ℕ → List LineParts
system lines fields = fold step (reduce lines) fields

-- ---- the fold as one value

-- the field at which the fold stopped, and the pair and place there
pub record SystemOverflow : Type 0 where
  pub field : ℕ
  pub step : StepOverflow

-- the step at this field overflows so
abbrev pub overflow_at : ℕ → StepOverflow → SystemOverflow
overflow_at f overflow = record { field = f; step = overflow }

-- the steps at the fields, one after the other, or the first overflow with its field
abbrev pub fold_result : List Derived → List ℕ → Result (List Derived) SystemOverflow
fold_result lines [] = Ok lines
fold_result lines (f ∷ fields) = do
  next ← fault_as (overflow_at f) (step_result lines f)
  fold_result next fields

-- the derived system of the edits without these fields: the fold of the step over them, from the reduced edits
abbrev pub system_of : List (ℕ × LineParts) → List ℕ → Result (List Derived) SystemOverflow
system_of edits fields = fold_result (reduce_derived (base_lines edits)) fields

-- ---- how many pairs are combined

-- a count over the step's lines, where it has any
abbrev pub count_after : Result (List Derived) StepOverflow → (List Derived → ℕ) → ℕ
count_after (Ok lines) count = count lines
count_after (Err fault) count = 0

-- the number of pairs of all steps of the fold, as far as it comes
abbrev pub fold_count : List Derived → List ℕ → ℕ
fold_count lines [] = 0
fold_count lines (f ∷ fields) = pairs_count lines f + count_after (step_result lines f) (λ next. fold_count next fields)

-- the number of pairs that the system of these fields combines
abbrev pub system_count : List (ℕ × LineParts) → List ℕ → ℕ
system_count edits fields = fold_count (reduce_derived (base_lines edits)) fields

-- ---- a system with its edits and fields

-- the fields of a set, as bits, that are numerical, in declared order
abbrev pub chosen_fields : List Domain → ℕ → List ℕ
chosen_fields shape bits = filter (has_number bits) (number_fields shape)

-- the set has numerical fields alone
abbrev pub AreNumerical : List Domain → ℕ → Type 0
AreNumerical shape bits = (f : ℕ) → IsTrue (has_number bits f) → IsNumerical shape f

-- edits, a set of fields, as bits, and the lines of their system, with origins
pub record SystemParts : Type 0 where
  pub edits : EditsParts
  pub fields : ℕ
  pub lines : List Derived

-- what the edits give without the fields of the set
abbrev pub system_at : EditsParts → ℕ → Result (List Derived) SystemOverflow
system_at edits bits = system_of edits.lines (chosen_fields edits.shape bits)

-- the number of pairs that the system of the edits without the fields of the set combines
abbrev pub pairs_at : EditsParts → ℕ → ℕ
pairs_at edits bits = system_count edits.lines (chosen_fields edits.shape bits)

-- the lines are the system of the edits without the fields
pub record IsSystem (system : SystemParts) : Type 0 where
  pub numerical : AreNumerical system.edits.shape system.fields
  pub lines_are : system_at system.edits system.fields ≡ Ok system.lines
