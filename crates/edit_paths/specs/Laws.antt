use Rattle.std.specs.Prelude.{◌≡◌, ◌↔◌, ◌≤◌, ℕ, Bool, List, [], ◌∷◌, length}
use Rattle.edit_model.specs.Corrections.{IsFirstLeast, IsLeastWeight}
use Rattle.edit_model.specs.Parts.{SurveyParts}
use Rattle.edit_model.specs.Points.{Point}
use Rattle.edit_model.specs.declared.value.Value.{Value}
use Rattle.edit_line.specs.EditSets.{EditsParts}
use Rattle.edit_line.specs.Reductions.{IsIn}
use Rattle.edit_line.specs.declared.place.Place.{Place}
use Rattle.bound_cert.specs.Paths.{path_weight}
use Rattle.bound_cert.specs.declared.outcome.Event.TheVariants as event
use Rattle.edit_paths.specs.Cases.{SearchCase, IsCase, Meets, TellCorrections, case_of}
use Rattle.edit_paths.specs.Choices.{IsChoice}
use Rattle.edit_paths.specs.Events.{IsStepOverflow, IsTestOverflow}
use Rattle.edit_paths.specs.Paths.{AgreesAlong, DiffersOnlyOn, field_count}
use Rattle.edit_paths.specs.ReachedPaths.{AreInOrder, IsReached, is_before, reached_paths}
use Rattle.edit_paths.specs.States.{StaysInRange, IsClosed, IsOpen, state_of}
use Rattle.edit_paths.specs.declared.state.PathState.TheVariants.{Overflows}
use Rattle.edit_paths.specs.Walks.{walk}

-- ---- paths

-- where a path is closed, no point at which the edits hold has the record's values at all fields that it keeps
abbrev pub ClosedPathLaw : Type 0
ClosedPathLaw = (c : SearchCase) (path : List Bool)
    → IsCase c → IsClosed c path → (p : Point) → Meets c p → ¬ AgreesAlong c path p

-- a path that says something of all fields, and for which no number leaves the range, is open exactly where
-- some point at which the edits hold differs from the record only at the fields that it changes
abbrev pub OpenPathLaw : Type 0
OpenPathLaw =
    (c : SearchCase) (path : List Bool) → IsCase c → length path ≡ field_count c → StaysInRange c path
    → IsOpen c path ↔ ((p : Point) × Meets c p × DiffersOnlyOn c path p)

-- the reached paths are just those, of at most as many fields as there are, of which all that they extend are open
abbrev pub ReachedLaw : Type 0
ReachedLaw = (c : SearchCase) (path : List Bool) → IsIn path (reached_paths c) ↔ ((length path ≤ field_count c) × IsReached c path)

-- the reached paths are in order: each comes before all later ones, by weight and then letter by letter
abbrev pub OrderLaw : Type 0
OrderLaw = (c : SearchCase) → AreInOrder (is_before c.survey.fields) (reached_paths c)

-- a best-first walk from the empty path on takes the reached paths in their order
abbrev pub WalkLaw : Type 0
WalkLaw = (c : SearchCase) → walk c (length (reached_paths c)) ([] ∷ []) ≡ reached_paths c

-- a reached path that overflows in a step of elimination does so at its last field, in the system of the path before
abbrev pub StepOverflowLaw : Type 0
StepOverflowLaw =
    (c : SearchCase) (path : List Bool) (first second : ℕ) (place : Place) → length path ≤ field_count c → IsReached c path
    → state_of c path ≡ Overflows (event.Step first second place) → IsStepOverflow c path first second place

-- a path that overflows in a test does so at this line of its system, at this field
abbrev pub TestOverflowLaw : Type 0
TestOverflowLaw = (c : SearchCase) (path : List Bool) (line field : ℕ)
    → state_of c path ≡ Overflows (event.Test line field) → IsTestOverflow c path line field

-- ---- outcomes

-- where the edits hold exactly at the consistent points, the choice has the least weight of all corrections, and is the first that has it
abbrev pub LeastLaw : Type 0
LeastLaw =
    (survey : SurveyParts) (edits : EditsParts) (row : List Value) (path : List Bool)
    → IsCase (case_of survey edits row) → TellCorrections survey edits row → IsChoice (case_of survey edits row) path
    → IsLeastWeight survey row (path_weight survey.fields path) × IsFirstLeast survey row path
