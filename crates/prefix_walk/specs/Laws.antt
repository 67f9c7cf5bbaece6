use Rattle.std.specs.Prelude.{◌≡◌, ◌≤◌, ℕ, Bool, true, List, length, take}
use Rattle.edit_model.specs.Points.{Point}
use Rattle.edit_line.specs.Lines.{LineParts}
use Rattle.edit_line.specs.Shapes.{shape_of}
use Rattle.derivation.specs.Premises.{premises_of}
use Rattle.derivation.specs.ValidSteps.{AreValidSteps}
use Rattle.derivation.specs.declared.proved.Proved.{Proved}
use Rattle.derivation.specs.declared.step.Step.{Step}
use Rattle.bound_cert.specs.Paths.{keeps_bad, kept_set}
use Rattle.bound_cert.specs.ValidTrees.{Refutes}
use Rattle.edit_paths.specs.Cases.{AreUsableAmong, IsCase, Meets, SearchCase}
use Rattle.edit_paths.specs.Paths.{AgreesAlong, field_count}
use Rattle.edit_paths.specs.States.{IsOpen}
use Rattle.edit_paths.specs.Works.{work_of}
use Rattle.prefix_walk.specs.PathWalks.{walk_along}
use Rattle.prefix_walk.specs.declared.walk_end.WalkEnd.TheVariants as walk

-- where a walk ends in a closed path, no point at which the edits hold has the record's values at all fields that the path keeps
abbrev pub ClosedWalkLaw : Type 0
ClosedWalkLaw =
    (c : SearchCase) (path : List Bool) (budget spent work : ℕ) (steps : List Step)
    → IsCase c → walk_along c path budget spent ≡ walk.Closed steps work → (p : Point) → Meets c p → ¬ AgreesAlong c path p

-- where a walk along a path of all fields finds it open, some point at which the edits hold has the record's values at all that it keeps
abbrev pub OpenWalkLaw : Type 0
OpenWalkLaw =
    (c : SearchCase) (path : List Bool) (budget spent work : ℕ)
    → IsCase c → length path ≡ field_count c → walk_along c path budget spent ≡ walk.Open work
    → (p : Point) × Meets c p × AgreesAlong c path p

-- a path that a walk finds open is open, and the work of each path that it extends is within the budget
abbrev pub OpenEndLaw : Type 0
OpenEndLaw =
    (c : SearchCase) (path : List Bool) (budget spent work : ℕ)
    → walk_along c path budget spent ≡ walk.Open work
    → IsOpen c path × (work ≤ budget) × ((k : ℕ) → k ≤ length path → work_of c (take k path) ≤ budget)

-- what the steps of a closed walk prove refutes all points that keep what the path keeps, where it keeps no field without a value
abbrev pub ClosingStepsLaw : Type 0
ClosingStepsLaw =
    (c : SearchCase) (path : List Bool) (budget spent work : ℕ) (steps : List Step)
    → IsCase c → length path ≡ field_count c → (keeps_bad c.survey.fields c.row path ≡ true → ⊥)
    → walk_along c path budget spent ≡ walk.Closed steps work
    → (given : List LineParts) (usable : List Bool) → AreUsableAmong given usable c.edits
    → (proved : Proved)
    × AreValidSteps (premises_of (shape_of c.survey.fields) given usable c.row (kept_set c.survey.fields c.row path)) steps proved
    × Refutes (premises_of (shape_of c.survey.fields) given usable c.row (kept_set c.survey.fields c.row path)) proved
