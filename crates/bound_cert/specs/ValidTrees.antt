use Rattle.std.specs.Prelude.{◌≡◌, ℕ, zero, suc, ◌≤◌, ◌&&◌, ◌⊎◌, Bool, true, false, List, [], ◌∷◌, Option, Some, None, Result, Err, IsSomeAnd, length, map, nat_le, IfSome, slice_get, ◌<◌}
use Rattle.std.specs.List.{AllByRecursion}
use Rattle.std.specs.Result.{result_err}
use Rattle.edit_model.specs.Corrections.{change_weight}
use Rattle.edit_model.specs.Parts.{SurveyParts}
use Rattle.edit_model.specs.Points.{HasCodesFrom, Point}
use Rattle.edit_model.specs.declared.value.Value.{Value}
use Rattle.edit_line.specs.Boxes.{BoxParts}
use Rattle.edit_line.specs.Lines.{AllHold, LineParts}
use Rattle.edit_line.specs.Shapes.{shape_of, whole_sets}
use Rattle.derivation.specs.Premises.{Premises, premises_of, usable_lines}
use Rattle.derivation.specs.ValidSteps.{AreValidSteps, fails_at_kept, steps_result}
use Rattle.derivation.specs.declared.proved.Proved.{Proved}
use Rattle.derivation.specs.declared.proved.Proved.TheVariants as proved
use Rattle.derivation.specs.declared.step.Step.{Step}
use Rattle.bound_cert.specs.Paths.{keeps_bad, kept_set, path_weight}
use Rattle.bound_cert.specs.Trees.{AreLeafPaths, may_end, may_stand}
use Rattle.bound_cert.specs.declared.cert.Leaf.{Leaf}
use Rattle.bound_cert.specs.declared.cert.LeafWhy.{LeafWhy}
use Rattle.bound_cert.specs.declared.cert.LeafWhy.TheVariants as why
use Rattle.bound_cert.specs.declared.fault.CertFault.{CertFault}
use Rattle.bound_cert.specs.declared.fault.CertFault.TheVariants.{Bad}

-- what a tree is about: lines over a survey's fields, of which the usable ones are taken to hold, a record, and the
-- weight that each change of it is said to have at least; without a weight there is said to be none
pub record TreeCase : Type 0 where
  pub survey : SurveyParts
  pub given : List LineParts
  pub usable : List Bool
  pub row : List Value
  pub weight : Option ℕ

-- the case of these parts
abbrev pub tree_case : SurveyParts → List LineParts → List Bool → List Value → Option ℕ → TreeCase
tree_case survey given usable row weight = record { survey = survey; given = given; usable = usable; row = row; weight = weight }

-- no correction is lighter: each point at which the usable lines hold changes the record by the weight at least;
-- without a weight, there is no such point
abbrev pub NoneIsLighter : TreeCase → Type 0
NoneIsLighter c = (p : Point)
    → HasCodesFrom 0 c.survey.fields p → AllHold (usable_lines c.given c.usable) p
    → IsSomeAnd c.weight (λ w. w ≤ change_weight c.survey c.row p)

-- ---- valid trees

-- what the steps of a leaf may build on: the usable lines, and the record's values at the fields that the path keeps
abbrev pub premises_at : TreeCase → List Bool → Premises
premises_at c path = premises_of (shape_of c.survey.fields) c.given c.usable c.row (kept_set c.survey.fields c.row path)

-- what was proved leaves no point that keeps what the path keeps: a line for all codes that fails at the kept
-- fields, or a box with all codes
abbrev pub Refutes : Premises → Proved → Type 0
Refutes p (proved.Line line) = (line.sets ≡ whole_sets p.shape) × (fails_at_kept p.row p.kept line ≡ true)
Refutes p (proved.Box code_box) = code_box.sets ≡ whole_sets p.shape

-- a leaf is valid: its path is heavy enough, or keeps a field at which the record has no value, or valid steps refute it
abbrev pub IsValidLeaf : TreeCase → List Bool → LeafWhy → Type 0
IsValidLeaf c path why.Bound = IsSomeAnd c.weight (λ w. w ≤ path_weight c.survey.fields path)
IsValidLeaf c path why.BadKept = keeps_bad c.survey.fields c.row path ≡ true
IsValidLeaf c path (why.Line steps) = (line : LineParts)
    × AreValidSteps (premises_at c path) steps (proved.Line line) × Refutes (premises_at c path) (proved.Line line)
IsValidLeaf c path (why.Box steps) = (code_box : BoxParts)
    × AreValidSteps (premises_at c path) steps (proved.Box code_box) × Refutes (premises_at c path) (proved.Box code_box)

-- the leaves are, in order, those of one full tree, none deeper than there are fields, and each is valid
pub record IsValidTree (c : TreeCase) (leaves : List Leaf) : Type 0 where
  pub full : AreLeafPaths (map (λ (leaf : Leaf). leaf.path) leaves)
  pub depth : AllByRecursion (λ (leaf : Leaf). length leaf.path ≤ length c.survey.fields) leaves
  pub each : AllByRecursion (λ (leaf : Leaf). IsValidLeaf c leaf.path leaf.why) leaves

-- ---- the first fault of a tree

-- whether the path of a leaf is right, behind the one before and before these
abbrev pub is_right : TreeCase → Option (List Bool) → List Bool → List Leaf → Bool
is_right c before path later = may_stand before path && (may_end path later && nat_le (length path) (length c.survey.fields))

-- the place of the first step that is not valid, if there is one
abbrev pub first_invalid : Premises → List Step → Option ℕ
first_invalid p [] = None
first_invalid p (step ∷ steps) = result_err (steps_result p (step ∷ steps))

-- the first step of a leaf that is not valid, if there is one
abbrev pub invalid_step : TreeCase → List Bool → LeafWhy → Option ℕ
invalid_step c path why.Bound = None
invalid_step c path why.BadKept = None
invalid_step c path (why.Line steps) = first_invalid (premises_at c path) steps
invalid_step c path (why.Box steps) = first_invalid (premises_at c path) steps

-- of the leaves behind the one before, that at the place is the first whose path is not right, or which is not
-- valid; then the step is its first invalid one, if there is one
abbrev pub IsFaultBehind : TreeCase → Option (List Bool) → List Leaf → ℕ → Option ℕ → Type 0
IsFaultBehind c before [] place step = ⊥
IsFaultBehind c before (leaf ∷ later) zero step =
    ((is_right c before leaf.path later ≡ false) × (step ≡ None)) ⊎
    ((is_right c before leaf.path later ≡ true) × ¬ IsValidLeaf c leaf.path leaf.why × (step ≡ invalid_step c leaf.path leaf.why))
IsFaultBehind c before (leaf ∷ later) (suc place) step =
    (is_right c before leaf.path later ≡ true) × IsValidLeaf c leaf.path leaf.why × IsFaultBehind c (Some leaf.path) later place step

-- the tree is at fault first at this leaf, and there at this step, if it is one; for no leaves, at leaf 0
abbrev pub IsFirstFault : TreeCase → List Leaf → ℕ → Option ℕ → Type 0
IsFirstFault c [] place step = (place ≡ 0) × (step ≡ None)
IsFirstFault c (leaf ∷ later) place step = IsFaultBehind c None (leaf ∷ later) place step

-- ---- what a fault names

-- the claim holds of the leaf at fault, and of the step there, if the call names one
abbrev pub IfBad : {A : Type 0} → Result A CertFault → (ℕ → Option ℕ → Type 0) → Type 0
IfBad result P = (leaf : ℕ) (step : Option ℕ) → result ≡ Err (Bad leaf step) → P leaf step

-- the steps of a leaf, none where it needs none
abbrev pub steps_in : LeafWhy → List Step
steps_in why.Bound = []
steps_in why.BadKept = []
steps_in (why.Line steps) = steps
steps_in (why.Box steps) = steps

-- the place is that of a leaf, and the step, if one is named, one of that leaf
abbrev pub IsNamedIn : List Leaf → ℕ → Option ℕ → Type 0
IsNamedIn leaves place step = IsSomeAnd (slice_get leaves place) (λ leaf. IfSome step (λ s. s < length (steps_in leaf.why)))

-- the place and the step are of these leaves; of no leaves the place is 0, and no step is named
abbrev pub IsNamed : List Leaf → ℕ → Option ℕ → Type 0
IsNamed leaves place step = ((leaves ≡ []) × (place ≡ 0) × (step ≡ None)) ⊎ IsNamedIn leaves place step
