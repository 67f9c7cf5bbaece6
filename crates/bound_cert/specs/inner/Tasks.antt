use Rattle.std.specs.Prelude.{◌≡◌, ℕ, zero, suc, Bool, true, List, [], ◌∷◌, Option, Some, None, length, ◌&&◌, if◌then◌else◌, nat_le}
use Rattle.edit_model.specs.Rows.{IsRow}
use Rattle.edit_line.specs.Lines.{AreOver}
use Rattle.edit_line.specs.Shapes.{shape_of}
use Rattle.derivation.specs.Premises.{Premises, premises_of}
use Rattle.bound_cert.specs.Trees.{all_changed, may_stand}
use Rattle.bound_cert.specs.ValidTrees.{TreeCase, IsFaultBehind, IsValidLeaf, tree_case, invalid_step, is_right}
use Rattle.bound_cert.specs.declared.cert.Leaf.{Leaf}
use Rattle.bound_cert.specs.declared.cert.LeafWhy.{LeafWhy}
use Rattle.bound_cert.specs.declared.task.Task.{Task}
use Rattle.bound_cert.specs.declared.verdict.Verdict.{Verdict}
use Rattle.bound_cert.specs.declared.verdict.Verdict.TheVariants as verdict

-- The parts of the checker. Private contracts alone cite this page.

-- the case of the tree that the task is to check
abbrev pub case : Task → TreeCase
case task = tree_case task.survey.now task.given.now task.usable.now task.row.now task.weight

-- what steps may build on: the usable lines, and the record's values at these kept fields
abbrev pub premises_with : Task → ℕ → Premises
premises_with task kept = premises_of (shape_of task.survey.now.fields) task.given.now task.usable.now task.row.now kept

-- the parts of the task fit each other: a flag for each line, and lines and a record over the survey's fields
pub record IsTask (task : Task) : Type 0 where
  pub lists : length task.given.now ≡ length task.usable.now
  pub over : AreOver (shape_of task.survey.now.fields) task.given.now
  pub row : IsRow task.survey.now.fields task.row.now

-- the path of the leaf before the one at this place
abbrev pub path_before : List Leaf → ℕ → Option (List Bool)
path_before leaves zero = None
path_before [] (suc i) = None
path_before (leaf ∷ leaves) (suc zero) = Some leaf.path
path_before (leaf ∷ leaves) (suc (suc i)) = path_before leaves (suc i)

-- whether a path stands right behind the one before, and, if it is the last one, at the end; a path has no more letters than this
abbrev pub stands_right : Option (List Bool) → List Bool → Bool → ℕ → Bool
stands_right before path last most = may_stand before path && ((if last then all_changed path else true) && nat_le (length path) most)

-- the verdict is right of a leaf whose path is right: it is valid, or it is not, and the step is its first invalid one
abbrev pub SaysOf : TreeCase → List Bool → LeafWhy → Verdict → Type 0
SaysOf c path reason verdict.Valid = IsValidLeaf c path reason
SaysOf c path reason (verdict.Invalid step) = ¬ IsValidLeaf c path reason × (step ≡ invalid_step c path reason)

-- the verdict is right of a leaf that stands behind the path before, and before these later ones
abbrev pub SaysAt : TreeCase → Option (List Bool) → Leaf → List Leaf → Verdict → Type 0
SaysAt c before leaf later verdict.Valid = (is_right c before leaf.path later ≡ true) × IsValidLeaf c leaf.path leaf.why
SaysAt c before leaf later (verdict.Invalid step) = IsFaultBehind c before (leaf ∷ later) 0 step

-- the verdict is right of the leaf at place i, with which the last list begins
abbrev pub SaysOfPlace : TreeCase → List Leaf → ℕ → List Leaf → Verdict → Type 0
SaysOfPlace c leaves i [] says = ⊥
SaysOfPlace c leaves i (leaf ∷ later) says = SaysAt c (path_before leaves i) leaf later says
