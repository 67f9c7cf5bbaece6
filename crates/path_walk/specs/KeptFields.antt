use Rattle.std.specs.Prelude.{◌≡◌, ℕ, Bool, true, List}
use Rattle.edit_model.specs.FieldSets.{set_of}
use Rattle.edit_paths.specs.Cases.{SearchCase}
use Rattle.edit_paths.specs.Paths.{changed_numbers}

-- the source keeps the system of the numerical fields that the path changes
abbrev pub KeepsChanged : (ℕ → Bool) → SearchCase → List Bool → Type 0
KeepsChanged keeps c path = keeps (set_of (changed_numbers c path)) ≡ true
