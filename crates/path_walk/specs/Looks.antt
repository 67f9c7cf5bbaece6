-- What a look into a path tells.
use Rattle.std.specs.Prelude.{◌≡◌, ◌≤◌, ℕ, Bool, true, List, Option, IfSome}
use Rattle.edit_paths.specs.Cases.{SearchCase}
use Rattle.edit_paths.specs.States.{state_of}
use Rattle.edit_paths.specs.Works.{work_of}
use Rattle.edit_paths.specs.declared.state.PathState.TheVariants.{Open}
use Rattle.path_walk.specs.Bases.{IsBasis, has_basis}
use Rattle.path_walk.specs.KeptFields.{KeepsChanged}
use Rattle.path_walk.specs.declared.looks.Look.{Look}

-- the work and the state of the path, and its basis where one is made
pub record IsLook (c : SearchCase) (path : List Bool) (look : Look) : Type 0 where
  pub work : look.work ≡ work_of c path
  pub state : look.state ≡ state_of c path
  pub basis : has_basis look.state ≡ true → IsBasis c path look.basis

-- the look, if there is one, is right, and its work no more than may be done
abbrev pub TellsLook : SearchCase → List Bool → ℕ → Option Look → Type 0
TellsLook c path most told = IfSome told (λ (look : Look). IsLook c path look × (look.work ≤ most))

-- where the path is open, the source keeps the system of the numerical fields that it changes
abbrev pub KeepsOpen : (ℕ → Bool) → SearchCase → List Bool → Option Look → Type 0
KeepsOpen keeps c path told = IfSome told (λ (look : Look). look.state ≡ Open → KeepsChanged keeps c path)
