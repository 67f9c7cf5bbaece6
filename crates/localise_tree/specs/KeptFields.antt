use Rattle.std.specs.Prelude.{◌≡◌, ℕ, Bool, List}
use Rattle.bound_cert.specs.declared.cert.Cert.{Cert}
use Rattle.bound_cert.specs.declared.outcome.Outcome.{Outcome}
use Rattle.bound_cert.specs.declared.outcome.Outcome.TheVariants as outcome
use Rattle.edit_paths.specs.Cases.{SearchCase}
use Rattle.path_walk.specs.KeptFields.{KeepsChanged}

-- at a change, the source keeps the system of the numerical fields that are changed
abbrev pub KeepsChange : (ℕ → Bool) → SearchCase → Outcome → Type 0
KeepsChange keeps c o = (path : List Bool) (weight : ℕ) (cert : Cert) → o ≡ outcome.Change path weight cert → KeepsChanged keeps c path
