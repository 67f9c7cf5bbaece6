-- Why one file of rows is refused that are joined by a key.
use Rattle.std.specs.Prelude.{ℕ, List, Option}
use Rattle.edit_desk.specs.Desk.{Files}
use Rattle.edit_model.specs.declared.field.Field.{Field}
use Rattle.run_parts.specs.Limits.{most_bytes}
use Rattle.run_parts.specs.Parts.{RefusesLong}
use Rattle.run_parts.specs.declared.fault.Fault.{Fault}
use Rattle.run_parts.specs.declared.fault.Fault.TheVariants as fault
use Rattle.panel_command.specs.PanelInput.{RefusesRows}

-- why a file of records is refused: it holds no rows of these fields with this key, or is too long
abbrev pub RefusesOwnRows : List ℕ → List Field → List ℕ → Option Files → Fault → Type 0
RefusesOwnRows name fields key files (fault.Records what) = RefusesRows files name fields key what
RefusesOwnRows name fields key files f = RefusesLong most_bytes files f

-- why a file of the last period is refused: it holds no rows of these fields with this key, or is too long
abbrev pub RefusesLastRows : List ℕ → List Field → List ℕ → Option Files → Fault → Type 0
RefusesLastRows name fields key files (fault.Last what) = RefusesRows files name fields key what
RefusesLastRows name fields key files f = RefusesLong most_bytes files f
