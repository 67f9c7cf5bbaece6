-- What the parts of a command leave, and with which status.
use Rattle.std.specs.Prelude.{Result, Ok, Err}
use Rattle.edit_desk.specs.Desk.{Files}
use Rattle.run_parts.specs.Commands.{AreWritten, Command, Leaves, Made}
use Rattle.run_parts.specs.Faults.{fault_status}
use Rattle.run_parts.specs.declared.fault.Fault.{Fault}
use Rattle.run_parts.specs.declared.status.Status.{Status}

-- what a command leaves of the files: what it found is made, or it is refused
abbrev pub CommandEnds : {A : Type 0} → Command → (A → Made) → Result A Fault → Files → Files → Type 0
CommandEnds command made (Ok found) before after = command.makes before (made found) × AreWritten (made found).files before after
CommandEnds command made (Err fault) before after = Leaves command fault before after

-- the status of a command that did all on the desk, or was refused
abbrev pub end_of : {A : Type 0} → (A → Made) → Result A Fault → Status
end_of made (Ok found) = (made found).status
end_of made (Err fault) = fault_status fault
