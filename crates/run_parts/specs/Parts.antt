-- What the parts of a run do.
use Rattle.std.specs.Prelude.{◌≡◌, ◌⊎◌, ⊤, ℕ, List, ◌++◌, Option, Result, Some, Ok, Err, Vec, map}
use Rattle.std.specs.declared.alloc.Global.{Global}
use Rattle.std.specs.Borrow.{MutBor}
use denote.Triple.Both.{Both}
use Rattle.edit_desk.specs.Desk.{Asked, Files, Told, raised, stored}
use Rattle.edit_desk.specs.declared.printer.Printer as printer
use Rattle.edit_model.specs.declared.field.Field.{Field}
use Rattle.record_text.specs.declared.fault.SheetFault.{SheetFault}
use Rattle.run_parts.specs.Faults.{fault_status, records_fault_of}
use Rattle.run_parts.specs.Readings.{AreNoRecords, AreNoRules, HoldsLonger, HoldsText}
use Rattle.run_parts.specs.Run.{AreCallsTo, AreCutShort, AreStored, LeavesOf, bytes_of_lines, faults_by}
use Rattle.run_parts.specs.declared.fault.Fault.{Fault}
use Rattle.run_parts.specs.declared.fault.Fault.TheVariants as fault
use Rattle.run_parts.specs.declared.fault.RecordsFault.{RecordsFault}
use Rattle.run_parts.specs.declared.status.Status.{Status}
use Rattle.run_parts.specs.declared.status.Status.TheVariants as status
use Rattle.run_parts.specs.Limits.{most_bytes}

-- the count of faults after a part of a run
abbrev pub faults_after : {A : Type 0} → Result A Fault → ℕ → ℕ
faults_after (Ok done) faults = faults
faults_after (Err fault) faults = faults_by fault faults

-- what a part asks of the desk: all its calls, or those up to its fault
abbrev pub AreCallsOf : {A : Type 0} → List Asked → Result A Fault → List Asked → Type 0
AreCallsOf order (Ok done) calls = calls ≡ order
AreCallsOf order (Err fault) calls = AreCallsTo order fault calls

-- the status of a command that did all on the desk, or was refused
abbrev pub done_end : {A : Type 0} → Result A Fault → Status
done_end (Ok done) = status.Done
done_end (Err fault) = fault_status fault

-- ---- one fetch, and the reading of what it gave

-- a refusal that the fetch of a file may end with
abbrev pub IsOfFetch : List ℕ → Fault → Type 0
IsOfFetch name (fault.Read n) = n ≡ name
IsOfFetch name (fault.TooLong n) = n ≡ name
IsOfFetch name fault.OutOfMemory = ⊤
IsOfFetch name fault = ⊥

-- a refusal that the fetch of the rules, and their reading, may end with
abbrev pub IsOfRules : List ℕ → Fault → Type 0
IsOfRules name (fault.Rules line kind) = ⊤
IsOfRules name fault = IsOfFetch name fault

-- a refusal that the fetch of the records, and their reading, may end with
abbrev pub IsOfRecords : List ℕ → Fault → Type 0
IsOfRecords name (fault.Records what) = ⊤
IsOfRecords name fault = IsOfFetch name fault

-- a refusal that the fetch of the file of the last period, and its reading, may end with
abbrev pub IsOfLast : List ℕ → Fault → Type 0
IsOfLast name (fault.Last what) = ⊤
IsOfLast name fault = IsOfFetch name fault

-- why the fetch of a file is refused: it is too long; or it could not be read, or memory was refused, of which a file tells nothing
abbrev pub RefusesLong : ℕ → Option Files → Fault → Type 0
RefusesLong most files (fault.TooLong name) = HoldsLonger files name most
RefusesLong most files (fault.Read name) = ⊤
RefusesLong most files fault.OutOfMemory = ⊤
RefusesLong most files fault = ⊥

-- why a file of rules is refused: it holds no rules, or is too long
abbrev pub RefusesRules : List ℕ → Option Files → Fault → Type 0
RefusesRules name files (fault.Rules line kind) = HoldsText files name (AreNoRules line kind)
RefusesRules name files fault = RefusesLong most_bytes files fault

-- why a file of records is refused: it holds no records of these fields, or is too long
abbrev pub RefusesRecords : List ℕ → List Field → Option Files → Fault → Type 0
RefusesRecords name fields files (fault.Records what) = HoldsText files name (AreNoRecords fields what)
RefusesRecords name fields files fault = RefusesLong most_bytes files fault

-- why a file of the last period is refused: it holds no records of these fields, or is too long
abbrev pub RefusesLast : List ℕ → List Field → Option Files → Fault → Type 0
RefusesLast name fields files (fault.Last what) = HoldsText files name (AreNoRecords fields what)
RefusesLast name fields files fault = RefusesLong most_bytes files fault

-- what is said to be wrong with records of these fields is wrong with the file of this name
abbrev pub TellsUnread : List ℕ → List Field → Option Files → SheetFault → Type 0
TellsUnread name fields files fault =
    (what : RecordsFault) → records_fault_of fields fault ≡ Some what → HoldsText files name (AreNoRecords fields what)

-- ---- the stores

-- what stores do to the files
abbrev pub StoresOf : {A : Type 0} → List (List ℕ × List ℕ) → Result A Fault → Files → Files → Type 0
StoresOf files (Ok done) before after = AreStored files before after
StoresOf files (Err fault) before after = LeavesOf files fault before after

-- the calls that store files
abbrev pub store_calls : List (List ℕ × List ℕ) → List Asked
store_calls files = map (λ file. stored file.0) files

-- ---- what is printed

-- the texts of lines
abbrev pub texts_in : List (Vec ℕ Global) → List (List ℕ)
texts_in lines = map (λ (line : Vec ℕ Global). line.items) lines

-- the lines were printed, and the run ends with its status; or one was not, and the run ends as if a file could not be written
abbrev pub IsTelling : Status → List (List ℕ) → Status → Option (List ℕ) → Option (List ℕ) → ℕ → ℕ → Type 0
IsTelling ended texts answer printed now failed failed_now =
    ((answer ≡ ended) × Told printed now (λ old new. new ≡ old ++ bytes_of_lines texts) × (failed_now ≡ failed))
    ⊎ ((answer ≡ status.WriteFault) × Told printed now (AreCutShort texts) × (failed_now ≡ raised failed))

-- this printer printed the lines, and the run ends with its status; or one was not printed, and the run ends as if a file
-- could not be written
abbrev pub PrintsAll : {P : Type 0} → printer.Ghosts P → Both (MutBor P) (MutBor P) → List (List ℕ) → Status → Status → Type 0
PrintsAll tells p texts ended answer =
    IsTelling ended texts answer (tells.printed p.entry.now) (tells.printed p.exit.now) (tells.faults p.entry.now) (tells.faults p.exit.now)
