-- What the parts of the command `page` do, and how each may be refused.
use Rattle.std.specs.Prelude.{◌≡◌, ◌≢◌, ⊤, ℕ, List, [], ◌∷◌, Option, Some, Result, Ok, Err, length, take}
use Rattle.edit_desk.specs.Desk.{Asked, Files, fetched}
use Rattle.edit_model.specs.declared.field.Field.{Field}
use Rattle.record_text.specs.declared.fault.SheetFault.{SheetFault}
use Rattle.reason_lines.specs.declared.fault.ReasonFault.{ReasonFault}
use Rattle.reason_lines.specs.declared.fault.ReasonFault.TheVariants as reason
use Rattle.command_words.specs.Asked.{PageAsked}
use Rattle.run_parts.specs.Commands.{AreWritten, Leaves, Made}
use Rattle.run_parts.specs.Faults.{IsOfEdit, IsOfInput, fault_status, fault_text, records_fault_of}
use Rattle.run_parts.specs.Limits.{most_bytes}
use Rattle.run_parts.specs.Parts.{IsOfFetch, RefusesLong}
use Rattle.run_parts.specs.Readings.{AreNoRecords, HoldsText}
use Rattle.run_parts.specs.Run.{AreCallsTo, faults_by}
use Rattle.run_parts.specs.declared.fault.Fault.TheVariants as fault
use Rattle.run_parts.specs.declared.status.Status.{Status}
use Rattle.run_parts.specs.declared.status.Status.TheVariants as status
use Rattle.page_command.specs.PageFaults.{AreNoReasons, IsUnfit, RefusesPage, calls_to, page_fault_text}
use Rattle.page_command.specs.PageRun.{IsPageMade, page_calls, page_command}
use Rattle.release_figures.specs.Releases.{ReleaseParts}
use Rattle.page_command.specs.PageSources.{kept_count}
use Rattle.page_command.specs.declared.page_fault.PageFault.{PageFault}
use Rattle.page_command.specs.declared.page_fault.PageFault.TheVariants.{Reasons, Released, Rows}
use Rattle.page_command.specs.declared.page_run.PageFile.{PageFile}
use Rattle.page_command.specs.declared.refusal.PageRefusal.{PageRefusal}
use Rattle.page_command.specs.declared.refusal.PageRefusal.TheVariants.{Shared, Unfit}

-- ---- a refusal

-- the status of a run that is refused so
abbrev pub refusal_status : PageRefusal → Status
refusal_status (Shared f) = fault_status f
refusal_status (Unfit what) = status.Rejected

-- the line that is printed of a refusal
abbrev pub refusal_text : PageRefusal → List ℕ
refusal_text (Shared f) = fault_text f
refusal_text (Unfit what) = page_fault_text what

-- a refusal that other commands share is for a fault of files that are fetched and read
abbrev pub IsOfRead : PageRefusal → Type 0
IsOfRead (Shared f) = IsOfInput f
IsOfRead (Unfit what) = ⊤

-- a refusal that other commands share is for a fault of a command that fetches, reads and stores files
abbrev pub IsOfPage : PageRefusal → Type 0
IsOfPage (Shared f) = IsOfEdit f
IsOfPage (Unfit what) = ⊤

-- why the files are refused
abbrev pub Refuses : PageAsked → Option Files → PageRefusal → Type 0
Refuses asked files (Shared f) = RefusesPage asked files f
Refuses asked files (Unfit what) = IsUnfit asked files what

-- these are the calls of the command up to a refusal
abbrev pub AreCallsBefore : PageAsked → PageRefusal → List Asked → Type 0
AreCallsBefore asked (Shared f) calls = AreCallsTo (page_calls asked) f calls
AreCallsBefore asked (Unfit what) calls = calls ≡ take (calls_to what) (page_calls asked)

-- the count of the desk's faults after a refusal
abbrev pub faults_past : PageRefusal → ℕ → ℕ
faults_past (Shared f) faults = faults_by f faults
faults_past (Unfit what) faults = faults

-- ---- parts of the command

-- the count of faults after a part of the command
abbrev pub faults_behind : {A : Type 0} → Result A PageRefusal → ℕ → ℕ
faults_behind (Ok done) faults = faults
faults_behind (Err refusal) faults = faults_past refusal faults

-- memory was refused
abbrev pub out_of_memory : PageRefusal
out_of_memory = Shared fault.OutOfMemory

-- one file is refused: its fetch is, or what is said of its bytes is so
abbrev pub RefusesFile : List ℕ → Option Files → (PageFault → List ℕ → Type 0) → PageRefusal → Type 0
RefusesFile name files Says (Shared f) = IsOfFetch name f × RefusesLong most_bytes files f
RefusesFile name files Says (Unfit what) = HoldsText files name (Says what)

-- these are the calls for one file up to its refusal: the one fetch
abbrev pub AreFileCallsTo : List ℕ → PageRefusal → List Asked → Type 0
AreFileCallsTo name (Shared f) calls = AreCallsTo (fetched name ∷ []) f calls
AreFileCallsTo name (Unfit what) calls = calls ≡ fetched name ∷ []

-- the calls of the fetch of one file, and of its reading
abbrev pub AreFileCalls : {A : Type 0} → List ℕ → Result A PageRefusal → List Asked → Type 0
AreFileCalls name (Ok read) calls = calls ≡ fetched name ∷ []
AreFileCalls name (Err refusal) calls = AreFileCallsTo name refusal calls

-- the bytes are no released records of these fields
abbrev pub AreNoReleased : List Field → PageFault → List ℕ → Type 0
AreNoReleased fields (Released what) bytes = AreNoRecords fields what bytes
AreNoReleased fields what bytes = ⊥

-- the bytes are no reasons for so many records of these fields
abbrev pub AreNoReasonLines : List Field → ℕ → PageFault → List ℕ → Type 0
AreNoReasonLines fields rows (Reasons what) bytes = AreNoReasons fields rows what bytes
AreNoReasonLines fields rows what bytes = ⊥

-- what the reading of a released file answered is told of it, or memory was refused
abbrev pub TellsReleased : List Field → SheetFault → PageRefusal → Type 0
TellsReleased fields found (Shared f) = f ≡ fault.OutOfMemory
TellsReleased fields found (Unfit (Released what)) = records_fault_of fields found ≡ Some what
TellsReleased fields found (Unfit what) = ⊥

-- the first fault of the reasons is told of them, or memory was refused
abbrev pub TellsReasons : ReasonFault → PageRefusal → Type 0
TellsReasons found (Shared f) = f ≡ fault.OutOfMemory
TellsReasons found (Unfit (Reasons what)) = (found ≡ what) × (what ≢ reason.OutOfMemory)
TellsReasons found (Unfit what) = ⊥

-- the released file has other rows than the records that were not left out, or memory was refused
abbrev pub RefusesRows : ReleaseParts → PageRefusal → Type 0
RefusesRows sources (Shared f) = f ≡ fault.OutOfMemory
RefusesRows sources (Unfit (Rows given kept)) = (given ≡ length sources.released.rows) × (kept ≡ kept_count sources) × (given ≢ kept)
RefusesRows sources (Unfit what) = ⊥

-- the calls by which the four files are read, or those up to a refusal
abbrev pub AreReadCalls : {A : Type 0} → PageAsked → Result A PageRefusal → List Asked → Type 0
AreReadCalls asked (Ok sources) calls = calls ≡ take 4 (page_calls asked)
AreReadCalls asked (Err refusal) calls = AreCallsBefore asked refusal calls

-- ---- the command

-- this is made of a page with its line
abbrev pub made_by : PageAsked → PageFile → Made
made_by asked file =
    record { status = status.Done; files = (asked.page, file.page.items) ∷ []; lines = file.line.items ∷ [] }

-- what the command leaves of the files
abbrev pub PageEnds : PageAsked → Result PageFile PageRefusal → Files → Files → Type 0
PageEnds asked (Ok file) before after = IsPageMade asked before (made_by asked file) × AreWritten (made_by asked file).files before after
PageEnds asked (Err (Shared f)) before after = Leaves (page_command asked) f before after
PageEnds asked (Err (Unfit what)) before after = after ≡ before

-- the calls of the command, or those up to a refusal
abbrev pub ArePageCalls : {A : Type 0} → PageAsked → Result A PageRefusal → List Asked → Type 0
ArePageCalls asked (Ok file) calls = calls ≡ page_calls asked
ArePageCalls asked (Err refusal) calls = AreCallsBefore asked refusal calls

-- the status of the command
abbrev pub page_end : {A : Type 0} → Result A PageRefusal → Status
page_end (Ok file) = status.Done
page_end (Err refusal) = refusal_status refusal
