-- Why the command `page` is refused.
use Rattle.std.specs.Prelude.{◌≡◌, ◌≢◌, ◌⊎◌, ⊤, ℕ, List, ◌++◌, codes, Option, Some, length}
use Rattle.std.specs.Fmt.{decimal}
use Rattle.edit_desk.specs.Desk.{Files, IsLonger}
use Rattle.edit_model.specs.declared.field.Field.{Field}
use Rattle.record_text.specs.Sheets.{IsSheet, SheetParts}
use Rattle.reason_lines.specs.Messages.{fault_text}
use Rattle.reason_lines.specs.ReasonFiles.{AreReasons, IsReasonFault}
use Rattle.reason_lines.specs.declared.fault.ReasonFault.{ReasonFault}
use Rattle.reason_lines.specs.declared.reading.Reasons.{Reasons}
use Rattle.command_words.specs.Asked.{PageAsked}
use Rattle.run_parts.specs.Faults.{records_fault_text}
use Rattle.run_parts.specs.Limits.{most_bytes}
use Rattle.run_parts.specs.Readings.{AreNoRecords, HoldsLonger, HoldsText, IsInputDue, IsInputFile, RefusesInput, WithSheet}
use Rattle.run_parts.specs.declared.fault.Fault.{Fault}
use Rattle.run_parts.specs.declared.fault.Fault.TheVariants as fault
use Rattle.run_parts.specs.declared.status.Status.{Status}
use Rattle.run_parts.specs.declared.status.Status.TheVariants as status
use Rattle.release_figures.specs.Releases.{ReleaseParts}
use Rattle.page_command.specs.PageSources.{HasItsRows, HoldsSources, WithReleased, kept_count}
use Rattle.page_command.specs.declared.page_fault.PageFault.{PageFault}
use Rattle.page_command.specs.declared.page_fault.PageFault.TheVariants.{Reasons as ReasonsFile, Released, Rows}

-- ---- what is told

-- the line that is printed of a released file or of reasons that do not fit the records, without its line feed
abbrev pub page_fault_text : PageFault → List ℕ
page_fault_text (Released what) = codes "fault: released " ++ records_fault_text what
page_fault_text (ReasonsFile what) = codes "fault: reasons " ++ fault_text what
page_fault_text (Rows given kept) = codes "fault: released rows " ++ (decimal given ++ (codes " of " ++ decimal kept))

-- how many calls are made up to a fault: the rules, the records and the released file are fetched, and then the reasons
abbrev pub calls_to : PageFault → ℕ
calls_to (Released what) = 3
calls_to (ReasonsFile what) = 4
calls_to (Rows given kept) = 4

-- ---- refusals

-- the bytes are no reasons for so many records of these fields: they read as none, and this is their first fault
pub record AreNoReasons (fields : List Field) (rows : ℕ) (what : ReasonFault) (bytes : List ℕ) : Type 0 where
  pub unread : (reasons : Reasons) → ¬ AreReasons fields rows bytes reasons
  pub first : IsReasonFault fields rows bytes what

-- the released file or the reasons do not fit the records: either has no reading, or the released file has another number of rows than
-- there are records that the reasons do not leave out
abbrev pub IsUnfit : PageAsked → Option Files → PageFault → Type 0
IsUnfit asked files (Released what) = WithSheet files asked.rules asked.records
    (λ survey records. HoldsText files asked.released (AreNoRecords survey.fields what))
IsUnfit asked files (ReasonsFile what) = WithReleased files asked
    (λ survey records released. HoldsText files asked.reasons (AreNoReasons survey.fields (length records.rows) what))
IsUnfit asked files (Rows given kept) = (sources : ReleaseParts) × HoldsSources files asked sources
    × (given ≡ length sources.released.rows) × (kept ≡ kept_count sources) × (given ≢ kept)

-- the file of this name is fetched where these are: it is the rules or the records; or the released file, and the records were read; or
-- the reasons, and the released file was read
abbrev pub IsPageFile : PageAsked → Option Files → List ℕ → Type 0
IsPageFile asked files name =
    IsInputFile asked.rules asked.records files name
    ⊎ (((name ≡ asked.released) × WithSheet files asked.rules asked.records (λ survey records. ⊤))
    ⊎ ((name ≡ asked.reasons) × WithReleased files asked (λ survey records released. ⊤)))

-- why the files are refused as any command's: the rules or the records have no reading, or a file is too long or could not be read
abbrev pub RefusesPage : PageAsked → Option Files → Fault → Type 0
RefusesPage asked files (fault.TooLong name) = IsPageFile asked files name × HoldsLonger files name most_bytes
RefusesPage asked files (fault.Read name) = IsPageFile asked files name
RefusesPage asked files f = RefusesInput asked.rules asked.records files f

-- ---- what is due

-- a file is to be refused with this status: it is too long, or its bytes do not fit
abbrev pub IsFileDue : Files → List ℕ → (List ℕ → Type 0) → Status → Type 0
IsFileDue files name IsNone status.TooLong = IsLonger files name most_bytes
IsFileDue files name IsNone status.Rejected = HoldsText (Some files) name IsNone
IsFileDue files name IsNone answer = ⊥

-- the released file is to be refused with this status, where the rules and the records were read
abbrev pub IsReleasedDue : PageAsked → Files → Status → Type 0
IsReleasedDue asked files answer = WithSheet (Some files) asked.rules asked.records (λ survey records.
    IsFileDue files asked.released (λ bytes. (sheet : SheetParts) → ¬ IsSheet survey.fields bytes sheet) answer)

-- the reasons are to be refused with this status, where the released file was read
abbrev pub IsReasonsDue : PageAsked → Files → Status → Type 0
IsReasonsDue asked files answer = WithReleased (Some files) asked (λ survey records released.
    IsFileDue files asked.reasons (λ bytes. (reasons : Reasons) → ¬ AreReasons survey.fields (length records.rows) bytes reasons) answer)

-- the released file has another number of rows than there are records that the reasons do not leave out
abbrev pub IsRowsDue : PageAsked → Files → Status → Type 0
IsRowsDue asked files answer =
    (answer ≡ status.Rejected) × (sources : ReleaseParts) × HoldsSources (Some files) asked sources × ¬ HasItsRows sources

-- the four files are to be refused with this status
abbrev pub IsPageDue : PageAsked → Files → Status → Type 0
IsPageDue asked files answer =
    IsInputDue asked.rules asked.records files answer
    ⊎ (IsReleasedDue asked files answer ⊎ (IsReasonsDue asked files answer ⊎ IsRowsDue asked files answer))
