-- What the files of a run are read as, and why they are refused.
use Rattle.std.specs.Prelude.{◌≡◌, ◌⊎◌, ⊤, ℕ, ◌≤◌, List, Option, Some, IfSome, length}
use Rattle.edit_desk.specs.Desk.{Files, IsLonger}
use Rattle.edit_language.specs.Grammar.{IsRuleText, IsRulesFault}
use Rattle.edit_language.specs.declared.fault.RulesKind.{RulesKind}
use Rattle.edit_model.specs.Parts.{SurveyParts}
use Rattle.edit_model.specs.declared.field.Field.{Field}
use Rattle.record_text.specs.Sheets.{IsSheet, IsSheetFault, SheetParts}
use Rattle.record_text.specs.declared.fault.SheetFault.{SheetFault}
use Rattle.cert_check.specs.Releases.{Audit, IsFirstFailure, IsValidRelease}
use Rattle.command_words.specs.Asked.{CheckAsked, EditAsked, RulesAsked}
use Rattle.run_parts.specs.Faults.{records_fault_of}
use Rattle.run_parts.specs.declared.fault.Fault.{Fault}
use Rattle.run_parts.specs.declared.fault.Fault.TheVariants as fault
use Rattle.run_parts.specs.declared.fault.RecordsFault.{RecordsFault}
use Rattle.run_parts.specs.Limits.{most_bytes, most_proof_bytes}
use Rattle.run_parts.specs.declared.status.Status.{Status}
use Rattle.run_parts.specs.declared.status.Status.TheVariants as status

-- there are bytes, within a limit, that meet the claim; where the desk tells its files, one of that name has these bytes
pub record HoldsWithin (files : Option Files) (name : List ℕ) (most : ℕ) (P : List ℕ → Type 0) : Type 0 where
  pub bytes : List ℕ
  pub held : IfSome files (λ told. told name ≡ Some bytes)
  pub short : length bytes ≤ most
  pub claim : P bytes

-- the same, within the limit of all files but a proof
abbrev pub HoldsText : Option Files → List ℕ → (List ℕ → Type 0) → Type 0
HoldsText files name P = HoldsWithin files name most_bytes P

-- where the desk tells its files, one of that name has more bytes than the limit
abbrev pub HoldsLonger : Option Files → List ℕ → ℕ → Type 0
HoldsLonger files name most = IfSome files (λ told. IsLonger told name most)

-- ---- readings

-- the bytes read as the survey, and as no other
pub record ReadsAs (bytes : List ℕ) (survey : SurveyParts) : Type 0 where
  pub read : IsRuleText bytes survey
  pub only : (other : SurveyParts) → IsRuleText bytes other → other ≡ survey

-- the file reads as the survey
abbrev pub HoldsRules : Option Files → List ℕ → SurveyParts → Type 0
HoldsRules files name survey = HoldsText files name (λ bytes. ReadsAs bytes survey)

-- the bytes read as the sheet of records of these fields, and as no other
pub record ReadsAsSheet (fields : List Field) (bytes : List ℕ) (sheet : SheetParts) : Type 0 where
  pub read : IsSheet fields bytes sheet
  pub only : (other : SheetParts) → IsSheet fields bytes other → other ≡ sheet

-- the file reads as the sheet of records of these fields
abbrev pub HoldsRecords : Option Files → List ℕ → List Field → SheetParts → Type 0
HoldsRecords files name fields sheet = HoldsText files name (λ bytes. ReadsAsSheet fields bytes sheet)

-- the file has just these bytes
abbrev pub HoldsBytes : Option Files → List ℕ → ℕ → List ℕ → Type 0
HoldsBytes files name most bytes = HoldsWithin files name most (λ held. held ≡ bytes)

-- the files of a check are there: rules and records that read as these, and the bytes of a released file and of a proof
pub record HoldsRelease (files : Option Files) (asked : CheckAsked) (audit : Audit) : Type 0 where
  pub rules : HoldsRules files asked.rules audit.survey
  pub records : HoldsRecords files asked.records audit.survey.fields audit.sheet
  pub released : HoldsBytes files asked.released most_bytes audit.released
  pub proof : HoldsBytes files asked.proof most_proof_bytes audit.proof

-- ---- refusals

-- the bytes are no rules: they read as no survey, and this is their first fault
pub record AreNoRules (line : ℕ) (kind : RulesKind) (bytes : List ℕ) : Type 0 where
  pub unread : (survey : SurveyParts) → ¬ IsRuleText bytes survey
  pub first : IsRulesFault bytes line kind

-- the bytes are no records of these fields: they read as no sheet, and this is their first fault
pub record AreNoRecords (fields : List Field) (what : RecordsFault) (bytes : List ℕ) : Type 0 where
  pub unread : (sheet : SheetParts) → ¬ IsSheet fields bytes sheet
  pub found : SheetFault
  pub first : IsSheetFault fields bytes found
  pub told : records_fault_of fields found ≡ Some what

-- some survey is read from a file of this name, and the claim holds of it
abbrev pub WithRules : Option Files → List ℕ → (SurveyParts → Type 0) → Type 0
WithRules files rules P = (survey : SurveyParts) × HoldsRules files rules survey × P survey

-- some survey and some sheet are read from files of these names, and the claim holds of them
abbrev pub WithSheet : Option Files → List ℕ → List ℕ → (SurveyParts → SheetParts → Type 0) → Type 0
WithSheet files rules records P =
    WithRules files rules (λ survey. (sheet : SheetParts) × HoldsRecords files records survey.fields sheet × P survey sheet)

-- the file of this name is fetched where these two are: it is the rules, or it is the records and the rules were read
abbrev pub IsInputFile : List ℕ → List ℕ → Option Files → List ℕ → Type 0
IsInputFile rules records files name = (name ≡ rules) ⊎ ((name ≡ records) × WithRules files rules (λ survey. ⊤))

-- why the rules and the records, in files of these names, are refused; a file that could not be read is one of them, in their order;
-- one that could not be written, and want of memory, say nothing of them
abbrev pub RefusesInput : List ℕ → List ℕ → Option Files → Fault → Type 0
RefusesInput rules records files (fault.Rules line kind) = HoldsText files rules (AreNoRules line kind)
RefusesInput rules records files (fault.Records what) =
    WithRules files rules (λ survey. HoldsText files records (AreNoRecords survey.fields what))
RefusesInput rules records files (fault.TooLong name) = IsInputFile rules records files name × HoldsLonger files name most_bytes
RefusesInput rules records files (fault.Read name) = IsInputFile rules records files name
RefusesInput rules records files (fault.Write name) = ⊤
RefusesInput rules records files fault.OutOfMemory = ⊤
RefusesInput rules records files fault.Usage = ⊥
RefusesInput rules records files (fault.Class name) = ⊥
RefusesInput rules records files (fault.Last what) = ⊥
RefusesInput rules records files (fault.Rejected line why) = ⊥

-- why the files of an edit are refused
abbrev pub Refuses : EditAsked → Option Files → Fault → Type 0
Refuses asked files fault = RefusesInput asked.names.rules asked.names.records files fault

-- the file of this name is fetched behind rules and records that were read: it is the released file, with this limit, or it is the
-- proof, with its own, behind a released file within the limit
abbrev pub IsReleaseFile : CheckAsked → Option Files → List ℕ → ℕ → Type 0
IsReleaseFile asked files name most = WithSheet files asked.rules asked.records (λ survey sheet.
    ((name ≡ asked.released) × (most ≡ most_bytes))
    ⊎ ((name ≡ asked.proof) × (most ≡ most_proof_bytes) × (bytes : List ℕ) × HoldsBytes files asked.released most_bytes bytes))

-- such a file is too long
abbrev pub IsTooLong : CheckAsked → Option Files → List ℕ → Type 0
IsTooLong asked files name = (most : ℕ) × IsReleaseFile asked files name most × HoldsLonger files name most

-- why the files of a check are refused: the rules or the records are, or another file could not be read or is too long, or they are no
-- valid release
abbrev pub RefusesCheck : CheckAsked → Option Files → Fault → Type 0
RefusesCheck asked files (fault.TooLong name) =
    RefusesInput asked.rules asked.records files (fault.TooLong name) ⊎ IsTooLong asked files name
RefusesCheck asked files (fault.Read name) =
    RefusesInput asked.rules asked.records files (fault.Read name) ⊎ ((most : ℕ) × IsReleaseFile asked files name most)
RefusesCheck asked files (fault.Rejected line why) =
    (audit : Audit) × HoldsRelease files asked audit × ¬ IsValidRelease audit × IsFirstFailure audit line why
RefusesCheck asked files fault = RefusesInput asked.rules asked.records files fault

-- why the file of the command `rules` is refused: it holds no rules, is too long, or could not be read
abbrev pub RefusesRulesCommand : RulesAsked → Option Files → Fault → Type 0
RefusesRulesCommand asked files (fault.Rules line kind) = HoldsText files asked.rules (AreNoRules line kind)
RefusesRulesCommand asked files (fault.TooLong name) = (name ≡ asked.rules) × HoldsLonger files name most_bytes
RefusesRulesCommand asked files (fault.Read name) = name ≡ asked.rules
RefusesRulesCommand asked files fault.OutOfMemory = ⊤
RefusesRulesCommand asked files fault = ⊥

-- ---- what is due

-- the rules and the records are to be refused with this status: a file is too long, or has no reading
abbrev pub IsInputDue : List ℕ → List ℕ → Files → Status → Type 0
IsInputDue rules records files status.TooLong =
    IsLonger files rules most_bytes ⊎ WithRules (Some files) rules (λ survey. IsLonger files records most_bytes)
IsInputDue rules records files status.Rules = HoldsText (Some files) rules (λ bytes. (survey : SurveyParts) → ¬ IsRuleText bytes survey)
IsInputDue rules records files status.Records =
    WithRules (Some files) rules
    (λ survey. HoldsText (Some files) records (λ bytes. (sheet : SheetParts) → ¬ IsSheet survey.fields bytes sheet))
IsInputDue rules records files answer = ⊥

-- the files of an edit are to be refused with this status
abbrev pub IsDue : EditAsked → Files → Status → Type 0
IsDue asked files answer = IsInputDue asked.names.rules asked.names.records files answer

-- the files of a check are to be refused with this status: as for an edit, or another file is too long, or they are no
-- valid release
abbrev pub IsCheckDue : CheckAsked → Files → Status → Type 0
IsCheckDue asked files status.TooLong =
    IsInputDue asked.rules asked.records files status.TooLong ⊎ ((name : List ℕ) × IsTooLong asked (Some files) name)
IsCheckDue asked files status.Rejected = (audit : Audit) × HoldsRelease (Some files) asked audit × ¬ IsValidRelease audit
IsCheckDue asked files answer = IsInputDue asked.rules asked.records files answer

-- the file of the command `rules` is to be refused with this status
abbrev pub IsRulesDue : RulesAsked → Files → Status → Type 0
IsRulesDue asked files status.TooLong = IsLonger files asked.rules most_bytes
IsRulesDue asked files status.Rules = HoldsText (Some files) asked.rules (λ bytes. (survey : SurveyParts) → ¬ IsRuleText bytes survey)
IsRulesDue asked files answer = ⊥

-- a status that is due is answered, unless a file could not be read or memory was refused
abbrev pub AnswersDue : (Status → Type 0) → Status → Type 0
AnswersDue Due answer = (s : Status) → Due s → (answer ≡ s) ⊎ ((answer ≡ status.ReadFault) ⊎ (answer ≡ status.OutOfMemory))
