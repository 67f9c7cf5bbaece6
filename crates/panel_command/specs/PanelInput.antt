-- The three files that the command `panel` reads, and why they are refused.
use Rattle.std.specs.Prelude.{◌≡◌, ◌⊎◌, ⊤, ℕ, List, Option, None, Some}
use Rattle.edit_desk.specs.Desk.{Files, IsLonger}
use Rattle.edit_model.specs.Parts.{SurveyParts}
use Rattle.edit_model.specs.declared.field.Field.{Field}
use Rattle.record_text.specs.Columns.{IsOneColumn}
use Rattle.record_text.specs.Sheets.{IsSheet, SheetParts}
use Rattle.command_words.specs.Asked.{PanelAsked}
use Rattle.panel_files.specs.LastFields.{AreLastFields, last_fields, own_fields}
use Rattle.panel_release.specs.PanelReleases.{PanelCase}
use Rattle.run_parts.specs.Limits.{most_bytes}
use Rattle.run_parts.specs.Readings.{AreNoRecords, AreNoRules, HoldsLonger, HoldsRecords, HoldsRules, HoldsText, IsInputDue, WithRules}
use Rattle.run_parts.specs.declared.fault.Fault.{Fault}
use Rattle.run_parts.specs.declared.fault.Fault.TheVariants as fault
use Rattle.run_parts.specs.declared.fault.RecordsFault.{RecordsFault}
use Rattle.run_parts.specs.declared.fault.RecordsFault.TheVariants as records
use Rattle.run_parts.specs.declared.status.Status.{Status}
use Rattle.run_parts.specs.declared.status.Status.TheVariants as status

-- ---- one file of rows with a key

-- a file of this name holds rows of these fields, and the key stands in this column of it
pub record HoldsKeyed (files : Option Files) (name : List ℕ) (fields : List Field) (key : List ℕ)
    (sheet : SheetParts) (column : ℕ) : Type 0 where
  pub read : HoldsRecords files name fields sheet
  pub keyed : IsOneColumn key sheet.header (Some column)

-- a file of this name holds rows of these fields, and the key stands in no column of it, or in several
abbrev pub LacksKey : Option Files → List ℕ → List Field → List ℕ → Type 0
LacksKey files name fields key = (sheet : SheetParts) × HoldsRecords files name fields sheet × IsOneColumn key sheet.header None

-- why rows of these fields with this key are not read from a file of this name
abbrev pub RefusesRows : Option Files → List ℕ → List Field → List ℕ → RecordsFault → Type 0
RefusesRows files name fields key what =
    HoldsText files name (AreNoRecords fields what) ⊎ ((what ≡ records.NoKey) × LacksKey files name fields key)

-- rows of these fields with this key can't be read from a file of this name
abbrev pub AreUnread : Files → List ℕ → List Field → List ℕ → Type 0
AreUnread files name fields key =
    HoldsText (Some files) name (λ bytes. (sheet : SheetParts) → ¬ IsSheet fields bytes sheet) ⊎ LacksKey (Some files) name fields key

-- ---- all three

-- some survey is read from the file of the rules, these are its last fields, and the claim holds of both
abbrev pub WithLast : Option Files → PanelAsked → (SurveyParts → ℕ → Type 0) → Type 0
WithLast files asked P = WithRules files asked.rules (λ survey. (set : ℕ) × AreLastFields survey.fields set × P survey set)

-- and then the records are read, by the other fields
abbrev pub WithOwn : Option Files → PanelAsked → (SurveyParts → ℕ → Type 0) → Type 0
WithOwn files asked P = WithLast files asked (λ survey set.
    ((own : SheetParts) × (column : ℕ) × HoldsKeyed files asked.records (own_fields survey.fields set) asked.key own column) × P survey set)

-- this is read from the three files: the survey, its last fields, the records by the other fields, and the rows of the last period by
-- these, both with the column of the key
pub record HoldsPanel (files : Option Files) (asked : PanelAsked) (panel : PanelCase) : Type 0 where
  pub rules : HoldsRules files asked.rules panel.survey
  pub set : AreLastFields panel.survey.fields panel.set
  pub own : HoldsKeyed files asked.records (own_fields panel.survey.fields panel.set) asked.key panel.files.own panel.files.own_key
  pub last : HoldsKeyed files asked.last (last_fields panel.survey.fields panel.set) asked.key panel.files.last panel.files.last_key

-- the file of this name is fetched where these are: it is the rules; or the records, and the rules were read; or the last file, and
-- the records were read with their key
abbrev pub IsPanelFile : PanelAsked → Option Files → List ℕ → Type 0
IsPanelFile asked files name =
    (name ≡ asked.rules) ⊎ (((name ≡ asked.records) × WithRules files asked.rules (λ survey. ⊤))
    ⊎ ((name ≡ asked.last) × WithOwn files asked (λ survey set. ⊤)))

-- ---- refusals

-- a fault that the three files may be refused for, as they are fetched and read
abbrev pub IsOfPanelInput : Fault → Type 0
IsOfPanelInput fault.Usage = ⊥
IsOfPanelInput (fault.Class name) = ⊥
IsOfPanelInput (fault.Rejected line why) = ⊥
IsOfPanelInput (fault.Write name) = ⊥
IsOfPanelInput f = ⊤

-- why the three files are refused, in their order; a fault that says nothing of them has no cause in them
abbrev pub RefusesPanel : PanelAsked → Option Files → Fault → Type 0
RefusesPanel asked files (fault.Rules line kind) = HoldsText files asked.rules (AreNoRules line kind)
RefusesPanel asked files (fault.Records what) =
    WithLast files asked (λ survey set. RefusesRows files asked.records (own_fields survey.fields set) asked.key what)
RefusesPanel asked files (fault.Last what) =
    WithOwn files asked (λ survey set. RefusesRows files asked.last (last_fields survey.fields set) asked.key what)
RefusesPanel asked files (fault.TooLong name) = IsPanelFile asked files name × HoldsLonger files name most_bytes
RefusesPanel asked files (fault.Read name) = IsPanelFile asked files name
RefusesPanel asked files (fault.Write name) = ⊤
RefusesPanel asked files fault.OutOfMemory = ⊤
RefusesPanel asked files fault.Usage = ⊥
RefusesPanel asked files (fault.Class name) = ⊥
RefusesPanel asked files (fault.Rejected line why) = ⊥

-- the three files are to be refused with this status: one is too long, or has no reading with its key; the rules as for any command
abbrev pub IsPanelDue : PanelAsked → Files → Status → Type 0
IsPanelDue asked files status.TooLong =
    IsLonger files asked.rules most_bytes
    ⊎ (WithRules (Some files) asked.rules (λ survey. IsLonger files asked.records most_bytes)
    ⊎ WithOwn (Some files) asked (λ survey set. IsLonger files asked.last most_bytes))
IsPanelDue asked files status.Rules = IsInputDue asked.rules asked.records files status.Rules
IsPanelDue asked files status.Records =
    WithLast (Some files) asked (λ survey set. AreUnread files asked.records (own_fields survey.fields set) asked.key)
    ⊎ WithOwn (Some files) asked (λ survey set. AreUnread files asked.last (last_fields survey.fields set) asked.key)
IsPanelDue asked files answer = ⊥
