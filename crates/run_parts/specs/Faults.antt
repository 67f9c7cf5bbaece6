-- Why a run is refused: what each refusal ends it with, what is printed of it, and what each error of a call below is refused as.
use Rattle.std.specs.Prelude.{⊤, ℕ, ◌+◌, ◌++◌, List, Option, Some, None, codes}
use Rattle.std.specs.Fmt.{decimal}
use Rattle.edit_report.specs.Reasons.{name_of}
use Rattle.edit_language.specs.Faults.{kind_name, kind_number}
use Rattle.edit_model.specs.declared.field.Field.{Field}
use Rattle.record_text.specs.declared.fault.SheetFault.{SheetFault}
use Rattle.record_text.specs.declared.fault.SheetFault.TheVariants as sheet
use Rattle.cert_check.specs.Texts.{why_text}
use Rattle.run_parts.specs.declared.fault.Fault.{Fault}
use Rattle.run_parts.specs.declared.fault.Fault.TheVariants.{Usage, Rules, Class, Records, Last, Read, Write, TooLong, Rejected, OutOfMemory}
use Rattle.run_parts.specs.declared.fault.RecordsFault.{RecordsFault}
use Rattle.run_parts.specs.declared.fault.RecordsFault.TheVariants as records
use Rattle.run_parts.specs.declared.status.Status.{Status}
use Rattle.run_parts.specs.declared.status.Status.TheVariants as status

-- the status of a run that is refused
abbrev pub fault_status : Fault → Status
fault_status Usage = status.Usage
fault_status (Rules line kind) = status.Rules
fault_status (Class name) = status.Class
fault_status (Records fault) = status.Records
fault_status (Last fault) = status.Records
fault_status (Read name) = status.ReadFault
fault_status (Write name) = status.WriteFault
fault_status (TooLong name) = status.TooLong
fault_status (Rejected line why) = status.Rejected
fault_status OutOfMemory = status.OutOfMemory

-- what is wrong with a file of records: the kind's number and name, and the field by its name, or the row, counted from 1
abbrev pub records_fault_text : RecordsFault → List ℕ
records_fault_text records.NoHeader = codes "kind 11 NoHeader"
records_fault_text (records.NoColumn field) = codes "kind 12 NoColumn field " ++ field
records_fault_text (records.DoubleColumn field) = codes "kind 13 DoubleColumn field " ++ field
records_fault_text (records.RowLength row_no) = codes "kind 14 RowLength row " ++ decimal (row_no + 1)
records_fault_text records.TooManyRows = codes "kind 15 TooManyRows"
records_fault_text records.TooManyColumns = codes "kind 16 TooManyColumns"
records_fault_text records.NoKey = codes "kind 17 NoKey"

-- the line that is printed of a run that is refused, without its line feed; lines of a file are counted from 1
abbrev pub fault_text : Fault → List ℕ
fault_text Usage = codes "fault: usage"
fault_text (Rules line kind) =
    codes "fault: rules line " ++ decimal line ++ codes " kind " ++ decimal (kind_number kind) ++ codes " " ++ kind_name kind
fault_text (Class name) = codes "fault: class " ++ name
fault_text (Records fault) = codes "fault: records " ++ records_fault_text fault
fault_text (Last fault) = codes "fault: last " ++ records_fault_text fault
fault_text (Read name) = codes "fault: read " ++ name
fault_text (Write name) = codes "fault: write " ++ name
fault_text (TooLong name) = codes "fault: too long " ++ name
fault_text (Rejected line why) = codes "fault: proof line " ++ (decimal line ++ (codes " " ++ why_text why))
fault_text OutOfMemory = codes "fault: out of memory"

-- a fault that the rules and the records may be refused for, as they are fetched and read
abbrev pub IsOfInput : Fault → Type 0
IsOfInput Usage = ⊥
IsOfInput (Class name) = ⊥
IsOfInput (Last what) = ⊥
IsOfInput (Rejected line why) = ⊥
IsOfInput (Write name) = ⊥
IsOfInput fault = ⊤

-- a fault that a command may be refused for that reads rules and records and stores files
abbrev pub IsOfEdit : Fault → Type 0
IsOfEdit Usage = ⊥
IsOfEdit (Class name) = ⊥
IsOfEdit (Last what) = ⊥
IsOfEdit (Rejected line why) = ⊥
IsOfEdit fault = ⊤

-- a fault that the command `classed` may be refused for: one of an edit, or that no categorical field has the name that was given
abbrev pub IsOfClassed : Fault → Type 0
IsOfClassed (Class name) = ⊤
IsOfClassed fault = IsOfEdit fault

-- a fault that the command `panel` may be refused for: it reads rules, records and the file of the last period, and stores files
abbrev pub IsOfPanel : Fault → Type 0
IsOfPanel Usage = ⊥
IsOfPanel (Class name) = ⊥
IsOfPanel (Rejected line why) = ⊥
IsOfPanel fault = ⊤

-- a fault that a check may be refused for: it writes nothing
abbrev pub IsOfCheck : Fault → Type 0
IsOfCheck Usage = ⊥
IsOfCheck (Class name) = ⊥
IsOfCheck (Last what) = ⊥
IsOfCheck (Write name) = ⊥
IsOfCheck fault = ⊤

-- a fault that the command `rules` may be refused for: it fetches the rules, and nothing else
abbrev pub IsOfRulesCommand : Fault → Type 0
IsOfRulesCommand (Rules line kind) = ⊤
IsOfRulesCommand (Read name) = ⊤
IsOfRulesCommand (TooLong name) = ⊤
IsOfRulesCommand OutOfMemory = ⊤
IsOfRulesCommand fault = ⊥

-- a fault that stores may meet, and the command `make` may be refused for: it reads no file
abbrev pub IsOfStores : Fault → Type 0
IsOfStores (Write name) = ⊤
IsOfStores OutOfMemory = ⊤
IsOfStores fault = ⊥

-- what is wrong with records of these fields that were not read; nothing is said where memory was refused
abbrev pub records_fault_of : List Field → SheetFault → Option RecordsFault
records_fault_of fields sheet.NoHeader = Some records.NoHeader
records_fault_of fields sheet.TooManyColumns = Some records.TooManyColumns
records_fault_of fields (sheet.NoColumn number) = Some (records.NoColumn (name_of fields number))
records_fault_of fields (sheet.DoubleColumn number) = Some (records.DoubleColumn (name_of fields number))
records_fault_of fields sheet.TooManyRows = Some records.TooManyRows
records_fault_of fields (sheet.RowLength row_no) = Some (records.RowLength row_no)
records_fault_of fields sheet.OutOfMemory = None

-- a file is refused for what is wrong with it, or for want of memory where nothing is said
abbrev pub refusal_by : (RecordsFault → Fault) → Option RecordsFault → Fault
refusal_by refuse (Some what) = refuse what
refusal_by refuse None = OutOfMemory

-- the refusal for records of these fields that were not read
abbrev pub sheet_refusal : List Field → SheetFault → Fault
sheet_refusal fields fault = refusal_by (λ what. Records what) (records_fault_of fields fault)

-- the refusal for rows of the last period, of these fields, that were not read
abbrev pub last_refusal : List Field → SheetFault → Fault
last_refusal fields fault = refusal_by (λ what. Last what) (records_fault_of fields fault)
