-- Where csv's reader stands in a file, and what is read from there on. Private contracts alone cite this page.
use Rattle.std.specs.Prelude.{◌≡◌, ℕ, Bool, true, false, List, [], Option, Some, None}
use Rattle.std.specs.Borrow.{Bor}
use Rattle.csv.specs.Machine.{next_record}
use Rattle.csv.specs.Reading.{AreRecords, Ready, default_config, is_flexible, reader_config, reader_state, reader_trim, source_of}
use Rattle.csv.specs.Reading.{strip_bom}
use Rattle.csv.specs.declared.parser.State.{State}
use Rattle.csv.specs.declared.parser.State.TheVariants as st
use Rattle.csv.specs.declared.reader.Reader.{Reader}
use Rattle.csv.specs.declared.reader.Trim.TheVariants as trim
use Rattle.edit_model.specs.declared.field.Field.{Field}
use Rattle.edit_model.specs.declared.value.Value.{Value}
use Rattle.record_text.specs.Faults.{row_fault}
use Rattle.record_text.specs.Values.{AreRows}
use Rattle.record_text.specs.Tables.{rows_fault}
use Rattle.record_text.specs.declared.fault.SheetFault.{SheetFault}
use Rattle.record_text.specs.declared.fault.SheetFault.TheVariants.{NoHeader, TooManyRows, RowLength, OutOfMemory}
use Rattle.record_text.specs.declared.table_fault.TableFault.{TableFault}
use Rattle.record_text.specs.declared.table_fault.TableFault.TheVariants as table

-- a place in a record file: the state of csv's reader there, and the bytes that are left
pub record Place : Type 0 where
  pub state : State
  pub left : List ℕ

-- the place before the first record of these bytes; one byte order mark is taken off before, and csv takes off one more
abbrev pub start_of : List ℕ → Place
start_of bytes = record { state = st.StartRecord; left = strip_bom (strip_bom bytes) }

-- csv's reader stands at the place; it reads by its default settings, but for records that may differ in length, and takes
-- the first record as any other
pub record IsAt (reader : Reader (Bor (List ℕ))) (here : Place) : Type 0 where
  pub plain : reader_trim reader ≡ trim.None
  pub config : reader_config reader ≡ default_config
  pub flexible : is_flexible reader ≡ true
  pub ready : Ready reader
  pub state : reader_state reader ≡ here.state
  pub left : source_of (λ bytes. Some bytes.now) reader ≡ Some here.left

-- the texts of the record at a place, and the place behind it; None where there is no further record
abbrev pub record_at : Place → Option (List (List ℕ) × State × List ℕ)
record_at here = next_record default_config here.state [] [] here.left

-- what one read does: it finds the next record's texts, and the reader stands behind them, or there is no further record
abbrev pub Reads : Place → Bool → List (List ℕ) → Reader (Bor (List ℕ)) → Type 0
Reads here true texts reader = (there : Place) × IsAt reader there × (record_at here ≡ Some (texts, there.state, there.left))
Reads here false texts reader = record_at here ≡ None

-- these are all the records from a place on, none of them is faulty, and these are their values
pub record AreRowsFrom (fields : List Field) (columns : List ℕ) (width : ℕ) (here : Place)
    (row_texts : List (List (List ℕ))) (rows : List (List Value)) : Type 0 where
  pub records : AreRecords default_config here.state here.left row_texts
  pub faultless : row_fault 0 width row_texts ≡ None
  pub values : AreRows fields columns row_texts rows

-- these are all the records from where csv's reader stands, none of them is faulty, and these are their values
abbrev pub AreRowsBehind : Reader (Bor (List ℕ)) → List Field → List ℕ → ℕ
    → List (List (List ℕ)) → List (List Value) → Type 0
AreRowsBehind reader fields columns width row_texts rows = (here : Place)
    → IsAt reader here → AreRowsFrom fields columns width here row_texts rows

-- the first faulty record from a place on has this fault
pub record IsRowFault (width : ℕ) (here : Place) (fault : SheetFault) : Type 0 where
  pub row_texts : List (List (List ℕ))
  pub records : AreRecords default_config here.state here.left row_texts
  pub found : row_fault 0 width row_texts ≡ Some fault

-- the first faulty record from a place on, where they are rows of a table of at most so many, has this fault
pub record IsTextsFault (most width : ℕ) (here : Place) (fault : TableFault) : Type 0 where
  pub row_texts : List (List (List ℕ))
  pub records : AreRecords default_config here.state here.left row_texts
  pub found : rows_fault most width 0 row_texts ≡ Some fault

-- a row's fault, told of a record file
abbrev pub sheet_fault_of : TableFault → SheetFault
sheet_fault_of table.NoHeader = NoHeader
sheet_fault_of table.TooManyRows = TooManyRows
sheet_fault_of (table.RowLength row_no) = RowLength row_no
sheet_fault_of table.OutOfMemory = OutOfMemory
