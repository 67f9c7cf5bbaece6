-- Record files as read: which sheet the bytes of a file give, or which fault they have.
use Rattle.std.specs.Prelude.{◌≡◌, ℕ, List, [], ◌∷◌, Some, None, slice_index_or}
use Rattle.csv.specs.Reading.{AreRecords, default_config, strip_bom}
use Rattle.csv.specs.declared.parser.State.TheVariants as st
use Rattle.edit_model.specs.declared.field.Field.{Field}
use Rattle.edit_model.specs.declared.value.Value.{Value}
use Rattle.record_text.specs.Columns.{StandIn}
use Rattle.record_text.specs.Faults.{sheet_fault}
use Rattle.record_text.specs.Trimming.{header_of}
use Rattle.record_text.specs.Values.{AreRows}
use Rattle.record_text.specs.declared.fault.SheetFault.{SheetFault}

-- a record file as read: the header's texts, the column of each field, and for each row its texts and its values
pub record SheetParts : Type 0 where
  pub header : List (List ℕ)
  pub columns : List ℕ
  pub row_texts : List (List (List ℕ))
  pub rows : List (List Value)

-- the text of a field in a row: that of the column in which it stands
abbrev pub text_at : List ℕ → List (List ℕ) → ℕ → List ℕ
text_at columns texts f = slice_index_or texts (slice_index_or columns f 0) []

-- the records that csv gives by its default settings; one byte order mark is taken off before, and csv takes off one more
abbrev pub AreRecordsOf : List ℕ → List (List (List ℕ)) → Type 0
AreRecordsOf bytes records = AreRecords default_config st.StartRecord (strip_bom (strip_bom bytes)) records

-- the sheet that the bytes give for these fields: nothing is wrong with their records, which are the header and the rows;
-- each field stands in its column, and each row has the values of its texts there
pub record IsSheet (fields : List Field) (bytes : List ℕ) (sheet : SheetParts) : Type 0 where
  pub first : List (List ℕ)
  pub given : AreRecordsOf bytes (first ∷ sheet.row_texts)
  pub faultless : sheet_fault fields (first ∷ sheet.row_texts) ≡ None
  pub header : sheet.header ≡ header_of first
  pub columns : StandIn fields sheet.header sheet.columns
  pub values : AreRows fields sheet.columns sheet.row_texts sheet.rows

-- the first of what is wrong with the bytes' records is this fault
pub record IsSheetFault (fields : List Field) (bytes : List ℕ) (fault : SheetFault) : Type 0 where
  pub records : List (List (List ℕ))
  pub given : AreRecordsOf bytes records
  pub found : sheet_fault fields records ≡ Some fault

-- nothing else is wrong with them
abbrev pub IsOnlyFault : List Field → List ℕ → SheetFault → Type 0
IsOnlyFault fields bytes fault = (other : SheetFault) → IsSheetFault fields bytes other → other ≡ fault
