use Rattle.std.proofs.Common.{◌≡◌, refl, ℕ, List, [], ◌∷◌, length, Some, None, true, false, nat_lt}
use Rattle.csv.specs.Machine.{next_record}
use Rattle.csv.specs.Reading.{default_config, strip_bom}
use Rattle.csv.specs.declared.parser.State.TheVariants as st
use Rattle.edit_model.specs.declared.field.Field.{Field}
use Rattle.record_text.specs.Columns.{StandIn}
use Rattle.record_text.specs.Faults.{column_fault, sheet_fault}
use Rattle.record_text.specs.inner.Places.{AreRowsFrom, IsRowFault, Place}
use Rattle.record_text.specs.Sheets.{IsSheet, IsSheetFault, SheetParts}
use Rattle.record_text.specs.Trimming.{header_of}
use Rattle.record_text.specs.declared.fault.SheetFault.{SheetFault}
use Rattle.record_text.specs.declared.fault.SheetFault.TheVariants.{NoHeader, TooManyColumns}
use Rattle.record_text.proofs.AllRecords.{has_records}
use Rattle.record_text.proofs.ColumnLaws.{stand_faultless}
use Rattle.record_text.proofs.FirstRecord.{all_records, no_records}

-- bytes without a record
pub no_header : (fields : List Field) (bytes : List ℕ) → next_record default_config st.StartRecord [] [] (strip_bom (strip_bom bytes)) ≡ None
    → IsSheetFault fields bytes NoHeader
no_header fields bytes none = record { records = []; given = no_records bytes none; found = refl }

-- bytes whose first record has these texts, and whose second begins there
module _ (fields : List Field) (bytes : List ℕ) (texts : List (List ℕ)) (there : Place)
    (begins : next_record default_config st.StartRecord [] [] (strip_bom (strip_bom bytes)) ≡ Some (texts, there.state, there.left)) where
  fault_in_header : (fault : SheetFault) → ((rest : List (List (List ℕ))) → sheet_fault fields (texts ∷ rest) ≡ Some fault) → IsSheetFault fields bytes fault
  fault_in_header fault found =
      let (rest, records) = has_records default_config there.state there.left in
      record { records = texts ∷ rest; given = all_records bytes texts there begins rest records; found = found rest }

  pub too_many_columns : nat_lt 256 (length texts) ≡ true → IsSheetFault fields bytes TooManyColumns
  too_many_columns many = fault_in_header TooManyColumns (λ rest. rw many refl)

  pub faulty_columns : (fault : SheetFault) → nat_lt 256 (length texts) ≡ false → column_fault 0 fields (header_of texts) ≡ Some fault
      → IsSheetFault fields bytes fault
  faulty_columns fault few found = fault_in_header fault (λ rest. rw (few, found) refl)

  pub faulty_rows : (fault : SheetFault) (columns : List ℕ) → nat_lt 256 (length texts) ≡ false → StandIn fields (header_of texts) columns
      → IsRowFault (length texts) there fault → IsSheetFault fields bytes fault
  faulty_rows fault columns few stand row = record {
    records = texts ∷ row.row_texts;
    given = all_records bytes texts there begins row.row_texts row.records;
    found = rw (few, stand_faultless fields (header_of texts) columns 0 stand) row.found;
  }

  -- nothing is wrong, and these are the parts of the sheet
  pub sheet_read : (sheet : SheetParts) → nat_lt 256 (length texts) ≡ false → sheet.header ≡ header_of texts → StandIn fields (header_of texts) sheet.columns
      → AreRowsFrom fields sheet.columns (length texts) there sheet.row_texts sheet.rows → IsSheet fields bytes sheet
  sheet_read sheet few header stand rows = record {
    first = texts;
    given = all_records bytes texts there begins sheet.row_texts rows.records;
    faultless = rw (few, stand_faultless fields (header_of texts) sheet.columns 0 stand) rows.faultless;
    header = header;
    columns = rw header stand;
    values = rows.values;
  }
