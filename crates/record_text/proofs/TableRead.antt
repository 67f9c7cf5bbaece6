-- A table, and what is wrong with one, by its first record and those behind it.
use Rattle.std.proofs.Common.{◌≡◌, refl, ℕ, List, [], ◌∷◌, length, Some, None}
use Rattle.csv.specs.Machine.{next_record}
use Rattle.csv.specs.Reading.{AreRecords, default_config, strip_bom}
use Rattle.csv.specs.declared.parser.State.TheVariants as st
use Rattle.record_text.specs.inner.Places.{IsTextsFault, Place}
use Rattle.record_text.specs.Tables.{IsTable, IsTableFault, TableParts, most_table_rows, rows_fault}
use Rattle.record_text.specs.Trimming.{header_of}
use Rattle.record_text.specs.declared.table_fault.TableFault.{TableFault}
use Rattle.record_text.specs.declared.table_fault.TableFault.TheVariants.{NoHeader}
use Rattle.record_text.proofs.FirstRecord.{all_records, no_records}

-- bytes without a record
pub no_table : (bytes : List ℕ) → next_record default_config st.StartRecord [] [] (strip_bom (strip_bom bytes)) ≡ None → IsTableFault bytes NoHeader
no_table bytes none = record { records = []; given = no_records bytes none; found = refl }

-- bytes whose first record has these texts, and whose second begins there
module _ (bytes : List ℕ) (texts : List (List ℕ)) (there : Place)
    (begins : next_record default_config st.StartRecord [] [] (strip_bom (strip_bom bytes)) ≡ Some (texts, there.state, there.left)) where
  pub faulty_texts : (fault : TableFault) → IsTextsFault most_table_rows (length texts) there fault → IsTableFault bytes fault
  faulty_texts fault row = record {
    records = texts ∷ row.row_texts;
    given = all_records bytes texts there begins row.row_texts row.records;
    found = row.found;
  }

  pub table_read : (table : TableParts) → table.header ≡ header_of texts → AreRecords default_config there.state there.left table.rows
      → rows_fault most_table_rows (length texts) 0 table.rows ≡ None → IsTable bytes table
  table_read table header records faultless = record {
    first = texts;
    given = all_records bytes texts there begins table.rows records;
    faultless = faultless;
    header = header;
  }
