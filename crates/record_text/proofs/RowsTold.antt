-- The rows of a record file are those of a table of at most 200,000.
use Rattle.std.proofs.Common.{Bor, ◌≡◌, ◌≢◌, ◌∙◌, ap, ℕ, List, None}
use Rattle.csv.specs.Reading.{AreRecords, default_config}
use Rattle.csv.specs.declared.reader.Reader.{Reader}
use Rattle.edit_model.specs.declared.field.Field.{Field}
use Rattle.edit_model.specs.declared.value.Value.{Value}
use Rattle.record_text.specs.inner.Places.{AreRowsBehind, IsAt, IsRowFault, IsTextsFault, Place, sheet_fault_of}
use Rattle.record_text.specs.Tables.{rows_fault}
use Rattle.record_text.specs.Values.{AreRows}
use Rattle.record_text.specs.declared.fault.SheetFault.{SheetFault}
use Rattle.record_text.specs.declared.fault.SheetFault.TheVariants.{OutOfMemory}
use Rattle.record_text.specs.declared.table_fault.TableFault.{TableFault}
use Rattle.record_text.specs.declared.table_fault.TableFault.TheVariants as table
use Rattle.record_text.proofs.FaultLaws.{fault_of_sheet, faultless_sheet}

module _ (width : ℕ) (reader : Reader (Bor (List ℕ))) where
  -- the rows of the table, and their values
  pub rows_behind : (fields : List Field) (columns : List ℕ) (row_texts : List (List (List ℕ))) (rows : List (List Value))
      → ((here : Place) → IsAt reader here → AreRecords default_config here.state here.left row_texts)
      → rows_fault 200000 width 0 row_texts ≡ None → AreRows fields columns row_texts rows → AreRowsBehind reader fields columns width row_texts rows
  rows_behind fields columns row_texts rows records faultless values here at =
      record { records = records here at; faultless = faultless_sheet 0 width row_texts faultless; values = values }

  -- the fault of its rows
  pub fault_behind : (fault : TableFault) (told : SheetFault) → told ≡ sheet_fault_of fault
      → (fault ≢ table.OutOfMemory → (here : Place) → IsAt reader here → IsTextsFault 200000 width here fault)
      → told ≢ OutOfMemory → (here : Place) → IsAt reader here → IsRowFault width here told
  fault_behind fault told same found known here at =
      let faulty = found (λ (refused : fault ≡ table.OutOfMemory). known (same ∙ ap sheet_fault_of refused)) here at in
      rw same (record { row_texts = faulty.row_texts; records = faulty.records; found = fault_of_sheet 0 width faulty.row_texts fault faulty.found })
