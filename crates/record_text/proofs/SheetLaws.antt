-- What a sheet, and a fault, of a record file say: there is one of them, and callers may rely on what follows here.
use Rattle.std.proofs.Common.{◌≡◌, ◌≢◌, ◌∙◌, sym, ap, ℕ, ◌<◌, ◌≤◌, List, ◌∷◌, length, Some, Result, Ok, Err, All, AllPairs, arith}
use Rattle.std.specs.Result.{IfErr, IfOk}
use Rattle.std.specs.List.{AllByRecursion}
use Rattle.csv.specs.Reading.{default_config, strip_bom}
use Rattle.csv.specs.declared.parser.State.TheVariants as st
use Rattle.edit_model.specs.Rows.{IsRow}
use Rattle.edit_model.specs.declared.field.Field.{Field}
use Rattle.edit_model.specs.declared.value.Value.{Value}
use Rattle.record_text.specs.Faults.{sheet_fault}
use Rattle.record_text.specs.Sheets.{AreRecordsOf, IsSheet, IsSheetFault, SheetParts}
use Rattle.record_text.specs.declared.fault.SheetFault.{SheetFault}
use Rattle.record_text.specs.declared.fault.SheetFault.TheVariants.{OutOfMemory}
use Rattle.record_text.proofs.AllRecords.{same_records}
use Rattle.record_text.proofs.ColumnLaws.{columns_distinct, columns_within, one_column_each, same_columns}
use Rattle.record_text.proofs.FaultLaws.{faultless_parts, few_rows, rows_equally_long}
use Rattle.record_text.proofs.FieldCount.{first_has_field}
use Rattle.record_text.proofs.HeaderLaws.{header_length}
use Rattle.record_text.proofs.ValueLaws.{all_are_rows, rows_length}
use Rattle.record_text.proofs.ValueOnce.{rows_once}

-- ---- one answer

-- bytes have one list of records
pub records_of : (bytes : List ℕ) (a b : List (List (List ℕ))) → AreRecordsOf bytes a → AreRecordsOf bytes b → b ≡ a
records_of bytes a b = same_records default_config st.StartRecord (strip_bom (strip_bom bytes)) a b

-- bytes have one fault
pub same_sheet_fault : (fields : List Field) (bytes : List ℕ) (a b : SheetFault) → IsSheetFault fields bytes a → IsSheetFault fields bytes b → a ≡ b
same_sheet_fault fields bytes a b is other =
    let records = records_of bytes is.records other.records is.given other.given in
    let found : sheet_fault fields other.records ≡ Some a = ap (sheet_fault fields) records ∙ is.found in
    cc (found, other.found)

-- bytes with a fault have no sheet
pub sheet_excludes_fault : (fields : List Field) (bytes : List ℕ) (sheet : SheetParts) (fault : SheetFault) → IsSheet fields bytes sheet
    → ¬ IsSheetFault fields bytes fault
sheet_excludes_fault fields bytes sheet fault is other =
    let records = records_of bytes (is.first ∷ sheet.row_texts) other.records is.given other.given in
    let found : sheet_fault fields (is.first ∷ sheet.row_texts) ≡ Some fault = ap (sheet_fault fields) (sym records) ∙ other.found in
    cc (found, is.faultless)

-- so where a fault is answered there is no sheet
pub unread_by_fault : {T : Type 0} (fields : List Field) (bytes : List ℕ) (r : Result T SheetFault)
    → IfErr r (λ e. e ≢ OutOfMemory → IsSheetFault fields bytes e)
    → IfErr r (λ e. e ≢ OutOfMemory → (sheet : SheetParts) → ¬ IsSheet fields bytes sheet)
unread_by_fault fields bytes (Ok t) found = tt
unread_by_fault fields bytes (Err e) found = λ other sheet is. sheet_excludes_fault fields bytes sheet e is (found other)

-- bytes have one sheet: one header, and the same columns, texts and values
pub same_sheet : (fields : List Field) (bytes : List ℕ) (a b : SheetParts) → IsSheet fields bytes a → IsSheet fields bytes b
    → (a.header ≡ b.header) × (a.columns ≡ b.columns) × (a.row_texts ≡ b.row_texts) × (a.rows ≡ b.rows)
same_sheet fields bytes a b is other =
    let records = records_of bytes (other.first ∷ b.row_texts) (is.first ∷ a.row_texts) other.given is.given in
    let first : is.first ≡ other.first = cc records in
    let row_texts : a.row_texts ≡ b.row_texts = cc records in
    let header : a.header ≡ b.header = cc (is.header, other.header, first) in
    let columns : a.columns ≡ b.columns = same_columns fields b.header a.columns b.columns (rw header at is.columns) other.columns in
    (header, columns, row_texts, rows_once fields b.columns b.row_texts a.rows b.rows (rw (columns, row_texts) at is.values) other.values)

-- so the sheet that is answered is the only one
same_parts : (a b : SheetParts) → a.header ≡ b.header → a.columns ≡ b.columns → a.row_texts ≡ b.row_texts → a.rows ≡ b.rows → a ≡ b
same_parts a b header columns row_texts rows =
    ap (λ (h : List (List ℕ)). record { header = h; columns = a.columns; row_texts = a.row_texts; rows = a.rows }) header
    ∙ ap (λ (cs : List ℕ). record { header = b.header; columns = cs; row_texts = a.row_texts; rows = a.rows }) columns
    ∙ ap (λ (ts : List (List (List ℕ))). record { header = b.header; columns = b.columns; row_texts = ts; rows = a.rows }) row_texts
    ∙ ap (λ (vs : List (List Value)). record { header = b.header; columns = b.columns; row_texts = b.row_texts; rows = vs }) rows

pub only_by_sheet : (fields : List Field) (bytes : List ℕ) (r : Result SheetParts SheetFault) → IfOk r (λ sheet. IsSheet fields bytes sheet)
    → IfOk r (λ sheet. (other : SheetParts) → IsSheet fields bytes other → other ≡ sheet)
only_by_sheet fields bytes (Ok sheet) is = λ other also. let (header, columns, row_texts, rows) = same_sheet fields bytes other sheet also is in
    same_parts other sheet header columns row_texts rows
only_by_sheet fields bytes (Err e) is = tt

-- and so is the fault
pub first_by_fault : {T : Type 0} (fields : List Field) (bytes : List ℕ) (r : Result T SheetFault)
    → IfErr r (λ e. e ≢ OutOfMemory → IsSheetFault fields bytes e)
    → IfErr r (λ e. e ≢ OutOfMemory → (other : SheetFault) → IsSheetFault fields bytes other → other ≡ e)
first_by_fault fields bytes (Ok t) found = tt
first_by_fault fields bytes (Err e) found = λ known other also. same_sheet_fault fields bytes other e also (found known)

-- ---- what a sheet is like

module _ (fields : List Field) (bytes : List ℕ) (sheet : SheetParts) (is : IsSheet fields bytes sheet) where
  first_length : length sheet.header ≡ length is.first
  first_length = ap (λ (texts : List (List ℕ)). length texts) is.header ∙ header_length is.first

  -- the header has at least one text
  pub header_has_text : 1 ≤ length sheet.header
  header_has_text =
      let some = first_has_field default_config st.StartRecord (strip_bom (strip_bom bytes)) is.first sheet.row_texts is.given in
      omega (arith, first_length)

  -- each row has as many texts as the header
  pub row_texts_as_long_as_header : AllByRecursion (λ raw. length raw ≡ length sheet.header) sheet.row_texts
  row_texts_as_long_as_header = rw first_length (rows_equally_long 0 (length is.first) sheet.row_texts
      (faultless_parts fields is.first sheet.row_texts is.faultless).2)

  -- there are as many texts as values of rows, at most 200,000
  pub as_many_row_texts_as_rows : length sheet.row_texts ≡ length sheet.rows
  as_many_row_texts_as_rows = rows_length fields sheet.columns sheet.row_texts sheet.rows is.values

  pub few_sheet_rows : length sheet.rows ≤ 200000
  few_sheet_rows =
      let few = few_rows 0 (length is.first) sheet.row_texts (omega arith) (faultless_parts fields is.first sheet.row_texts is.faultless).2 in
      omega (arith, as_many_row_texts_as_rows)

  -- there is one column for each field, and it is one of the header's
  pub one_column_a_field : length sheet.columns ≡ length fields
  one_column_a_field = one_column_each fields sheet.header sheet.columns is.columns

  pub columns_in_header : All (λ column. column < length sheet.header) sheet.columns
  columns_in_header = columns_within fields sheet.header sheet.columns is.columns

  -- fields of distinct names have distinct columns
  pub distinct_columns : AllPairs (λ (f : Field) (g : Field). f.name ≢ g.name) fields → AllPairs (λ (c : ℕ) (d : ℕ). c ≢ d) sheet.columns
  distinct_columns names = columns_distinct fields sheet.header sheet.columns names is.columns

  -- each row is a record of the survey
  pub rows_are_records : AllByRecursion (IsRow fields) sheet.rows
  rows_are_records = all_are_rows fields sheet.columns sheet.row_texts sheet.rows is.values
