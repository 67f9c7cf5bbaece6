-- What is wrong with the records of a file: the first fault in the order in which faults are looked for.
use Rattle.std.specs.Prelude.{ℕ, suc, ◌==◌, nat_lt, if◌then◌else◌, List, [], ◌∷◌, length, Option, Some, None}
use Rattle.std.specs.Option.{option_or}
use Rattle.foundation.specs.Limits.{most_columns, most_records}
use Rattle.edit_model.specs.declared.field.Field.{Field}
use Rattle.record_text.specs.Columns.{columns_of}
use Rattle.record_text.specs.Trimming.{header_of}
use Rattle.record_text.specs.declared.fault.SheetFault.{SheetFault}
use Rattle.record_text.specs.declared.fault.SheetFault.TheVariants.{NoHeader, TooManyColumns, NoColumn, DoubleColumn, TooManyRows}
use Rattle.record_text.specs.declared.fault.SheetFault.TheVariants.{RowLength}

-- what is wrong where a field stands in these columns: it has to stand in one
abbrev pub field_fault : ℕ → List ℕ → Option SheetFault
field_fault field [] = Some (NoColumn field)
field_fault field (column ∷ []) = None
field_fault field (column ∷ second ∷ more) = Some (DoubleColumn field)

-- the fault of the first field, from number i on, that stands in other than one column
abbrev pub column_fault : ℕ → List Field → List (List ℕ) → Option SheetFault
column_fault i [] header = None
column_fault i (field ∷ fields) header = option_or (field_fault i (columns_of field.name header)) (column_fault (suc i) fields header)

-- the fault of the first faulty row, from number i on: it is row 200,000 from 0, or has not as many fields as the header
abbrev pub row_fault : ℕ → ℕ → List (List (List ℕ)) → Option SheetFault
row_fault i width [] = None
row_fault i width (raw ∷ row_texts) =
    if i == most_records then Some TooManyRows
    else if length raw == width then row_fault (suc i) width row_texts
    else Some (RowLength i)

-- the first of what is wrong with the records of a file: no header, a header of more than 256 columns, a field without its
-- one column, a faulty row; None where nothing is
abbrev pub sheet_fault : List Field → List (List (List ℕ)) → Option SheetFault
sheet_fault fields [] = Some NoHeader
sheet_fault fields (first ∷ row_texts) =
    if nat_lt most_columns (length first) then Some TooManyColumns
    else option_or (column_fault 0 fields (header_of first)) (row_fault 0 (length first) row_texts)
