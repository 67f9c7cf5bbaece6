-- Tables: CSV texts of which nothing is known but that their rows are as long as their header.
use Rattle.std.specs.Prelude.{◌≡◌, ℕ, suc, ◌==◌, ◌^◌, ◌-◌, if◌then◌else◌, List, [], ◌∷◌, length, Option, Some, None}
use Rattle.record_text.specs.Sheets.{AreRecordsOf}
use Rattle.record_text.specs.Trimming.{header_of}
use Rattle.record_text.specs.declared.table_fault.TableFault.{TableFault}
use Rattle.record_text.specs.declared.table_fault.TableFault.TheVariants.{NoHeader, TooManyRows, RowLength}

-- a table as read: the texts of its header, and those of its rows
pub record TableParts : Type 0 where
  pub header : List (List ℕ)
  pub rows : List (List (List ℕ))

-- the fault of the first faulty row, from number i on: it stands behind the most rows that there may be, or has not so many texts
abbrev pub rows_fault : ℕ → ℕ → ℕ → List (List (List ℕ)) → Option TableFault
rows_fault most width i [] = None
rows_fault most width i (texts ∷ rows) =
    if i == most then Some TooManyRows
    else if length texts == width then rows_fault most width (suc i) rows
    else Some (RowLength i)

-- the most rows of a table
abbrev pub most_table_rows : ℕ
most_table_rows = 2 ^ 32 - 1

-- the first of what is wrong with the records of a table: no header, a row longer or shorter than it; None where nothing is
abbrev pub table_fault : List (List (List ℕ)) → Option TableFault
table_fault [] = Some NoHeader
table_fault (first ∷ rows) = rows_fault most_table_rows (length first) 0 rows

-- the table that the bytes give: nothing is wrong with their records, which are the header and the rows
pub record IsTable (bytes : List ℕ) (table : TableParts) : Type 0 where
  pub first : List (List ℕ)
  pub given : AreRecordsOf bytes (first ∷ table.rows)
  pub faultless : table_fault (first ∷ table.rows) ≡ None
  pub header : table.header ≡ header_of first

-- the first of what is wrong with the bytes' records is this fault
pub record IsTableFault (bytes : List ℕ) (fault : TableFault) : Type 0 where
  pub records : List (List (List ℕ))
  pub given : AreRecordsOf bytes records
  pub found : table_fault records ≡ Some fault
