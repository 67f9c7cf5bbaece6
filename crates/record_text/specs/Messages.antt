-- What is printed of faults.
use Rattle.std.specs.Prelude.{ℕ, ◌+◌, ◌++◌, List, codes}
use Rattle.std.specs.Fmt.{decimal}
use Rattle.record_text.specs.declared.fault.SheetFault.{SheetFault}
use Rattle.record_text.specs.declared.fault.SheetFault.TheVariants.{NoHeader, TooManyColumns, NoColumn, DoubleColumn, TooManyRows}
use Rattle.record_text.specs.declared.fault.SheetFault.TheVariants.{RowLength, OutOfMemory}
use Rattle.record_text.specs.declared.table_fault.TableFault.{TableFault}
use Rattle.record_text.specs.declared.table_fault.TableFault.TheVariants as table

-- a fault in words; fields and rows are counted from 1
abbrev pub fault_text : SheetFault → List ℕ
fault_text NoHeader = codes "the record file has no header"
fault_text TooManyColumns = codes "the header has more than 256 columns"
fault_text (NoColumn field) = codes "no column has the name of field " ++ decimal (field + 1)
fault_text (DoubleColumn field) = codes "several columns have the name of field " ++ decimal (field + 1)
fault_text TooManyRows = codes "the record file has more than 200000 rows"
fault_text (RowLength row_no) = codes "row " ++ decimal (row_no + 1) ++ codes " has another number of fields than the header"
fault_text OutOfMemory = codes "out of memory"

-- a table's fault in words; rows are counted from 1
abbrev pub table_fault_text : TableFault → List ℕ
table_fault_text table.NoHeader = codes "the table has no header"
table_fault_text table.TooManyRows = codes "the table has more than 4294967295 rows"
table_fault_text (table.RowLength row_no) = codes "row " ++ decimal (row_no + 1) ++ codes " has another number of fields than the header"
table_fault_text table.OutOfMemory = codes "out of memory"
