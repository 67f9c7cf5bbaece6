use Rattle.std.specs.Prelude.{ℕ, ◌+◌, ◌++◌, List, codes}
use Rattle.std.specs.Fmt.{decimal}
use Rattle.record_text.specs.Messages.{table_fault_text}
use Rattle.reason_lines.specs.declared.fault.LineFault.{LineFault}
use Rattle.reason_lines.specs.declared.fault.LineFault.TheVariants as line
use Rattle.reason_lines.specs.declared.fault.ReasonFault.{ReasonFault}
use Rattle.reason_lines.specs.declared.fault.ReasonFault.TheVariants.{Header, Line, OutOfMemory, Table}

-- what is wrong with a line, in words
abbrev pub line_fault_text : LineFault → List ℕ
line_fault_text line.Record = codes "does not have the number of a record"
line_fault_text line.Cause = codes "does not have a known cause"
line_fault_text line.NotEmpty = codes "leaves its record out, but names a field, a value or a donor"
line_fault_text line.Field = codes "does not have the name of a field"
line_fault_text line.Donor = codes "does not have the number of another record as its donor"
line_fault_text line.Detail = codes "does not say how the value was found"
line_fault_text line.Order = codes "does not stand in the order of the records and their fields"

-- a fault in words; lines are counted from 1
abbrev pub fault_text : ReasonFault → List ℕ
fault_text (Table fault) = codes "the reasons file was not read: " ++ table_fault_text fault
fault_text Header = codes "the header of the reasons file is not record,cause,field,before,after,donor,detail"
fault_text (Line line fault) =
    codes "line " ++ (decimal (line + 1) ++ (codes " behind the header of the reasons file " ++ line_fault_text fault))
fault_text OutOfMemory = codes "out of memory"
