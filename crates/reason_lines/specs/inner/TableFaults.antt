-- Faults of tables, told of a reasons file.
use Rattle.record_text.specs.declared.table_fault.TableFault.{TableFault}
use Rattle.record_text.specs.declared.table_fault.TableFault.TheVariants as table
use Rattle.reason_lines.specs.declared.fault.ReasonFault.{ReasonFault}
use Rattle.reason_lines.specs.declared.fault.ReasonFault.TheVariants.{OutOfMemory, Table}

-- the text is no table, where it is not that memory was refused
abbrev pub told_of_table : TableFault → ReasonFault
told_of_table table.OutOfMemory = OutOfMemory
told_of_table fault = Table fault
