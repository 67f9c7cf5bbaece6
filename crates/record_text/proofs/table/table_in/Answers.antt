use Rattle.record_text.specs.Tables.{IsTable, IsTableFault}
use Rattle.record_text.specs.declared.table_fault.TableFault.TheVariants.{OutOfMemory}
use Rattle.record_text.proofs.FirstRecord.{fault_of_bytes, read_of_bytes}
use Rattle.record_text.proofs.table.table_in.Goals as goal

pub returns-clause-table : goal.returns-clause-table
returns-clause-table c =
    read_of_bytes c.args.bytes.now _ c.open_records-reader.ensures c.table_of.result (λ bytes table. IsTable bytes table) c.table_of.ensures.table

pub returns-clause-fault : goal.returns-clause-fault
returns-clause-fault c =
    fault_of_bytes c.args.bytes.now _ c.open_records-reader.ensures c.table_of.result OutOfMemory (λ bytes fault. IsTableFault bytes fault)
    c.table_of.ensures.fault
