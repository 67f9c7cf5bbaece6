use Rattle.record_text.specs.Sheets.{IsSheet, IsSheetFault}
use Rattle.record_text.specs.declared.fault.SheetFault.TheVariants.{OutOfMemory}
use Rattle.record_text.proofs.FirstRecord.{fault_of_bytes, read_of_bytes}
use Rattle.record_text.proofs.reading.read_sheet.Goals as goal

pub returns-clause-sheet : goal.returns-clause-sheet
returns-clause-sheet c =
    read_of_bytes c.args.bytes.now _ c.open_records-reader.ensures c.sheet_of.result (IsSheet c.args.survey.now.fields) c.sheet_of.ensures.sheet

pub returns-clause-fault : goal.returns-clause-fault
returns-clause-fault c =
    fault_of_bytes c.args.bytes.now _ c.open_records-reader.ensures c.sheet_of.result OutOfMemory (IsSheetFault c.args.survey.now.fields)
    c.sheet_of.ensures.fault
