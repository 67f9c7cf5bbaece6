use Rattle.record_text.proofs.PlainLaws.{plain_by_sheet}
use Rattle.record_text.proofs.SheetLaws.{first_by_fault, only_by_sheet, unread_by_fault}
use Rattle.record_text.proofs.reading.read_records.Goals as goal

pub returns-clause-plain : goal.returns-clause-plain
returns-clause-plain c = plain_by_sheet c.args.survey.now.fields c.args.bytes.now c.read_sheet.result c.read_sheet.ensures.sheet

pub returns-clause-only : goal.returns-clause-only
returns-clause-only c = only_by_sheet c.args.survey.now.fields c.args.bytes.now c.read_sheet.result c.read_sheet.ensures.sheet

pub returns-clause-first : goal.returns-clause-first
returns-clause-first c = first_by_fault c.args.survey.now.fields c.args.bytes.now c.read_sheet.result c.read_sheet.ensures.fault

pub returns-clause-unread : goal.returns-clause-unread
returns-clause-unread c = unread_by_fault c.args.survey.now.fields c.args.bytes.now c.read_sheet.result c.read_sheet.ensures.fault
