use Rattle.record_text.proofs.TableLaws.{first_by_table_fault, only_by_table, unread_by_table_fault}
use Rattle.record_text.proofs.table.read_table.Goals as goal

pub returns-clause-only : goal.returns-clause-only
returns-clause-only c = only_by_table c.args.bytes.now c.table_in.result c.table_in.ensures.table

pub returns-clause-first : goal.returns-clause-first
returns-clause-first c = first_by_table_fault c.args.bytes.now c.table_in.result c.table_in.ensures.fault

pub returns-clause-unread : goal.returns-clause-unread
returns-clause-unread c = unread_by_table_fault c.args.bytes.now c.table_in.result c.table_in.ensures.fault
