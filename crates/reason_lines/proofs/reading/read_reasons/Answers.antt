use Rattle.reason_lines.proofs.FileLaws.{first_by_fault, only_by_reasons, unread_by_fault}
use Rattle.reason_lines.proofs.RisingLaws.{rising_by_reasons}
use Rattle.reason_lines.proofs.WithinLaws.{within_by_reasons}
use Rattle.reason_lines.proofs.reading.read_reasons.Goals as goal

pub returns-clause-only : goal.returns-clause-only
returns-clause-only c = only_by_reasons c.args.survey.now.fields c.args.rows c.args.bytes.now c.read_file.result c.read_file.ensures.exact

pub returns-clause-first : goal.returns-clause-first
returns-clause-first c = first_by_fault c.args.survey.now.fields c.args.rows c.args.bytes.now c.read_file.result c.read_file.ensures.fault

pub returns-clause-unread : goal.returns-clause-unread
returns-clause-unread c = unread_by_fault c.args.survey.now.fields c.args.rows c.args.bytes.now c.read_file.result c.read_file.ensures.fault

pub returns-clause-within : goal.returns-clause-within
returns-clause-within c = within_by_reasons c.args.survey.now.fields c.args.rows c.args.bytes.now c.read_file.result c.read_file.ensures.exact

pub returns-clause-rising : goal.returns-clause-rising
returns-clause-rising c = rising_by_reasons c.args.survey.now.fields c.args.rows c.args.bytes.now c.read_file.result c.read_file.ensures.exact
