use Rattle.edit_report.proofs.LineLaws.{changed-told, clean-told, released-count, unresolved-told}
use Rattle.edit_report.proofs.laws.report_laws.Goals as goal

pub returns-clause-released : goal.returns-clause-released
returns-clause-released c = released-count

pub returns-clause-clean : goal.returns-clause-clean
returns-clause-clean c = clean-told

pub returns-clause-changed : goal.returns-clause-changed
returns-clause-changed c = changed-told

pub returns-clause-unresolved : goal.returns-clause-unresolved
returns-clause-unresolved c = unresolved-told
