use Rattle.edit_paths.proofs.ClosedPaths.{closed-path}
use Rattle.edit_paths.proofs.EventLaws.{step-names, test-names}
use Rattle.edit_paths.proofs.OpenPaths.{open-path}
use Rattle.edit_paths.proofs.ReachedLaws.{best-first, reached-are, reached-sorted}
use Rattle.edit_paths.proofs.laws.path_laws.Goals as goal

pub returns-clause-closed_path : goal.returns-clause-closed_path
returns-clause-closed_path c d path is closed p meets agrees = closed-path d is path closed p meets agrees

pub returns-clause-open_path : goal.returns-clause-open_path
returns-clause-open_path c d path is complete fits = open-path d is path complete fits

pub returns-clause-reached : goal.returns-clause-reached
returns-clause-reached c d path = reached-are d path

pub returns-clause-order : goal.returns-clause-order
returns-clause-order c d = reached-sorted d

pub returns-clause-walk : goal.returns-clause-walk
returns-clause-walk c d = best-first d

pub returns-clause-step_overflow : goal.returns-clause-step_overflow
returns-clause-step_overflow c d path first second place fits reached e = step-names d path first second place fits reached e

pub returns-clause-test_overflow : goal.returns-clause-test_overflow
returns-clause-test_overflow c d path line field e = test-names d path line field e
