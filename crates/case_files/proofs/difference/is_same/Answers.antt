use Rattle.case_files.proofs.ComparisonLaws.{other_lengths}
use Rattle.case_files.proofs.difference.is_same.Goals as goal

pub returns-then-expected-came : goal.returns-then-expected-came
returns-then-expected-came c = other_lengths _ _ c.args.expected.now c.args.came.now c.if-expected-came.true
