use Rattle.record_ends.proofs.OneEnd.{one-end}
use Rattle.record_ends.proofs.laws.end_laws.Goals as goal

pub returns : goal.returns
returns c = record { one = one-end }
