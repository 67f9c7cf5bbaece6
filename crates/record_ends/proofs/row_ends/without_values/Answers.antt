use Rattle.std.proofs.Common.{refl}
use Rattle.record_ends.proofs.row_ends.without_values.Goals as goal

pub returns : goal.returns
returns c = record { outcome = c.proof_of.ensures.outcome; fault = c.proof_of.ensures.gift; none = (refl, refl) }
