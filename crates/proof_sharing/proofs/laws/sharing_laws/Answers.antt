use Rattle.proof_sharing.proofs.SharedCoherence.{coherent-shared}
use Rattle.proof_sharing.proofs.SharedPlain.{plain-shared}
use Rattle.proof_sharing.proofs.laws.sharing_laws.Goals as goal

pub returns : goal.returns
returns c = record { coherent = coherent-shared; plain = plain-shared }
