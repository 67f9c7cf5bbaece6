use Rattle.cert_check.proofs.SharedReleaseLaws.{release-shared}
use Rattle.cert_check.proofs.SharedRowLaws.{rows-shared}
use Rattle.cert_check.proofs.sharing.sharing_laws.Goals as goal

pub returns : goal.returns
returns c = record { rows = rows-shared; release = release-shared }
