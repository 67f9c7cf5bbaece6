use Rattle.derivation.proofs.LineListLaws.{table-follows}
use Rattle.derivation.proofs.SharedBoxLaws.{steps-shared, valid-grows}
use Rattle.derivation.proofs.sharing.sharing_laws.Goals as goal

pub returns : goal.returns
returns c = record { follow = table-follows; shared = steps-shared; grown = valid-grows }
