use Rattle.bound_cert.proofs.SharedTreeLaws.{tree-grows, tree-shared}
use Rattle.bound_cert.proofs.sharing.sharing_laws.Goals as goal

pub returns : goal.returns
returns c = record { shared = tree-shared; grown = tree-grows }
