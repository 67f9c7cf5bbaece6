use Rattle.edit_release.proofs.GuaranteeLaws.{released-least}
use Rattle.edit_release.proofs.OneEdit.{one-edit}
use Rattle.edit_release.proofs.laws.release_laws.Goals as goal

pub returns : goal.returns
returns c = record { released = released-least; one = one-edit }
