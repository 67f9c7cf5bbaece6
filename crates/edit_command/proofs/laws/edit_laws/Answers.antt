use Rattle.edit_command.proofs.OneMade.{one-made}
use Rattle.edit_command.proofs.WholeLaws.{whole-released}
use Rattle.edit_command.proofs.laws.edit_laws.Goals as goal

pub returns : goal.returns
returns c = record { whole = whole-released; one = one-made }
