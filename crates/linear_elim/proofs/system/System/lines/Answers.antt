use Rattle.std.proofs.Common.{subst}
use Rattle.linear_elim.specs.Parts.{Lifts}
use Rattle.linear_elim.specs.Systems.{SystemParts}
use Rattle.linear_elim.proofs.system.System.lines.Goals as goal

pub returns-clause-lifts : goal.returns-clause-lifts
returns-clause-lifts c = subst (λ (parts : SystemParts). Lifts parts) c.self.view_is c.self.invariant.lifts
