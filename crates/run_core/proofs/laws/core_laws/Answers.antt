use Rattle.run_core.proofs.ClaimLaws.{history_is}
use Rattle.run_core.proofs.DrawLaws.{drawn_once}
use Rattle.run_core.proofs.PublishLaws.{published_stays}
use Rattle.run_core.proofs.laws.core_laws.Goals as goal

pub returns-clause-drawn : goal.returns-clause-drawn
returns-clause-drawn c = drawn_once

pub returns-clause-published : goal.returns-clause-published
returns-clause-published c = published_stays

pub returns-clause-history : goal.returns-clause-history
returns-clause-history c = history_is
