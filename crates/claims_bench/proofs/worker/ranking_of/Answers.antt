use Rattle.std.proofs.Common.{refl}
use Rattle.claims_bench.proofs.worker.ranking_of.Goals as goal

pub returns-clause-ranking : goal.returns-clause-ranking
returns-clause-ranking c = refl
