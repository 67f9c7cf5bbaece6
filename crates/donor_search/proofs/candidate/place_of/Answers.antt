use Rattle.std.proofs.Common.{◌∙◌, sym}
use Rattle.donor_search.specs.inner.Candidates.{is_before}
use Rattle.donor_search.proofs.RankingLaws.{place_none}
use Rattle.donor_search.proofs.candidate.place_of.Goals as goal

pub returns-in-None-clause-place : goal.returns-in-None-clause-place
returns-in-None-clause-place c = place_none (is_before c.args.candidate) c.args.nearest.now (sym c.in-None.is ∙ c.first_behind.ensures)
