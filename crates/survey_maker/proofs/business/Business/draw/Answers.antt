use Rattle.std.proofs.Common.{rules}
use Rattle.survey_maker.specs.Businesses.{costs_at, profit_at, size_at, staff_at}
use Rattle.survey_maker.proofs.business.Business.draw.Goals as goal

pub returns-clause-drawn : goal.returns-clause-drawn
unfolding size_at staff_at costs_at profit_at
returns-clause-drawn c = search rules
