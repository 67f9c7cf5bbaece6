use Rattle.std.specs.Fmt.{digits}
use Rattle.survey_maker.proofs.rules.rules_text.Goals as goal

pub returns : goal.returns
unfolding digits
returns c = c.in_ok-from_slice.ensures.items
