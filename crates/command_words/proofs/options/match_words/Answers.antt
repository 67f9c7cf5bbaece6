use Rattle.std.proofs.Common.{sym}
use Rattle.command_words.proofs.FoundLaws.{both_left}
use Rattle.command_words.proofs.options.match_words.Goals as goal

pub returns-in-Ok-clause-some : goal.returns-in-Ok-clause-some
returns-in-Ok-clause-some c = record {
  taken = c.in-Ok.ensures.kinds c.requires;
  rows = sym (c.in-Ok.ensures.matches (both_left _ _ c.requires)).0;
}
