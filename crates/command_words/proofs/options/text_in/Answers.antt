use Rattle.std.proofs.Common.{◌∙◌}
use Rattle.clap.proofs.WalkLemmas.{first_value-rows}
use Rattle.clap.specs.Words.{found_of}
use Rattle.command_words.proofs.FoundLaws.{no_text, some_text}
use Rattle.command_words.proofs.options.text_in.Goals as goal

pub returns-clause-some : goal.returns-clause-some
returns-clause-some c = some_text c.get_str.result _ (c.get_str.ensures ∙ first_value-rows (found_of c.args.found.now) c.args.name.now)

pub returns-clause-none : goal.returns-clause-none
returns-clause-none c = no_text c.get_str.result _ (c.get_str.ensures ∙ first_value-rows (found_of c.args.found.now) c.args.name.now)
