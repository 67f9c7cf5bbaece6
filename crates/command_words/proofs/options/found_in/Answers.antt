use Rattle.std.proofs.Common.{◌∙◌, ap}
use Rattle.clap.specs.Words.{is_simple_and_free}
use Rattle.command_words.proofs.AskedLaws.{found_for, none_for}
use Rattle.command_words.proofs.CommandLaws.{both_given}
use Rattle.command_words.proofs.options.found_in.Goals as goal

pub match_words-requires : goal.match_words-requires
match_words-requires c =
    ap is_simple_and_free (both_given _ _ _ _ _ _ c.command_named.ensures c.in_ok-command.ensures c.in_ok-command-2.ensures) ∙ c.requires

pub returns-clause-some : goal.returns-clause-some
returns-clause-some c =
    found_for _ _ (both_given _ _ _ _ _ _ c.command_named.ensures c.in_ok-command.ensures c.in_ok-command-2.ensures)
    _ _ c.in-Some.ensures.some c.match_words.result c.match_words.ensures.some

pub returns-clause-none : goal.returns-clause-none
returns-clause-none c =
    none_for _ _ (both_given _ _ _ _ _ _ c.command_named.ensures c.in_ok-command.ensures c.in_ok-command-2.ensures)
    _ _ c.in-Some.ensures.some c.match_words.result c.match_words.ensures.none
