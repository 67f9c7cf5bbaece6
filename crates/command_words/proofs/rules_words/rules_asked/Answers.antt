use Rattle.command_words.specs.Asked.{GivesRules, rules_command}
use Rattle.command_words.proofs.AskedLaws.{asked_by, found_by, if_none, if_some, not_asked}
use Rattle.command_words.proofs.rules_words.rules_asked.Goals as goal

pub returns-in_default-clause-none : goal.returns-in_default-clause-none
returns-in_default-clause-none c = λ asked. not_asked rules_command _ (λ rows. GivesRules rows asked) (rw c.in_default.is at c.in_ok-found.ensures.none)

pub returns-clause-some : goal.returns-clause-some
returns-clause-some c =
    let finds = rw c.in-Some.is at c.in_ok-found.ensures.some in
    if_some c.rules_of.result (λ asked gives. asked_by rules_command _ (λ rows. GivesRules rows asked) _ finds gives) c.rules_of.ensures.some

pub returns-clause-none : goal.returns-clause-none
returns-clause-none c =
    let finds = rw c.in-Some.is at c.in_ok-found.ensures.some in
    if_none c.rules_of.result
    (λ ungiven asked asks. ungiven asked (found_by rules_command _ (λ rows. GivesRules rows asked) _ finds asks))
    c.rules_of.ensures.none
