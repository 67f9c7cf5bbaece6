use Rattle.command_words.specs.Asked.{GivesCheck, check_command}
use Rattle.command_words.proofs.AskedLaws.{asked_by, found_by, if_none, if_some, not_asked, one_check}
use Rattle.command_words.proofs.check_words.check_asked.Goals as goal

pub returns-in_default-clause-none : goal.returns-in_default-clause-none
returns-in_default-clause-none c = λ asked. not_asked check_command _ (λ rows. GivesCheck rows asked) (rw c.in_default.is at c.in_ok-found.ensures.none)

pub returns-clause-some : goal.returns-clause-some
returns-clause-some c =
    let finds = rw c.in-Some.is at c.in_ok-found.ensures.some in
    if_some c.check_of.result (λ asked gives. asked_by check_command _ (λ rows. GivesCheck rows asked) _ finds gives) c.check_of.ensures.some

pub returns-clause-only : goal.returns-clause-only
returns-clause-only c =
    let finds = rw c.in-Some.is at c.in_ok-found.ensures.some in
    if_some c.check_of.result
    (λ asked gives other asks. one_check _ other asked (found_by check_command _ (λ rows. GivesCheck rows other) _ finds asks) gives)
    c.check_of.ensures.some

pub returns-clause-none : goal.returns-clause-none
returns-clause-none c =
    let finds = rw c.in-Some.is at c.in_ok-found.ensures.some in
    if_none c.check_of.result
    (λ ungiven asked asks. ungiven asked (found_by check_command _ (λ rows. GivesCheck rows asked) _ finds asks))
    c.check_of.ensures.none
