use Rattle.command_words.specs.Asked.{GivesClassed, classed_command}
use Rattle.command_words.proofs.AskedLaws.{asked_by, found_by, if_none, if_some, not_asked, one_classed}
use Rattle.command_words.proofs.classed_words.classed_asked.Goals as goal

pub returns-in_default-clause-none : goal.returns-in_default-clause-none
returns-in_default-clause-none c = λ asked. not_asked classed_command _ (λ rows. GivesClassed rows asked) (rw c.in_default.is at c.in_ok-found.ensures.none)

pub returns-clause-some : goal.returns-clause-some
returns-clause-some c =
    let finds = rw c.in-Some.is at c.in_ok-found.ensures.some in
    if_some c.classed_of.result (λ asked gives. asked_by classed_command _ (λ rows. GivesClassed rows asked) _ finds gives) c.classed_of.ensures.some

pub returns-clause-only : goal.returns-clause-only
returns-clause-only c =
    let finds = rw c.in-Some.is at c.in_ok-found.ensures.some in
    if_some c.classed_of.result
    (λ asked gives other asks. one_classed _ other asked (found_by classed_command _ (λ rows. GivesClassed rows other) _ finds asks) gives)
    c.classed_of.ensures.some

pub returns-clause-none : goal.returns-clause-none
returns-clause-none c =
    let finds = rw c.in-Some.is at c.in_ok-found.ensures.some in
    if_none c.classed_of.result
    (λ ungiven asked asks. ungiven asked (found_by classed_command _ (λ rows. GivesClassed rows asked) _ finds asks))
    c.classed_of.ensures.none
