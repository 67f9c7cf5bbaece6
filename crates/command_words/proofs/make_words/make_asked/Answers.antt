use Rattle.command_words.specs.Asked.{GivesMake, make_command}
use Rattle.command_words.proofs.AskedLaws.{asked_by, found_by, if_none, if_some, not_asked, one_make}
use Rattle.command_words.proofs.make_words.make_asked.Goals as goal

pub returns-in_default-clause-none : goal.returns-in_default-clause-none
returns-in_default-clause-none c = λ asked. not_asked make_command _ (λ rows. GivesMake rows asked) (rw c.in_default.is at c.in_ok-found.ensures.none)

pub returns-clause-some : goal.returns-clause-some
returns-clause-some c =
    let finds = rw c.in-Some.is at c.in_ok-found.ensures.some in
    if_some c.make_of.result (λ asked gives. asked_by make_command _ (λ rows. GivesMake rows asked) _ finds gives) c.make_of.ensures.some

pub returns-clause-only : goal.returns-clause-only
returns-clause-only c =
    let finds = rw c.in-Some.is at c.in_ok-found.ensures.some in
    if_some c.make_of.result
    (λ asked gives other asks. one_make _ other asked (found_by make_command _ (λ rows. GivesMake rows other) _ finds asks) gives)
    c.make_of.ensures.some

pub returns-clause-none : goal.returns-clause-none
returns-clause-none c =
    let finds = rw c.in-Some.is at c.in_ok-found.ensures.some in
    if_none c.make_of.result
    (λ ungiven asked asks. ungiven asked (found_by make_command _ (λ rows. GivesMake rows asked) _ finds asks))
    c.make_of.ensures.none
