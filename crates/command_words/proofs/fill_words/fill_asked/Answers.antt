use Rattle.command_words.specs.Asked.{GivesFill, fill_command}
use Rattle.command_words.proofs.AskedLaws.{asked_by, found_by, if_none, if_some, not_asked, one_fill}
use Rattle.command_words.proofs.fill_words.fill_asked.Goals as goal

pub returns-in_default-clause-none : goal.returns-in_default-clause-none
returns-in_default-clause-none c = λ asked. not_asked fill_command _ (λ rows. GivesFill rows asked) (rw c.in_default.is at c.in_ok-found.ensures.none)

pub returns-clause-some : goal.returns-clause-some
returns-clause-some c =
    let finds = rw c.in-Some.is at c.in_ok-found.ensures.some in
    if_some c.fill_of.result (λ asked gives. asked_by fill_command _ (λ rows. GivesFill rows asked) _ finds gives) c.fill_of.ensures.some

pub returns-clause-only : goal.returns-clause-only
returns-clause-only c =
    let finds = rw c.in-Some.is at c.in_ok-found.ensures.some in
    if_some c.fill_of.result
    (λ asked gives other asks. one_fill _ other asked (found_by fill_command _ (λ rows. GivesFill rows other) _ finds asks) gives)
    c.fill_of.ensures.some

pub returns-clause-none : goal.returns-clause-none
returns-clause-none c =
    let finds = rw c.in-Some.is at c.in_ok-found.ensures.some in
    if_none c.fill_of.result
    (λ ungiven asked asks. ungiven asked (found_by fill_command _ (λ rows. GivesFill rows asked) _ finds asks))
    c.fill_of.ensures.none
