use Rattle.command_words.specs.Asked.{GivesPage, page_command}
use Rattle.command_words.proofs.AskedLaws.{asked_by, found_by, if_none, if_some, not_asked, one_page}
use Rattle.command_words.proofs.page_words.page_asked.Goals as goal

pub returns-in_default-clause-none : goal.returns-in_default-clause-none
returns-in_default-clause-none c = λ asked. not_asked page_command _ (λ rows. GivesPage rows asked) (rw c.in_default.is at c.in_ok-found.ensures.none)

pub returns-clause-some : goal.returns-clause-some
returns-clause-some c =
    let finds = rw c.in-Some.is at c.in_ok-found.ensures.some in
    if_some c.page_of.result (λ asked gives. asked_by page_command _ (λ rows. GivesPage rows asked) _ finds gives) c.page_of.ensures.some

pub returns-clause-only : goal.returns-clause-only
returns-clause-only c =
    let finds = rw c.in-Some.is at c.in_ok-found.ensures.some in
    if_some c.page_of.result
    (λ asked gives other asks. one_page _ other asked (found_by page_command _ (λ rows. GivesPage rows other) _ finds asks) gives)
    c.page_of.ensures.some

pub returns-clause-none : goal.returns-clause-none
returns-clause-none c =
    let finds = rw c.in-Some.is at c.in_ok-found.ensures.some in
    if_none c.page_of.result
    (λ ungiven asked asks. ungiven asked (found_by page_command _ (λ rows. GivesPage rows asked) _ finds asks))
    c.page_of.ensures.none
