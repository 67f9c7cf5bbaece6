use Rattle.std.proofs.Common.{inl, refl}
use Rattle.run_parts.specs.Commands.{refusals_of}
use Rattle.run_parts.specs.Run.{word_refusals}
use Rattle.run_parts.specs.declared.fault.Fault.TheVariants as fault
use Rattle.run_parts.proofs.WordLaws.{untouched-refused}
use Rattle.page_command.specs.PageRun.{page_command}
use Rattle.page_command.proofs.serving.page_main.Goals as goal

-- ---- a page

pub returns-in-Ok-Some-clause-unasked : goal.returns-in-Ok-Some-clause-unasked
returns-in-Ok-Some-clause-unasked g c = λ none. absurd (none c.in-Ok-Some.page (rw c.in-Ok-Some.field-0-is at c.in-Ok-Some.ensures.some))

pub returns-in-Ok-Some-clause-stopped : goal.returns-in-Ok-Some-clause-stopped
returns-in-Ok-Some-clause-stopped g c = λ not asked is.
    rw ((rw c.in-Ok-Some.field-0-is at c.in-Ok-Some.ensures.only) asked is) (c.run_page.ensures.stopped not)

pub returns-in-Ok-Some-clause-due : goal.returns-in-Ok-Some-clause-due
returns-in-Ok-Some-clause-due g c = λ asked is. rw ((rw c.in-Ok-Some.field-0-is at c.in-Ok-Some.ensures.only) asked is) c.run_page.ensures.due

-- ---- no page

pub returns-in-Ok-None-clause-unasked : goal.returns-in-Ok-None-clause-unasked
returns-in-Ok-None-clause-unasked g c = λ none.
    untouched-refused word_refusals fault.Usage c.refuse.result _ (record { files = refl; calls = refl; faults = refl })
    c.refuse.ensures.printed c.refuse.ensures.status tt (λ files. tt) refl (λ files. refl) (λ count. refl)

pub returns-in-Ok-None-clause-stopped : goal.returns-in-Ok-None-clause-stopped
returns-in-Ok-None-clause-stopped g c = λ not asked is. absurd ((rw c.in-Ok-None.field-0-is at c.in-Ok-None.ensures.none) asked is)

pub returns-in-Ok-None-clause-complete : goal.returns-in-Ok-None-clause-complete
returns-in-Ok-None-clause-complete g c = λ asked is. absurd ((rw c.in-Ok-None.field-0-is at c.in-Ok-None.ensures.none) asked is)

pub returns-in-Ok-None-clause-due : goal.returns-in-Ok-None-clause-due
returns-in-Ok-None-clause-due g c = λ asked is. absurd ((rw c.in-Ok-None.field-0-is at c.in-Ok-None.ensures.none) asked is)

-- ---- words for which there was no memory

pub returns-in-Err-clause-unasked : goal.returns-in-Err-clause-unasked
returns-in-Err-clause-unasked g c = λ none.
    untouched-refused word_refusals fault.OutOfMemory c.refuse-in-Err.result _ (record { files = refl; calls = refl; faults = refl })
    c.refuse-in-Err.ensures.printed c.refuse-in-Err.ensures.status tt (λ files. tt) (0, refl) (λ files. refl) (λ count. refl)

pub returns-in-Err-clause-stopped : goal.returns-in-Err-clause-stopped
returns-in-Err-clause-stopped g c = λ not asked is. inl (inl (
    untouched-refused (refusals_of (page_command asked)) fault.OutOfMemory c.refuse-in-Err.result _
    (record { files = refl; calls = refl; faults = refl })
    c.refuse-in-Err.ensures.printed c.refuse-in-Err.ensures.status tt (λ files. tt) (0, refl) (λ files. inl refl) (λ count. refl)))
