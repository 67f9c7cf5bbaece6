use Rattle.std.proofs.Common.{◌∙◌, ap, length, sym}
use Rattle.cert_check.specs.inner.Answers.{audit_in}
use Rattle.cert_check.proofs.AuditLaws.{drop-answers, head-answers, table-answers}
use Rattle.cert_check.proofs.said_check.check_said.Goals as goal

pub returns-in-Some : goal.returns-in-Some
returns-in-Some c = λ bytes spelled.
    let lines = ap length (c.deref.ensures.value ∙ c.in_ok-lines.ensures.lines) in
    let head = rw (lines, c.len.ensures.rows) at (sym c.head_fault.ensures ∙ c.in-Some.is) in
    rw c.rejection.ensures (head-answers (audit_in c.args.audit.now bytes) c.args.said.now spelled c.in-Some.line head)

pub returns-in-Some-2 : goal.returns-in-Some-2
returns-in-Some-2 c = λ bytes spelled.
    let lines = ap length (c.deref.ensures.value ∙ c.in_ok-lines.ensures.lines) in
    let head = rw (lines, c.len.ensures.rows) at (sym c.head_fault.ensures ∙ c.in_default.is) in
    rw c.rejection-in-Some-2.ensures (drop-answers (audit_in c.args.audit.now bytes) c.args.said.now spelled c.in-Some-2.line head
    (sym c.in_ok-line.ensures.found ∙ c.in-Some-2.is))

pub returns-in-Some-3 : goal.returns-in-Some-3
returns-in-Some-3 c = λ bytes spelled.
    let lines = ap length (c.deref.ensures.value ∙ c.in_ok-lines.ensures.lines) in
    let head = rw (lines, c.len.ensures.rows) at (sym c.head_fault.ensures ∙ c.in_default.is) in
    rw c.rejection-in-Some-3.ensures
    (table-answers (audit_in c.args.audit.now bytes) c.args.said.now spelled c.in-Some-3.line head (sym c.in_ok-line.ensures.found ∙ c.in_default-2.is)
    (sym c.in_ok-line-2.ensures.found ∙ c.in-Some-3.is))
