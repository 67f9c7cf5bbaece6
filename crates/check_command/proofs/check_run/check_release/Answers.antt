use Rattle.std.proofs.Common.{sym}
use Rattle.cert_check.specs.Releases.{Audit, audit_of}
use Rattle.check_command.proofs.AuditLaws.{valid-line, memory-refused, told-refused}
use Rattle.check_command.proofs.check_run.check_release.Goals as goal

pub returns-in-Ok-clause-valid : goal.returns-in-Ok-clause-valid
returns-in-Ok-clause-valid c =
    let audit : Audit = audit_of c.args.input.0 c.args.input.1 c.args.released.items c.args.proof.items in
    valid-line audit c.len.result c.in-Ok.count c.valid_line.result
    (rw (c.deref.ensures.value, c.deref-2.ensures.value) at c.in-Ok.ensures.valid)
    (rw (c.deref.ensures.value, c.deref-2.ensures.value) at c.in-Ok.ensures.shown) (sym c.len.ensures.rows)
    (rw c.deref-2.ensures.value at c.in-Ok.ensures.count) c.valid_line.ensures.line

pub returns-in-Ok-clause-refused : goal.returns-in-Ok-clause-refused
returns-in-Ok-clause-refused c =
    let audit : Audit = audit_of c.args.input.0 c.args.input.1 c.args.released.items c.args.proof.items in
    memory-refused audit c.valid_line.result c.valid_line.ensures.memory

pub returns-clause-refused : goal.returns-clause-refused
returns-clause-refused c =
    let audit : Audit = audit_of c.args.input.0 c.args.input.1 c.args.released.items c.args.proof.items in
    told-refused audit c.in-Err.fault c.of.result (rw (c.deref.ensures.value, c.deref-2.ensures.value) at c.in-Err.ensures.rejected)
    (rw (c.deref.ensures.value, c.deref-2.ensures.value) at c.in-Err.ensures.invalid) (rw c.from.ensures at c.of.ensures)
