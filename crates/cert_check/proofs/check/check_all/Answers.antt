use Rattle.std.proofs.Common.{ap, arith, length}
use Rattle.proof_grammar.specs.ProofLines.{proof_lines}
use Rattle.cert_check.specs.Releases.{audit_of}
use Rattle.cert_check.proofs.AnswerLaws.{answers-count, answers-invalid, answers-rejected, answers-valid}
use Rattle.cert_check.proofs.LineNumbers.{lines-short}
use Rattle.cert_check.proofs.ShownLaws.{release-shows}
use Rattle.cert_check.proofs.check.check_all.Goals as goal

pub check_said-requires-clause-counted : goal.check_said-requires-clause-counted
check_said-requires-clause-counted c =
    let short = lines-short (proof_lines c.in-Ok.said) in
    let spelled = ap length c.in-Ok.ensures.spelled in
    omega (arith, short, spelled)

pub returns-in-Ok-clause-valid : goal.returns-in-Ok-clause-valid
returns-in-Ok-clause-valid c =
    answers-valid (audit_of c.args.rules.now c.args.records.now c.args.released.now c.args.proof.now) (λ valid. valid) c.check_said.result
    (c.check_said.ensures c.args.proof.now (record { plain = c.in-Ok.ensures.plain; text = c.in-Ok.ensures.spelled }))

pub returns-in-Ok-clause-count : goal.returns-in-Ok-clause-count
returns-in-Ok-clause-count c =
    answers-count (audit_of c.args.rules.now c.args.records.now c.args.released.now c.args.proof.now) c.check_said.result
    (c.check_said.ensures c.args.proof.now (record { plain = c.in-Ok.ensures.plain; text = c.in-Ok.ensures.spelled }))

pub returns-in-Ok-clause-shown : goal.returns-in-Ok-clause-shown
returns-in-Ok-clause-shown c =
    let a = audit_of c.args.rules.now c.args.records.now c.args.released.now c.args.proof.now in
    answers-valid a (release-shows a c.rules-rules.ensures.well_formed c.requires.0 c.requires.1) c.check_said.result
    (c.check_said.ensures c.args.proof.now (record { plain = c.in-Ok.ensures.plain; text = c.in-Ok.ensures.spelled }))

pub returns-in-Ok-clause-rejected : goal.returns-in-Ok-clause-rejected
returns-in-Ok-clause-rejected c =
    answers-rejected (audit_of c.args.rules.now c.args.records.now c.args.released.now c.args.proof.now) c.check_said.result
    (c.check_said.ensures c.args.proof.now (record { plain = c.in-Ok.ensures.plain; text = c.in-Ok.ensures.spelled }))

pub returns-in-Ok-clause-invalid : goal.returns-in-Ok-clause-invalid
returns-in-Ok-clause-invalid c =
    answers-invalid (audit_of c.args.rules.now c.args.records.now c.args.released.now c.args.proof.now) c.check_said.result
    (c.check_said.ensures c.args.proof.now (record { plain = c.in-Ok.ensures.plain; text = c.in-Ok.ensures.spelled }))
