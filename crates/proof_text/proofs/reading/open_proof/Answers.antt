use Rattle.std.proofs.Common.{sym, ◌∙◌}
use Rattle.proof_grammar.proofs.ProofWords.{text-once}
use Rattle.proof_text.proofs.FileReads.{end-fault, file-fault, file-found}
use Rattle.proof_text.proofs.reading.open_proof.Goals as goal

pub returns-in-Err-clause-fault : goal.returns-in-Err-clause-fault
returns-in-Err-clause-fault c = λ line is. file-fault c.args.bytes.now c.new-lines.result c.read_file.new.lines c.in-Err.fault line c.new-lines.ensures
    c.in-Err.ensures (cc (is))

pub returns-in-Ok-end-clause-plain : goal.returns-in-Ok-end-clause-plain
returns-in-Ok-end-clause-plain c = (file-found c.args.bytes.now c.new-lines.result c.read_file.new.lines c.in-Ok.proof c.new-lines.ensures c.in-Ok.ensures
    c.in-Ok-end.ensures).0

pub returns-in-Ok-end-clause-spelled : goal.returns-in-Ok-end-clause-spelled
returns-in-Ok-end-clause-spelled c = (file-found c.args.bytes.now c.new-lines.result c.read_file.new.lines c.in-Ok.proof c.new-lines.ensures c.in-Ok.ensures
    c.in-Ok-end.ensures).1

pub returns-in-Ok-end-clause-only : goal.returns-in-Ok-end-clause-only
returns-in-Ok-end-clause-only c = λ other plain same. text-once other c.in-Ok.proof plain (returns-in-Ok-end-clause-plain c)
    (sym same ∙ returns-in-Ok-end-clause-spelled c)

pub returns-clause-fault : goal.returns-clause-fault
returns-clause-fault c = λ line is. end-fault c.args.bytes.now c.new-lines.result c.read_file.new.lines c.in-Ok.proof c.in-Err-end.fault line
    c.new-lines.ensures c.in-Ok.ensures c.in-Err-end.ensures (cc (is))
