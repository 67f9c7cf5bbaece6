use Rattle.std.proofs.Transfers.{starts_with_trans}
use Rattle.proof_text.proofs.writing.steps.write_multiple.Goals as goal

pub returns-in_err-write_named-clause-begins : goal.returns-in_err-write_named-clause-begins
returns-in_err-write_named-clause-begins c = c.write_named.ensures.begins

pub returns-clause-begins : goal.returns-clause-begins
returns-clause-begins c = starts_with_trans _ _ _ c.write_signed.ensures.begins c.write_named.ensures.begins
