use Rattle.std.proofs.Common.{arith}
use Rattle.std.proofs.lemmas.Grind.{common_steps}
use Rattle.cert_check.proofs.claim_form.clean_flags.Goals as goal

pub is_clean-requires : goal.is_clean-requires
is_clean-requires c = grind (arith, common_steps)

pub loop-row_no-preserved : goal.loop-row_no-preserved
loop-row_no-preserved c = grind (arith, common_steps)

pub returns : goal.returns
returns c = grind (arith, common_steps)
