use Rattle.record_text.proofs.Refusals.{no_value}
use Rattle.std.proofs.Common.{arith}
use Rattle.std.proofs.lemmas.Grind.{common_steps}
use Rattle.record_text.proofs.texts.Texts.slices.Goals as goal

pub returns-in_err-slices : goal.returns-in_err-slices
returns-in_err-slices c = no_value c.from_residual.result _ _ c.from_residual.ensures.1

pub returns-in_err-push : goal.returns-in_err-push
returns-in_err-push c = no_value c.from_residual-in_err-push.result _ _ c.from_residual-in_err-push.ensures.1

pub loop-place-preserved : goal.loop-place-preserved
loop-place-preserved c = grind (arith, common_steps)

pub returns : goal.returns
returns c = grind (arith, common_steps)
