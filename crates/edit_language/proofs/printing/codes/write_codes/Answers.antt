use Rattle.std.proofs.lemmas.Result.{IfOk-from_err}
use Rattle.edit_language.proofs.PrintingSteps.{list_more}
use Rattle.std.proofs.Common.{arith}
use Rattle.std.proofs.lemmas.Grind.{common_steps}
use Rattle.edit_language.proofs.printing.codes.write_codes.Goals as goal

pub returns-in_err-write_code : goal.returns-in_err-write_code
returns-in_err-write_code c = IfOk-from_err _ _ c.from_residual-in_err-write_code.ensures.0

pub loop-i-preserved : goal.loop-i-preserved
loop-i-preserved c = list_more c.args.text.now.items c.args.list.now c.loop-i.i c.index-list-i.result c.loop-i.text.items _ c.loop-i-test.true c.index-list-i.is
    c.loop-i.invariant c.in_ok-write_code.ensures

pub returns : goal.returns
returns c = grind (arith, common_steps)
