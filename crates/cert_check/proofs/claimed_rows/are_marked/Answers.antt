use Rattle.std.proofs.Common.{arith}
use Rattle.std.proofs.lemmas.Grind.{elements}
use Rattle.cert_check.proofs.claimed_rows.are_marked.Goals as goal

pub returns-then-not-marks-row_no : goal.returns-then-not-marks-row_no
returns-then-not-marks-row_no c = grind (arith, elements)

pub loop-row_no-preserved : goal.loop-row_no-preserved
loop-row_no-preserved c = grind (arith, elements)

pub returns : goal.returns
returns c = grind (arith, elements)
