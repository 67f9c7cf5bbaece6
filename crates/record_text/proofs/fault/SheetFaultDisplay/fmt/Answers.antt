use Rattle.std.proofs.Common.{arith}
use Rattle.std.proofs.lemmas.Grind.{elements}
use Rattle.record_text.proofs.fault.SheetFaultDisplay.fmt.Goals as goal

pub returns-in-RowLength-clause-writes : goal.returns-in-RowLength-clause-writes
returns-in-RowLength-clause-writes g c = grind (arith, elements)
