use Rattle.std.proofs.Common.{[], arith, sym}
use Rattle.std.proofs.lemmas.List.{get_or_past}
use Rattle.edit_report.proofs.reasons.text_in.Goals as goal

pub returns-else-column-len : goal.returns-else-column-len
returns-else-column-len c = sym (get_or_past c.args.texts.now c.args.column [] (omega (arith, c.if-column-len.false)))
