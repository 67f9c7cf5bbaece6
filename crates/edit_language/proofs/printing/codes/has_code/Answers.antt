use Rattle.edit_model.proofs.BitSets.{no_code_past}
use Rattle.edit_language.proofs.printing.codes.has_code.Goals as goal

pub returns-else-code-lt64 : goal.returns-else-code-lt64
returns-else-code-lt64 c = no_code_past c.args.set c.args.code c.ranges.set.fits c.if-code-lt64.false
