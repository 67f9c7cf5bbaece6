use Rattle.edit_model.proofs.BitSets.{no_code_past}
use Rattle.edit_model.proofs.trial.is_among.Goals as goal

pub returns-else-code-lt64 : goal.returns-else-code-lt64
returns-else-code-lt64 c = no_code_past c.args.codes c.args.code c.ranges.codes.fits c.if-code-lt64.false
