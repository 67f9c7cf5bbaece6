use Rattle.std.proofs.Common.{rules, arith}
use Rattle.edit_model.proofs.BitSets.{shifted_out, fits_many}
use Rattle.edit_model.proofs.check.rule.fits_codes.Goals as goal

pub returns-then-count-ge64 : goal.returns-then-count-ge64
returns-then-count-ge64 c = (
  λ _. (omega arith, fits_many c.args.set c.args.count c.ranges.set.fits c.if-count-ge64.true),
  λ _. search rules,
)

pub returns-else-count-ge64 : goal.returns-else-count-ge64
returns-else-count-ge64 c =
    let decided = shifted_out c.args.set c.args.count in
    (λ none_left. (omega arith, decided.0 none_left), λ fits. decided.1 fits.1)
