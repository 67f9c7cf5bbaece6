use Rattle.std.proofs.Common.{◌^◌}
use Rattle.page_counts.proofs.BinLaws.{power_fits, power_small, power_some}
use Rattle.page_counts.proofs.widths.power_of_ten.Goals as goal

pub pow-requires : goal.pow-requires
pow-requires c = power_fits (10 ^ c.args.exponent) (power_small c.args.exponent c.requires)

pub returns-clause-small : goal.returns-clause-small
returns-clause-small c = power_small c.args.exponent c.requires

pub returns-clause-some : goal.returns-clause-some
returns-clause-some c = power_some c.args.exponent
