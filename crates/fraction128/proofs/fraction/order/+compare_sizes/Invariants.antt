use Rattle.std.proofs.Common.{◌+◌}
use Rattle.fraction128.proofs.fraction.order.+compare_sizes.Given as goal

abbrev pub decreases-compare_sizes : goal.decreases-compare_sizes
decreases-compare_sizes l = l.b + l.d
