use Rattle.std.proofs.Common.{length}
use Rattle.redundancy.proofs.proving.+maker.Given as goal

abbrev pub decreases-maker : goal.decreases-maker
decreases-maker l = length l.lists.now
