use Rattle.std.proofs.Common.{length}
use Rattle.edit_paths.proofs.writing.+maker.Given as goal

abbrev pub decreases-maker : goal.decreases-maker
decreases-maker l = length l.levels.now
