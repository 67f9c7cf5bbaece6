use Rattle.std.proofs.Common.{◌≡◌, length}
use Rattle.record_text.specs.Trimming.{without_marks}
use Rattle.record_text.proofs.trim.without_marks.Given as goal

abbrev pub invariant-loop-behind : goal.invariant-loop-behind
invariant-loop-behind l = without_marks l.rest ≡ without_marks l.text

abbrev pub decreases-loop-behind : goal.decreases-loop-behind
decreases-loop-behind l = length l.rest
