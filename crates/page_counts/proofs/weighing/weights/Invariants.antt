use Rattle.std.proofs.Common.{◌≡◌}
use Rattle.page_counts.specs.Weights.{weights_of}
use Rattle.page_counts.proofs.weighing.weights.Given as goal

abbrev pub invariant-loop-number : goal.invariant-loop-number
invariant-loop-number l = l.weights.items ≡ weights_of l.survey.fields l.number l.changes
