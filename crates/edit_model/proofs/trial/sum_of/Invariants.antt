use Rattle.std.proofs.Common.{◌≡◌, drop}
use Rattle.fraction128.specs.Formulas.{ratio_of}
use Rattle.edit_model.specs.Trials.{trial_sum, sum_over}
use Rattle.edit_model.proofs.trial.sum_of.Given as goal

abbrev pub invariant-loop-term : goal.invariant-loop-term
invariant-loop-term l = sum_over (drop l.term-index l.linear.terms) l.row (ratio_of l.sum) ≡ trial_sum l.linear l.row
