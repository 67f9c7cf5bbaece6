use Rattle.std.proofs.Common.{◌≡◌, drop}
use Rattle.edit_model.specs.Trials.{rule_at, tests_at}
use Rattle.edit_model.proofs.trial.holds.Given as goal

abbrev pub invariant-loop-condition : goal.invariant-loop-condition
invariant-loop-condition l = tests_at (drop l.condition-index l.rule.conditions) l.rule.conclusion l.row ≡ rule_at l.rule l.row
