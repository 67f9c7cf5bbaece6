use Rattle.std.proofs.Common.{◌≡◌, ◌++◌, drop}
use Rattle.rule_report.specs.LineTexts.{conditions_of}
use Rattle.rule_report.proofs.conditions.tests_of.Given as goal

abbrev pub invariant-loop-place : goal.invariant-loop-place
invariant-loop-place l = l.tests.items ++ conditions_of (drop l.place l.fields) (drop l.place l.sets) (drop l.place l.wholes)
    ≡ conditions_of l.fields l.sets l.wholes
