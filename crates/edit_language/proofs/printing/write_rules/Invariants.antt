use Rattle.std.proofs.Common.{◌≡◌, ◌++◌, take}
use Rattle.edit_language.specs.Printing.{rule_lines}
use Rattle.edit_language.proofs.printing.write_rules.Given as goal

abbrev pub invariant-loop-rule : goal.invariant-loop-rule
invariant-loop-rule l = l.text.items ≡ l.fn.text.items ++ rule_lines l.fields (take l.rule-index l.rules)
