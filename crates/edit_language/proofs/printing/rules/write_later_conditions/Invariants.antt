use Rattle.std.proofs.Common.{◌≡◌, ◌++◌, take}
use Rattle.edit_language.specs.Printing.{later_conditions_text}
use Rattle.edit_language.proofs.printing.rules.write_later_conditions.Given as goal

abbrev pub invariant-loop-condition : goal.invariant-loop-condition
invariant-loop-condition l = l.text.items ≡ l.fn.text.items ++ later_conditions_text l.fields (take l.condition-index l.conditions)
