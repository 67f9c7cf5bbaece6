use Rattle.std.proofs.Common.{◌≡◌, map, take}
use Rattle.page_sections.specs.RuleSection.{rule_bar}
use Rattle.page_sections.specs.Sections.{bar_parts}
use Rattle.page_sections.proofs.rules.rule_bars.Given as goal

abbrev pub invariant-loop-amount : goal.invariant-loop-amount
invariant-loop-amount l = map bar_parts l.bars.items ≡ map (rule_bar l.survey l.counts) (take l.amount-index l.amounts)
