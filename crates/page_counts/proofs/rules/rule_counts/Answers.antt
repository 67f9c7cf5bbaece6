use Rattle.std.proofs.Common.{◌∙◌}
use Rattle.page_counts.proofs.RuleLaws.{none_counted}
use Rattle.page_counts.proofs.rules.rule_counts.Goals as goal

pub loop-row_no-init : goal.loop-row_no-init
loop-row_no-init c = c.in_ok-counts.ensures ∙ none_counted c.rules-rules.result.now
