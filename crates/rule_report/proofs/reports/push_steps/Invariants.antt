use Rattle.std.proofs.Common.{◌≡◌, ◌++◌, map, take}
use Rattle.rule_report.specs.Reports.{step_text}
use Rattle.rule_report.proofs.reports.push_steps.Given as goal

abbrev pub invariant-loop-step : goal.invariant-loop-step
invariant-loop-step l = map (λ t. t.items) l.texts.items ≡ map (λ t. t.items) l.fn.texts.items ++ map step_text (take l.step-index l.steps)
