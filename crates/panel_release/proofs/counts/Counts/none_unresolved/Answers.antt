use Rattle.std.proofs.Common.{ap, ◌∙◌, ◌==◌}
use Rattle.edit_report.specs.Summaries.{is_unresolved}
use Rattle.panel_release.proofs.CountLaws.{none-counted}
use Rattle.panel_release.proofs.counts.Counts.none_unresolved.Goals as goal

pub returns : goal.returns
returns c fields ends counted = ap (λ n. n == 0) counted.unresolved ∙ none-counted is_unresolved ends
