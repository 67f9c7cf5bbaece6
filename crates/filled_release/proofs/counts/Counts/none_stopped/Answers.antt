use Rattle.std.proofs.Common.{ap, ◌∙◌, ◌==◌}
use Rattle.filled_release.specs.FilledFiles.{is_stopped}
use Rattle.filled_release.proofs.CountLaws.{none-counted}
use Rattle.filled_release.proofs.counts.Counts.none_stopped.Goals as goal

pub returns : goal.returns
returns c answers counted = ap (λ n. n == 0) counted.stopped ∙ none-counted is_stopped answers
