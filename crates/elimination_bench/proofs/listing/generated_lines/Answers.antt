use Rattle.std.proofs.Common.{◌∙◌}
use Rattle.std.proofs.lemmas.Result.{IfOk-weaker}
use Rattle.elimination_bench.proofs.ListingLaws.{lines-given}
use Rattle.elimination_bench.proofs.listing.generated_lines.Goals as goal

pub returns : goal.returns
returns c = IfOk-weaker c.lines_of.result _ _ (λ lines is. is ∙ lines-given _ c.in_ok-edits.edits c.in_ok-edits.ensures) c.lines_of.ensures
