use Rattle.std.proofs.Common.{false, ap, ◌∙◌, slice_set}
use Rattle.redundancy.proofs.BaseLaws.{set-twice}
use Rattle.redundancy.proofs.pruning.try_line.Goals as goal

pub returns-clause-left : goal.returns-clause-left
returns-clause-left c = set-twice c.args.left.now.items c.args.place false c.is_kept.result
    ∙ ap (λ b. slice_set c.args.left.now.items c.args.place b) c.is_kept.ensures
