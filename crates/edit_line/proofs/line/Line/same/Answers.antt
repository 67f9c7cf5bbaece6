use Rattle.std.proofs.Common.{◌∙◌, sym}
use Rattle.edit_line.proofs.EqualityLaws.{same_line-Decides}
use Rattle.edit_line.proofs.line.Line.same.Goals as goal

pub returns-clause-equal : goal.returns-clause-equal
returns-clause-equal c =
    let decides = same_line-Decides c.args.self.now c.args.other.now in (
      λ h. decides.0 (sym c.same_parts.ensures ∙ h),
      λ same. c.same_parts.ensures
          ∙ decides.1 same,
    )
