use Rattle.std.proofs.Common.{◌∙◌, sym}
use Rattle.edit_line.proofs.EqualityLaws.{same_edits-Decides}
use Rattle.edit_line.proofs.edits.Edits.same.Goals as goal

pub returns-clause-equal : goal.returns-clause-equal
returns-clause-equal c =
    let decides = same_edits-Decides c.args.self.now c.args.other.now in (
      λ h. decides.0 (sym c.same_contents.ensures ∙ h),
      λ same. c.same_contents.ensures
          ∙ decides.1 same,
    )
