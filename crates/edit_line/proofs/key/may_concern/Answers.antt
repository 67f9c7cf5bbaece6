use Rattle.std.proofs.Common.{◌∙◌, sym}
use Rattle.edit_line.proofs.KeyLaws.{keys-apart}
use Rattle.edit_line.proofs.key.may_concern.Goals as goal

pub returns-else-may_subsume-clause-over : goal.returns-else-may_subsume-clause-over
returns-else-may_subsume-clause-over c = λ _. keys-apart c.args.a.now c.args.b.now c.args.a_key c.args.b_key c.requires.first c.requires.second
    (sym c.may_subsume.ensures ∙ c.if-may_subsume.false)

pub returns-else-may_subsume-clause-under : goal.returns-else-may_subsume-clause-under
returns-else-may_subsume-clause-under c = λ apart. keys-apart c.args.b.now c.args.a.now c.args.b_key c.args.a_key c.requires.second c.requires.first
    (sym c.may_subsume-else-may_subsume.ensures ∙ apart)
