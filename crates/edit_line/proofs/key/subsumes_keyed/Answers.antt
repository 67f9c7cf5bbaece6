use Rattle.std.proofs.Common.{◌∙◌, sym}
use Rattle.edit_line.proofs.KeyLaws.{keys-apart}
use Rattle.edit_line.proofs.key.subsumes_keyed.Goals as goal

pub returns-else-may_subsume : goal.returns-else-may_subsume
returns-else-may_subsume c = c.if-may_subsume.false
    ∙ sym (keys-apart c.args.a.now c.args.b.now c.args.a_key c.args.b_key c.requires.first c.requires.second
    (sym c.may_subsume.ensures ∙ c.if-may_subsume.false))
