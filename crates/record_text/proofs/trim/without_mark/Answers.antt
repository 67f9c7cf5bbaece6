use Rattle.std.proofs.Common.{◌∙◌, false, sym, true}
use Rattle.record_text.proofs.TrimLaws.{without_mark_by}
use Rattle.record_text.proofs.trim.without_mark.Goals as goal

pub returns-in-Some : goal.returns-in-Some
returns-in-Some c = c.in-Some.ensures.cases.1 ∙ sym (without_mark_by c.args.bytes.now true c.in-Some.ensures.cases.0)

pub returns-in-None : goal.returns-in-None
returns-in-None c = sym (without_mark_by c.args.bytes.now false c.in-None.ensures.cases)
