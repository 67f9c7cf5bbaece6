use Rattle.std.proofs.Common.{◌≡◌, OnOk, Option, subst, sym, ◌++◌}
use Rattle.back_subst.specs.declared.gift.Gift.{Gift}
use Rattle.record_text.specs.Texts.{records_text}
use Rattle.edit_report.specs.Reasons.{lines_with}
use Rattle.edit_report.proofs.reasons.push_reasons.Goals as goal

pub returns-in-None : goal.returns-in-None
returns-in-None c =
    subst (λ (g : Option Gift). OnOk c.push_unresolved.result (c.push_unresolved.new.writer ≡ c.args.writer.now
    ++ records_text (lines_with c.args.survey.now.fields c.args.layout.now.columns c.args.row.now.number c.args.row.now.read.now
    c.args.row.now.end.now.proof c.args.row.now.end.now.donor g)))
    (sym c.in-None.is) c.push_unresolved.ensures

pub returns-in-Some : goal.returns-in-Some
returns-in-Some c =
    subst (λ (g : Option Gift). OnOk c.push_changes.result (c.push_changes.new.writer ≡ c.args.writer.now
    ++ records_text (lines_with c.args.survey.now.fields c.args.layout.now.columns c.args.row.now.number c.args.row.now.read.now
    c.args.row.now.end.now.proof c.args.row.now.end.now.donor g)))
    (sym c.in-Some.is) c.push_changes.ensures
