use Rattle.std.proofs.Common.{OnOk, ap, subst, sym, ◌∙◌}
use Rattle.std.proofs.lemmas.Result.{on_ok_weaker}
use Rattle.bound_cert.specs.declared.outcome.RowProof.{RowProof}
use Rattle.panel_link.specs.declared.linked.Linked.{Linked}
use Rattle.proof_text.specs.RowTexts.{row_text}
use Rattle.panel_release.specs.inner.Tellings.{TellsOne}
use Rattle.panel_release.proofs.TellingLaws.{no-correction-told}
use Rattle.panel_release.proofs.told.Told.write_answer.Goals as goal

pub returns-in_ok-text-in-NoCorrection-clause-told : goal.returns-in_ok-text-in-NoCorrection-clause-told
returns-in_ok-text-in-NoCorrection-clause-told c =
    let fields = c.args.survey.now.fields in
    let columns = c.args.layout.now.columns in
    let number = c.args.record.number in
    let read = c.args.record.read.now in
    let before = c.args.self.now in
    let after = c.write_cause-in-NoCorrection.new.self in
    let cert = c.in-NoCorrection.cert in
    let is = c.deref.ensures.value ∙ c.in_ok-text-in-NoCorrection.ensures.text ∙ ap (λ (row : RowProof). row_text row) c.proof_of_none.ensures in
    subst (λ (a : Linked). OnOk c.write_cause-in-NoCorrection.result (TellsOne fields columns number read a before after))
    (sym c.in-NoCorrection.is)
    (on_ok_weaker c.write_cause-in-NoCorrection.result (no-correction-told fields columns number read before after cert c.deref.result.now is)
    c.write_cause-in-NoCorrection.ensures.told)
