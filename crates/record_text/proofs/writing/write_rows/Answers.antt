use Rattle.std.proofs.Common.{◌++◌, ◌∙◌, ◌∷◌, [], List, add-one, ap, ℕ}
use Rattle.std.proofs.lemmas.List.{take_all}
use Rattle.record_text.specs.Texts.{records_text}
use Rattle.record_text.proofs.Refusals.{no_value}
use Rattle.record_text.proofs.WritingLaws.{records_text_more}
use Rattle.record_text.proofs.writing.write_rows.Goals as goal

pub loop-texts-init : goal.loop-texts-init
loop-texts-init c = c.new-writer.ensures

pub returns-in_err-push : goal.returns-in_err-push
returns-in_err-push c = no_value c.from_residual.result _ _ c.from_residual.ensures.1

pub loop-texts-preserved : goal.loop-texts-preserved
loop-texts-preserved c =
    let more = records_text_more c.args.rows.now c.loop-texts.texts-index c.texts-item.result c.loop-texts-test.true c.texts-item.is in
    rw add-one (c.in_ok-push.ensures.written ∙ ap (λ (bs : List ℕ). bs ++ records_text (c.texts-item.result ∷ [])) c.loop-texts.invariant ∙ more)

pub returns : goal.returns
returns c =
    c.into_bytes.ensures ∙ c.loop-texts.invariant
    ∙ ap records_text (take_all c.loop-texts.texts-index c.args.rows.now c.loop-texts-test.false)
