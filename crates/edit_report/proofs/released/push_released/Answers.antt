use Rattle.std.proofs.Common.{◌≡◌, List, OnOk, Option, [], ◌++◌, ◌∙◌, ◌∷◌, subst, sym, ℕ}
use Rattle.bound_cert.specs.Paths.{changes}
use Rattle.back_subst.specs.declared.gift.Gift.{Gift}
use Rattle.record_text.specs.Texts.{records_text}
use Rattle.edit_report.specs.Ends.{path_found}
use Rattle.edit_report.specs.Released.{released_texts, row_with}
use Rattle.edit_report.proofs.ChangedLaws.{none-changed}
use Rattle.edit_report.proofs.ReleasedLaws.{texts-kept}
use Rattle.edit_report.proofs.released.push_released.Goals as goal

pub released_texts-requires-clause-short : goal.released_texts-requires-clause-short
released_texts-requires-clause-short c = rw c.path_found-path.ensures ((rw c.in-Some.is at c.requires.end).short)

pub released_texts-requires-clause-new : goal.released_texts-requires-clause-new
released_texts-requires-clause-new c = (rw c.in-Some.is at c.requires.end).row

pub returns-then-keeps_every_field : goal.returns-then-keeps_every_field
returns-then-keeps_every_field c =
    let fields = c.args.survey.now.fields in
    let columns = c.args.layout.now.columns in
    let read = c.args.read.now in
    let path = path_found c.args.end.now.proof.outcome in
    let kept = none-changed fields path (rw c.path_found-path.ensures at (sym c.keeps_every_field.ensures ∙ c.if-keeps_every_field.true)) in
    let same : released_texts fields columns path c.in-Some.gift.row read ≡ read =
    texts-kept fields columns c.in-Some.gift.row (changes fields path) 0 read kept in
    subst (λ (g : Option Gift). OnOk c.push.result (c.push.new.self ≡ c.args.writer.now ++ records_text (row_with fields columns read path g)))
    (sym c.in-Some.is)
    (subst (λ (texts : List (List ℕ)). OnOk c.push.result (c.push.new.self ≡ c.args.writer.now ++ records_text (texts ∷ []))) (sym same)
    c.push.ensures.written)

pub returns : goal.returns
returns c =
    let fields = c.args.survey.now.fields in
    let columns = c.args.layout.now.columns in
    let read = c.args.read.now in
    let path = path_found c.args.end.now.proof.outcome in
    subst (λ (g : Option Gift). OnOk c.push-2.result (c.push-2.new.self ≡ c.args.writer.now ++ records_text (row_with fields columns read path g)))
    (sym c.in-Some.is)
    (subst (λ (texts : List (List ℕ)). OnOk c.push-2.result (c.push-2.new.self ≡ c.args.writer.now ++ records_text (texts ∷ [])))
    (rw c.path_found-path.ensures at c.in_ok-texts.ensures) c.push-2.ensures.written)
