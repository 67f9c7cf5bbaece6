use Rattle.std.proofs.Common.{◌≡◌, ◌∙◌, sym, ap, ◌+◌, ◌++◌, ◌∷◌, [], ℕ, List, take}
use Rattle.std.proofs.lemmas.List.{take_more}
use Rattle.record_text.proofs.ValueLaws.{rows_more}
use Rattle.record_text.proofs.Refusals.{no_value}
use Rattle.record_text.proofs.reading.rows_of.Goals as goal

pub loop-texts-preserved : goal.loop-texts-preserved
loop-texts-preserved c =
    let all = c.args.row_texts.now in
    let i = c.loop-texts.texts-index in
    let texts = c.texts-item.result in
    let step : take (i + 1) all ≡ take i all ++ texts ∷ [] = take_more all i texts c.loop-texts-test.true
    ∙ ap (λ (t : List (List ℕ)). take i all ++ t ∷ []) (sym c.texts-item.is) in
    rw (c.in_ok-push.ensures.items, step) (rows_more c.args.survey.now.fields c.args.columns.now
    (take i all) c.loop-texts.rows.items texts c.in_ok-row.row c.loop-texts.invariant c.in_ok-row.ensures)

pub returns-in_err-rows : goal.returns-in_err-rows
returns-in_err-rows c = no_value c.from_residual.result _ _ c.from_residual.ensures.1

pub returns-in_err-row : goal.returns-in_err-row
returns-in_err-row c = no_value c.from_residual-in_err-row.result _ _ c.from_residual-in_err-row.ensures.1

pub returns-in_err-push : goal.returns-in_err-push
returns-in_err-push c = no_value c.from_residual-in_err-push.result _ _ c.from_residual-in_err-push.ensures.1
