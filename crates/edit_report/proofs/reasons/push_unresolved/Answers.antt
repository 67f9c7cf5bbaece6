use Rattle.std.proofs.Common.{List, OnOk, [], refl, subst, ◌++◌, ◌≡◌, ◌∷◌, ℕ}
use Rattle.record_text.specs.Texts.{records_text}
use Rattle.edit_report.specs.Reasons.{cause_line, unresolved_line}
use Rattle.edit_report.proofs.reasons.push_unresolved.Goals as goal

pub returns : goal.returns
returns c =
    let line : cause_line c.args.number c.cause_text.result.now c.deref.result.now ≡ unresolved_line c.args.survey.now.fields c.args.number c.args.found.now =
    rw (c.deref.ensures.value, c.in_ok-detail.ensures, c.cause_text.ensures) refl in
    subst (λ (l : List (List ℕ)). OnOk c.push_cause.result (c.push_cause.new.writer ≡ c.args.writer.now ++ records_text (l ∷ []))) line c.push_cause.ensures
