use Rattle.std.proofs.Common.{List, OnOk, [], refl, subst, ◌++◌, ◌≡◌, ◌∷◌, ℕ}
use Rattle.record_text.specs.Texts.{records_text}
use Rattle.edit_report.specs.Reasons.{cause_line}
use Rattle.edit_report.proofs.reasons.push_cause.Goals as goal

pub returns : goal.returns
returns c =
    let line : (c.deref.result.now ∷ c.args.cause.now ∷ [] ∷ [] ∷ [] ∷ [] ∷ c.args.detail.now ∷ [])
    ≡ cause_line c.args.number c.args.cause.now c.args.detail.now =
    rw (c.deref.ensures.value, c.in_ok-number.ensures) refl in
    subst (λ (l : List (List ℕ)). OnOk c.push_slices.result (c.push_slices.new.self ≡ c.args.writer.now ++ records_text (l ∷ []))) line
    c.push_slices.ensures.written
