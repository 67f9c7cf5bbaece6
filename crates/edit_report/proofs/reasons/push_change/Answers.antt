use Rattle.std.proofs.Common.{List, OnOk, [], codes, refl, subst, ◌++◌, ◌≡◌, ◌∷◌, ℕ}
use Rattle.record_text.specs.Texts.{records_text}
use Rattle.edit_report.specs.Reasons.{changed_line}
use Rattle.edit_report.proofs.reasons.push_change.Goals as goal

pub returns : goal.returns
returns c =
    let line : (c.deref.result.now ∷ codes "changed" ∷ c.name_of.result.now ∷ c.text_in.result.now ∷ c.deref-2.result.now ∷ c.deref-3.result.now
    ∷ c.how_text.result.now ∷ []) ≡ changed_line c.args.survey.now.fields c.args.layout.now.columns c.args.row.now.number c.args.row.now.read.now
    c.args.row.now.end.now.donor c.args.change.now.new.now c.args.change.now.field c.args.change.now.how =
    rw (
      c.deref.ensures.value,
      c.in_ok-number.ensures,
      c.name_of.ensures,
      c.text_in.ensures,
      c.column.ensures,
      c.deref-2.ensures.value,
      c.in_ok-after.ensures,
      c.deref-3.ensures.value,
      c.in_ok-donor.ensures,
      c.how_text.ensures,
    ) refl in
    subst (λ (l : List (List ℕ)). OnOk c.push_line.result (c.push_line.new.writer ≡ c.args.writer.now ++ records_text (l ∷ []))) line c.push_line.ensures
