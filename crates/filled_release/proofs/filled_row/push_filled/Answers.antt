use Rattle.std.proofs.Common.{◌≡◌, List, OnOk, [], subst, sym, ◌++◌, ◌∙◌, ◌∷◌, ℕ}
use Rattle.record_text.specs.Texts.{records_text}
use Rattle.edit_report.proofs.ReleasedLaws.{texts-kept}
use Rattle.deduce_fill.specs.declared.filled.Filled.{Filled}
use Rattle.filled_release.specs.FilledFiles.{filled_texts, is_forced}
use Rattle.filled_release.proofs.ForcedLaws.{none-forced}
use Rattle.filled_release.proofs.filled_row.push_filled.Goals as goal

pub returns-then-is_empty : goal.returns-then-is_empty
returns-then-is_empty c =
    let fields = c.args.survey.now.fields in
    let columns = c.args.layout.now.columns in
    let read = c.args.read.now in
    let forced = c.in-Done.forced in
    let none = sym c.is_empty.ensures ∙ c.if-is_empty.true in
    let kept = texts-kept fields columns c.in-Done.row (is_forced forced) 0 read (λ f. none-forced forced f none) in
    let pushed = c.push-then-is_empty in
    subst (λ (a : Filled). OnOk pushed.result (pushed.new.self ≡ c.args.writer.now ++ records_text (filled_texts fields columns read a ∷ [])))
    (sym c.in-Done.is)
    (subst (λ (texts : List (List ℕ)). OnOk pushed.result (pushed.new.self ≡ c.args.writer.now ++ records_text (texts ∷ []))) (sym kept) pushed.ensures.written)
