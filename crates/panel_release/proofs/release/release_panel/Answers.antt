use Rattle.std.proofs.Common.{le_refl, length}
use Rattle.std.proofs.lemmas.Result.{IfOk-weaker}
use Rattle.record_text.proofs.SheetLaws.{as_many_row_texts_as_rows}
use Rattle.panel_files.proofs.BothLaws.{both-rows-length}
use Rattle.panel_release.proofs.TellingLaws.{told-all}
use Rattle.panel_release.proofs.release.release_panel.Goals as goal

pub returns : goal.returns
returns c =
    let panel = c.args.panel.now in
    let same = as_many_row_texts_as_rows _ c.requires.own.0 _ c.requires.own.1 in
    let many = both-rows-length panel.survey.fields panel.set panel.files same in
    record {
      released = IfOk-weaker c.end.result _ _
          (λ release ends. told-all panel c.args.budget same many (length panel.files.own.rows) c.tell_rows.new.told release (le_refl _)
          c.in_ok-tell_rows.ensures.told ends) c.end.ensures;
    }
