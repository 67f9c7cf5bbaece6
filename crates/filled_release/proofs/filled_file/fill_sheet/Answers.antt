use Rattle.std.proofs.Common.{◌∙◌, le_refl, length}
use Rattle.record_text.proofs.SheetLaws.{as_many_row_texts_as_rows}
use Rattle.filled_release.proofs.FilledRowLaws.{filled-all}
use Rattle.filled_release.proofs.filled_file.fill_sheet.Goals as goal

pub returns : goal.returns
returns c =
    let so_far = c.in_ok-counts.ensures.filled in
    let sheet = c.args.sheet.now in
    let same = as_many_row_texts_as_rows c.args.survey.now.fields c.requires.sheet.0 sheet c.requires.sheet.1 in
    let all = filled-all c.args.survey.now sheet c.args.budget same (length sheet.rows) c.fill_rows.new.writer c.in_ok-counts.counts (le_refl _) so_far in
    record {
      filled = record {
        answers = so_far.answers;
        each = all.0;
        released = c.into_bytes.ensures ∙ all.1;
        summary = c.in_ok-summary.ensures so_far.answers so_far.counted;
        whole = c.none_stopped.ensures so_far.answers so_far.counted;
      };
    }
