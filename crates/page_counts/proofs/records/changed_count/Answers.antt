use Rattle.std.proofs.Common.{◌∙◌, Bool, List, count_by, ap, rules}
use Rattle.page_counts.specs.Records.{is_changed}
use Rattle.page_counts.proofs.MarkLaws.{counted}
use Rattle.page_counts.proofs.records.changed_count.Goals as goal

pub returns : goal.returns
returns c =
    c.marked_count.ensures ∙ ap (λ (marks : List Bool). count_by (λ (mark : Bool). mark) marks) c.deref.ensures.value
    ∙ counted (is_changed c.args.changes.now) (λ (mark : Bool). mark) c.in_ok-marks.marks.items c.args.rows (search rules) c.in_ok-marks.ensures.marked
