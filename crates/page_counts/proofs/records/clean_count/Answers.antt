use Rattle.std.proofs.Common.{◌∙◌, ◌||◌, not, Bool, List, count_by, ap, rules}
use Rattle.page_counts.specs.Records.{is_changed, is_left_out}
use Rattle.page_counts.proofs.MarkLaws.{counted}
use Rattle.page_counts.proofs.records.clean_count.Goals as goal

pub returns : goal.returns
returns c =
    c.unmarked_count.ensures ∙ ap (λ (marks : List Bool). count_by not marks) c.deref.ensures.value
    ∙ counted (λ k. is_changed c.args.changes.now k || is_left_out c.args.left_out.now k) not c.in_ok-marks.marks.items c.args.rows
    (search rules) c.in_ok-marks.ensures.marked
