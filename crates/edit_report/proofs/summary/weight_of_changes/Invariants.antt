use Rattle.std.proofs.Common.{◌≡◌, ◌≤◌, ◌*◌, take}
use Rattle.std.specs.List.{filter, sum_by}
use Rattle.edit_report.specs.Summaries.{is_changed, weight_of}
use Rattle.edit_report.proofs.summary.weight_of_changes.Given as goal

abbrev pub invariant-loop-end : goal.invariant-loop-end
invariant-loop-end l = (l.weight ≡ sum_by (weight_of l.survey.fields) (filter is_changed (take l.end-index l.ends)))
    × (l.weight ≤ l.end-index * 18446744073709551615)
