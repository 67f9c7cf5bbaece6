-- What is counted of the answers.
use Rattle.std.specs.Prelude.{◌≡◌, ◌≤◌, ◌*◌, ◌^◌, List, length}
use Rattle.std.specs.List.{filter, sum_by}
use Rattle.foundation.specs.Limits.{most_records}
use Rattle.deduce_fill.specs.declared.filled.Filled.{Filled}
use Rattle.filled_release.specs.FilledFiles.{filled_fields, is_blocked, is_stopped}
use Rattle.filled_release.specs.declared.counts.Counts.{Counts}

-- these are the counts of the answers
pub record AreCountsOf (answers : List Filled) (counts : Counts) : Type 0 where
  pub records : counts.records ≡ length answers
  pub filled : counts.filled ≡ sum_by filled_fields answers
  pub blocked : counts.blocked ≡ length (filter is_blocked answers)
  pub stopped : counts.stopped ≡ length (filter is_stopped answers)

-- there are no more records than a file has, and no count is beyond what these can have
pub record AreFew (counts : Counts) : Type 0 where
  pub records : counts.records ≤ most_records
  pub filled : counts.filled ≤ counts.records * 2 ^ 64
  pub blocked : counts.blocked ≤ counts.records
  pub stopped : counts.stopped ≤ counts.records
