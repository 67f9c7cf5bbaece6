use Rattle.std.proofs.Common.{◌≡◌, drop}
use Rattle.donor_search.specs.Asked.{index_field, index_field_from}
use Rattle.donor_search.proofs.axis.first_axis.Given as goal

abbrev pub invariant-loop-field : goal.invariant-loop-field
invariant-loop-field l = index_field_from l.field (drop l.field l.yardsticks) l.kept ≡ index_field l.yardsticks l.kept
