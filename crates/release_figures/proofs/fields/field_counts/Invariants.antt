use Rattle.std.proofs.Common.{◌≡◌, map}
use Rattle.std.specs.List.{range_with_len}
use Rattle.release_figures.specs.Figures.{field_count}
use Rattle.release_figures.proofs.fields.field_counts.Given as goal

abbrev pub invariant-loop-field : goal.invariant-loop-field
invariant-loop-field l = l.counts.items ≡ map (field_count l.changes) (range_with_len 0 l.field)
