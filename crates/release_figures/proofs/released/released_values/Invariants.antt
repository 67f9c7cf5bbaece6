use Rattle.std.specs.List.{AllZip, range_with_len}
use Rattle.release_figures.specs.ReleasedValues.{IsReleasedValue}
use Rattle.release_figures.proofs.released.released_values.Given as goal

abbrev pub invariant-loop-row : goal.invariant-loop-row
invariant-loop-row l = AllZip (IsReleasedValue l.released l.kind l.field) (range_with_len 0 l.row) l.values.items
