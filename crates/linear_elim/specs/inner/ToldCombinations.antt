use Rattle.std.specs.Prelude.{ℕ, Result, Ok, Err}
use Rattle.edit_line.specs.Lines.{LineParts}
use Rattle.linear_elim.specs.Combinations.{CombinedParts}
use Rattle.linear_elim.specs.declared.combine.Scales.{Scales}

-- what is told of the combination that stands in the line, or the place that leaves the range
abbrev pub told_combination : LineParts → Result Scales ℕ → Result CombinedParts ℕ
told_combination line (Ok by) = Ok (record { line = line; m = by.m; n = by.n; g = by.g })
told_combination line (Err place) = Err place
