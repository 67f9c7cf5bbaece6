use Rattle.std.proofs.Common.{◌≡◌, map, take}
use Rattle.release_figures.specs.Figures.{change_total}
use Rattle.release_figures.proofs.fields.fields_by_changes.Given as goal

abbrev pub invariant-loop-count : goal.invariant-loop-count
invariant-loop-count l = l.totals.items ≡ map change_total (take l.count-index l.counts)
