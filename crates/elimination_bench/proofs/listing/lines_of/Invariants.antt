use Rattle.std.proofs.Common.{◌≡◌, ℕ, map, take}
use Rattle.edit_line.specs.Lines.{LineParts}
use Rattle.elimination_bench.proofs.listing.lines_of.Given as goal

abbrev pub invariant-loop-line : goal.invariant-loop-line
invariant-loop-line l = l.lines.items ≡ map (λ (e : ℕ × LineParts). e.1) (take l.line-index l.line-items)
