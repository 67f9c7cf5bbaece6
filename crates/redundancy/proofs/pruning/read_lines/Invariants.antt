use Rattle.std.proofs.Common.{All, take}
use Rattle.edit_line.specs.Lines.{IsLine}
use Rattle.redundancy.proofs.pruning.read_lines.Given as goal

abbrev pub invariant-loop-line : goal.invariant-loop-line
invariant-loop-line l = All IsLine (take l.line-index l.lines)
