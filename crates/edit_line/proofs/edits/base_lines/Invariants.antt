use Rattle.std.proofs.Common.{◌≡◌, All, take}
use Rattle.edit_line.specs.EditSets.{base_lines}
use Rattle.edit_line.specs.Lines.{IsLine}
use Rattle.edit_line.specs.Reductions.{lines_of}
use Rattle.edit_line.proofs.edits.base_lines.Given as goal

abbrev pub invariant-loop-number : goal.invariant-loop-number
invariant-loop-number l = (l.base.items ≡ base_lines (take l.number-index l.lines)) × All IsLine (lines_of l.base.items)
