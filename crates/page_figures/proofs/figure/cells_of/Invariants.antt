use Rattle.std.proofs.Common.{◌≡◌, ◌∷◌, map, take}
use Rattle.page_figures.specs.Tables.{entry_of}
use Rattle.page_figures.specs.Tables.Entry.{Number, Text}
use Rattle.page_figures.proofs.figure.cells_of.Given as goal

abbrev pub invariant-loop-part : goal.invariant-loop-part
invariant-loop-part l = map entry_of l.cells.items ≡ Text l.bar.label.now ∷ map Number (take l.part-index l.bar.parts.now)
