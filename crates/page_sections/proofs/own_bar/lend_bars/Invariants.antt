use Rattle.std.proofs.Common.{◌≡◌, map, take}
use Rattle.page_figures.specs.Drawings.{parts_of}
use Rattle.page_sections.specs.Sections.{bar_parts}
use Rattle.page_sections.proofs.own_bar.lend_bars.Given as goal

abbrev pub invariant-loop-bar : goal.invariant-loop-bar
invariant-loop-bar l = map parts_of l.lent.items ≡ map bar_parts (take l.bar-index l.bars)
