use Rattle.std.proofs.Common.{◌≡◌, map, take}
use Rattle.page_sections.specs.Sections.{bar_parts, size_bar}
use Rattle.page_sections.proofs.own_bar.size_bars.Given as goal

abbrev pub invariant-loop-count : goal.invariant-loop-count
invariant-loop-count l = map bar_parts l.bars.items ≡ map size_bar (take l.count-index l.counts)
