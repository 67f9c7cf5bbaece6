use Rattle.std.proofs.Common.{◌≡◌, map}
use Rattle.std.specs.List.{range_with_len}
use Rattle.page_sections.specs.Sections.{bar_parts}
use Rattle.page_sections.specs.ValueSection.{code_bar}
use Rattle.page_sections.proofs.value_bars.code_bars.Given as goal

abbrev pub invariant-loop-i : goal.invariant-loop-i
invariant-loop-i l = map bar_parts l.bars.items ≡ map (code_bar l.names l.before l.after) (range_with_len 0 l.i)
