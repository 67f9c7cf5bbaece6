use Rattle.std.proofs.Common.{◌≡◌, map, take}
use Rattle.page_sections.specs.FieldSection.{field_bar}
use Rattle.page_sections.specs.Sections.{bar_parts}
use Rattle.page_sections.proofs.fields.field_bars.Given as goal

abbrev pub invariant-loop-amount : goal.invariant-loop-amount
invariant-loop-amount l = map bar_parts l.bars.items ≡ map (field_bar l.fields l.counts) (take l.amount-index l.amounts)
