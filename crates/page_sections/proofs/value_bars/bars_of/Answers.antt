use Rattle.page_sections.proofs.SectionLaws.{numbered_more}
use Rattle.page_sections.specs.Sections.{bar_parts}
use Rattle.page_sections.specs.ValueSection.{bin_bar}
use Rattle.page_sections.proofs.value_bars.bars_of.Goals as goal

pub loop-i-preserved : goal.loop-i-preserved
loop-i-preserved c =
    numbered_more bar_parts (bin_bar c.args.bins.now c.args.numbers.now) c.loop-i.bars.items c.push.new.self.items c.in_ok-bin_bar.field-0
    c.loop-i.i c.in_ok-push.ensures.items c.in_ok-bin_bar.ensures c.loop-i.invariant
