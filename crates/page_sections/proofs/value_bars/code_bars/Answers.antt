use Rattle.page_sections.proofs.SectionLaws.{numbered_more}
use Rattle.page_sections.specs.Sections.{bar_parts}
use Rattle.page_sections.specs.ValueSection.{code_bar}
use Rattle.page_sections.proofs.value_bars.code_bars.Goals as goal

pub loop-i-preserved : goal.loop-i-preserved
loop-i-preserved c =
    numbered_more bar_parts (code_bar c.args.names.now c.args.before.now c.args.after.now) c.loop-i.bars.items c.push.new.self.items
    c.in_ok-code_bar.field-0 c.loop-i.i c.in_ok-push.ensures.items c.in_ok-code_bar.ensures c.loop-i.invariant
