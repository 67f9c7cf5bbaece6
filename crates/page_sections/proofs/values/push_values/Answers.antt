use Rattle.std.proofs.Common.{◌∙◌, codes}
use Rattle.std.proofs.lemmas.Result.{on_ok_weaker}
use Rattle.page_sections.proofs.SectionLaws.{section}
use Rattle.page_sections.specs.ValueSection.{value_note, values_from}
use Rattle.page_sections.proofs.values.push_values.Goals as goal

pub returns : goal.returns
unfolding value_note
returns c =
    on_ok_weaker c.close.result (λ e. e ∙ section (codes "Values before and after") value_note (values_from c.args.fields.now 0 c.args.values.now)
    c.args.page.now c.open_section.new.page c.push_fields.new.page c.in_ok-open_section.ensures c.in_ok-push_fields.ensures)
    c.close.ensures.written
