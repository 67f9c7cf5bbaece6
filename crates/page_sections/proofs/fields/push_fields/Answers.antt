use Rattle.std.proofs.Common.{◌∙◌, List, ap, codes, map}
use Rattle.std.proofs.lemmas.Result.{on_ok_weaker}
use Rattle.page_counts.specs.declared.fields.FieldCount.{FieldCount}
use Rattle.page_figures.specs.Drawings.{BarParts}
use Rattle.page_markup.specs.OpenPages.{added}
use Rattle.page_sections.proofs.SectionLaws.{section}
use Rattle.page_sections.specs.FieldSection.{field_bar, field_bars, field_figure, field_note, field_series}
use Rattle.page_sections.specs.Sections.{bars_content, bar_parts}
use Rattle.page_sections.proofs.fields.push_fields.Goals as goal

pub returns : goal.returns
unfolding field_figure field_note field_series
returns c =
    let figure = λ (bars : List BarParts). bars_content field_figure field_series bars in
    let bars = ap (map bar_parts) c.deref.ensures.value ∙ c.in_ok-bars.ensures
    ∙ ap (λ (cs : List FieldCount). map (field_bar c.args.fields.now cs) c.as_slice-amounts.result.now) c.as_slice.ensures
    ∙ ap (map (field_bar c.args.fields.now c.args.figures.now.fields)) c.as_slice-amounts.ensures in
    let shown = c.in_ok-push_own_bars.ensures
    ∙ ap (λ (bs : List BarParts). added (figure bs) c.open_section.new.page) bars in
    on_ok_weaker c.close.result (λ e. e ∙ section (codes "Fields") field_note
    (figure (field_bars c.args.fields.now c.args.figures.now)) c.args.page.now c.open_section.new.page
    c.push_own_bars.new.page c.in_ok-open_section.ensures shown) c.close.ensures.written
