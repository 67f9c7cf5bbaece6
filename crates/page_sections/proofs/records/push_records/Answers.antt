use Rattle.std.proofs.Common.{◌∙◌, List, [], ◌∷◌, ap, codes, map}
use Rattle.std.proofs.lemmas.Result.{on_ok_weaker}
use Rattle.page_figures.specs.Drawings.{BarParts}
use Rattle.page_markup.specs.OpenPages.{added}
use Rattle.page_sections.proofs.SectionLaws.{section}
use Rattle.page_sections.specs.RecordSection.{record_bars, record_figure, record_note}
use Rattle.page_sections.specs.Sections.{bars_content, bar_parts}
use Rattle.page_sections.proofs.records.push_records.Goals as goal

pub returns : goal.returns
unfolding record_figure record_note
returns c =
    let figure = λ (bars : List BarParts). bars_content record_figure (codes "records" ∷ []) bars in
    let bars = ap (map bar_parts) c.deref.ensures.value ∙ c.in_ok-bars.ensures in
    let shown = c.in_ok-push_own_bars.ensures
    ∙ ap (λ (bs : List BarParts). added (figure bs) c.open_section.new.page) bars in
    on_ok_weaker c.close.result (λ e. e ∙ section (codes "Records") record_note
    (figure (record_bars c.args.counts.now)) c.args.page.now c.open_section.new.page
    c.push_own_bars.new.page c.in_ok-open_section.ensures shown) c.close.ensures.written
