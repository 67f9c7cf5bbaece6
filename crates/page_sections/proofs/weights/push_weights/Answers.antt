use Rattle.std.proofs.Common.{◌∙◌, List, [], ◌∷◌, ap, codes, map}
use Rattle.std.proofs.lemmas.Result.{on_ok_weaker}
use Rattle.page_figures.specs.Drawings.{BarParts}
use Rattle.page_markup.specs.OpenPages.{added}
use Rattle.page_sections.proofs.SectionLaws.{section}
use Rattle.page_sections.specs.Sections.{histogram_content, bar_parts, size_bar}
use Rattle.page_sections.specs.WeightSection.{weight_figure, weight_note}
use Rattle.page_sections.proofs.weights.push_weights.Goals as goal

pub returns : goal.returns
unfolding weight_figure weight_note
returns c =
    let figure = λ (bars : List BarParts). histogram_content weight_figure (codes "records" ∷ []) bars in
    let bars = ap (map bar_parts) c.deref.ensures.value ∙ c.in_ok-bins.ensures in
    let shown = c.in_ok-push_own_histogram.ensures
    ∙ ap (λ (bs : List BarParts). added (figure bs) c.open_section.new.page) bars in
    on_ok_weaker c.close.result (λ e. e ∙ section (codes "Weights of changes") weight_note
    (figure (map size_bar c.args.weights.now)) c.args.page.now c.open_section.new.page
    c.push_own_histogram.new.page c.in_ok-open_section.ensures shown) c.close.ensures.written
