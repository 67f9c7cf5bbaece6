use Rattle.std.proofs.Common.{◌∙◌, List, ap, codes, map}
use Rattle.std.proofs.lemmas.Result.{on_ok_weaker}
use Rattle.page_figures.proofs.PageLaws.{both}
use Rattle.page_figures.specs.Drawings.{BarParts}
use Rattle.page_markup.specs.OpenPages.{added}
use Rattle.page_sections.specs.Sections.{histogram_content, bar_parts}
use Rattle.page_sections.specs.ValueSection.{bin_bars, bin_description, totals_content, value_figure, value_series}
use Rattle.page_sections.proofs.values.push_numbers.Goals as goal

pub returns : goal.returns
returns c =
    let figure = value_figure c.args.name.now c.args.i bin_description (codes "from") in
    let numbers = c.args.numbers.now in
    let bars = ap (map bar_parts) c.deref.ensures.value ∙ c.in_ok-bins.ensures in
    let first = c.in_ok-push_bins.ensures ∙ ap (λ (bs : List BarParts). added (histogram_content figure value_series bs) c.args.page.now) bars in
    on_ok_weaker c.push_totals.result (both (histogram_content figure value_series (bin_bars numbers.bins numbers)) (totals_content numbers)
    c.args.page.now c.push_bins.new.page c.push_totals.new.page first) c.push_totals.ensures
