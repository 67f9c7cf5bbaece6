use Rattle.std.proofs.Common.{◌∙◌, List, ap, codes, map}
use Rattle.std.proofs.lemmas.Result.{on_ok_weaker}
use Rattle.page_counts.specs.declared.rules.RuleCount.{RuleCount}
use Rattle.page_figures.specs.Drawings.{BarParts}
use Rattle.page_markup.specs.OpenPages.{added}
use Rattle.page_sections.proofs.SectionLaws.{section}
use Rattle.page_sections.specs.RuleSection.{rule_bar, rule_bars, rule_figure, rule_note, rule_series}
use Rattle.page_sections.specs.Sections.{bars_content, bar_parts}
use Rattle.page_sections.proofs.rules.push_rules.Goals as goal

pub returns : goal.returns
unfolding rule_figure rule_note rule_series
returns c =
    let figure = λ (bars : List BarParts). bars_content rule_figure rule_series bars in
    let bars = ap (map bar_parts) c.deref.ensures.value ∙ c.in_ok-bars.ensures
    ∙ ap (λ (cs : List RuleCount). map (rule_bar c.args.survey.now cs) c.as_slice-amounts.result.now) c.as_slice.ensures
    ∙ ap (map (rule_bar c.args.survey.now c.args.figures.now.rules)) c.as_slice-amounts.ensures in
    let shown = c.in_ok-push_own_bars.ensures
    ∙ ap (λ (bs : List BarParts). added (figure bs) c.open_section.new.page) bars in
    on_ok_weaker c.close.result (λ e. e ∙ section (codes "Rules") rule_note
    (figure (rule_bars c.args.survey.now c.args.figures.now)) c.args.page.now c.open_section.new.page
    c.push_own_bars.new.page c.in_ok-open_section.ensures shown) c.close.ensures.written
