use Rattle.page_figures.proofs.Names.{◌∙◌, [], added, ap, both, map, on_ok_weaker, Element, Nothing, Words}
use Rattle.page_markup.specs.declared.tag.Tag.TheVariants as tag
use Rattle.page_markup.specs.Trees.{Content}
use Rattle.page_figures.proofs.FigureLaws.{shown-summed}
use Rattle.page_figures.specs.Drawings.{figure_parts, parts_of}
use Rattle.page_figures.specs.Figures.{note, summed_content}
use Rattle.page_figures.proofs.figure.push_shown_bars.Goals as goal

pub returns : goal.returns
unfolding Rattle.page_figures.specs.Figures.note
returns c =
    let told = Element tag.Paragraph [] (Words note Nothing) Nothing in
    let first = map parts_of c.split_at.result.0.now in
    let summed = summed_content c.args.form (figure_parts c.args.figure.now) first (map parts_of c.split_at.result.1.now) in
    on_ok_weaker c.push_bars_and_sum.result (λ e.
    both told summed c.args.page.now c.push_words.new.page c.push_bars_and_sum.new.page c.in_ok-push_words.ensures e
    ∙ ap (λ (w : Content). added w c.args.page.now)
    (shown-summed c.args.form (figure_parts c.args.figure.now) c.args.bars.now c.split_at.result.0.now c.split_at.result.1.now
    c.if-bars-le-MOST.false c.split_at.ensures.front c.split_at.ensures.back)) c.push_bars_and_sum.ensures
