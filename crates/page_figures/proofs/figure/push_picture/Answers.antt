use Rattle.page_figures.proofs.Names.{◌≡◌, ◌∙◌, added, ap, map, on_ok_weaker}
use Rattle.std.proofs.Common.{length}
use Rattle.std.proofs.Common.{rules}
use Rattle.page_markup.specs.Trees.{Content}
use Rattle.page_figures.proofs.FigureLaws.{picture-none}
use Rattle.page_figures.specs.Drawings.{figure_parts}
use Rattle.page_figures.proofs.figure.push_picture.Goals as goal

pub returns-then-is_empty : goal.returns-then-is_empty
returns-then-is_empty c =
    let none : length c.args.bars.now ≡ 0 = search rules in
    on_ok_weaker c.push_words.result (λ e. e ∙ ap (λ (w : Content). added w c.args.page.now)
    (picture-none c.args.form (figure_parts c.args.figure.now) (map (λ s. s.now) c.args.series.now) c.args.bars.now none)) c.push_words.ensures
