use Rattle.page_figures.proofs.Names.{◌∙◌, [], both, element, followed, map, on_ok_weaker, Element, Nothing, Words}
use Rattle.page_markup.specs.declared.tag.Tag.TheVariants as tag
use Rattle.page_figures.specs.Drawings.{figure_parts, parts_of}
use Rattle.page_figures.specs.Figures.{numbers_content, picture_content}
use Rattle.page_figures.proofs.figure.push_figure.Goals as goal

pub returns : goal.returns
returns c =
    let series = map (λ s. s.now) c.args.series.now in
    let bars = map parts_of c.args.bars.now in
    let caption = Element tag.FigureCaption [] (Words c.args.figure.now.title.now Nothing) Nothing in
    let picture = picture_content c.args.form (figure_parts c.args.figure.now) series bars in
    let numbers = numbers_content c.args.form (figure_parts c.args.figure.now) series bars in
    let filled = both caption (followed picture numbers) c.open.new.self c.push_words.new.page c.push_figure_table.new.page
    c.in_ok-push_words.ensures
    (both picture numbers c.push_words.new.page c.push_picture.new.page c.push_figure_table.new.page
    c.in_ok-push_picture.ensures c.in_ok-push_figure_table.ensures) in
    on_ok_weaker c.close.result (λ e. e ∙ element tag.Figure [] (followed caption (followed picture numbers)) c.args.page.now
    c.open.new.self c.push_figure_table.new.page c.in_ok-open.ensures.written filled) c.close.ensures.written
