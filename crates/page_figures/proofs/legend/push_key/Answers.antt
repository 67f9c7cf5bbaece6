use Rattle.page_figures.proofs.Names.{◌∙◌, [], both, element, followed, on_ok_weaker, Nothing, Words}
use Rattle.page_markup.specs.declared.tag.Tag.TheVariants as tag
use Rattle.page_figures.specs.Drawings.{square_content}
use Rattle.page_figures.proofs.legend.push_key.Goals as goal

pub returns : goal.returns
returns c =
    let square = square_content c.args.colour Nothing in
    let words = Words c.args.name.now Nothing in
    let filled = both square words c.open.new.self c.push_square.new.page c.text.new.self
    c.in_ok-push_square.ensures c.in_ok-text.ensures.written in
    on_ok_weaker c.close.result (λ e. e ∙ element tag.Span [] (followed square words) c.args.page.now c.open.new.self c.text.new.self
    c.in_ok-open.ensures.written filled) c.close.ensures.written
