use Rattle.page_figures.proofs.Names.{◌∙◌, [], codes, decimal, both, element, followed, on_ok_weaker, Element, Nothing, Words}
use Rattle.page_markup.specs.declared.tag.Tag.TheVariants as tag
use Rattle.page_figures.specs.Attributes.{text_at}
use Rattle.page_figures.specs.Drawings.{line_content}
use Rattle.page_figures.proofs.histogram.push_level.Goals as goal

pub returns : goal.returns
returns c =
    let line = line_content c.args.class.now 88 c.args.y 784 c.args.y Nothing in
    let number = Element tag.Label (text_at 80 c.args.y (codes "end")) (Words (decimal c.args.number) Nothing) Nothing in
    let filled = both line number c.open.new.self c.push_line.new.page c.push_number_at.new.page
    c.in_ok-push_line.ensures c.in_ok-push_number_at.ensures in
    on_ok_weaker c.close.result (λ e. e ∙ element tag.Group [] (followed line number) c.args.page.now c.open.new.self
    c.push_number_at.new.page c.in_ok-open.ensures.written filled) c.close.ensures.written
