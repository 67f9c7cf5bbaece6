use Rattle.page_figures.proofs.Names.{◌∙◌, ℕ, [], added, ap, both, codes, decimal, element, followed, max, on_ok_weaker, Element, Nothing, Words}
use Rattle.page_markup.specs.declared.tag.Tag.TheVariants as tag
use Rattle.page_figures.specs.declared.colour.Colour.TheVariants.{First}
use Rattle.page_figures.specs.Attributes.{text_at}
use Rattle.page_figures.specs.Drawings.{parts_content, shortened}
use Rattle.page_figures.specs.Sums.{plus, total_of}
use Rattle.page_figures.proofs.bars.push_bar.Goals as goal

pub returns : goal.returns
returns c =
    let total = c.total_of-total.ensures in
    let line = c.saturating_add-line.ensures in
    let title = Element tag.Title [] (Words c.args.bar.label.now Nothing) Nothing in
    let label = λ (y : ℕ). Element tag.Label (text_at 216 y (codes "end")) (shortened 16 c.args.bar.label.now) Nothing in
    let parts = λ (g : ℕ). Element tag.Group [] (parts_content g c.args.y 224 First c.args.bar.parts.now) Nothing in
    let number = λ (y t : ℕ). Element tag.Label (text_at 784 y (codes "end")) (Words (decimal t) Nothing) Nothing in
    let second = c.in_ok-push_label.ensures ∙ ap (λ (y : ℕ). added (label y) c.push_words.new.page) line in
    let third = c.in_ok-push_parts.ensures
    ∙ ap (λ (g : ℕ). added (parts g) c.push_label.new.page) (c.max.ensures ∙ ap (λ (t : ℕ). max c.args.greatest t) total) in
    let fourth = c.in_ok-push_number_at.ensures
    ∙ ap (λ (y : ℕ). added (number y c.total_of-total.result) c.push_parts.new.page) line
    ∙ ap (λ (t : ℕ). added (number (plus c.args.y 18) t) c.push_parts.new.page) total in
    let b = label (plus c.args.y 18) in
    let p = parts (max c.args.greatest (total_of c.args.bar.parts.now)) in
    let n = number (plus c.args.y 18) (total_of c.args.bar.parts.now) in
    let filled = both title (followed b (followed p n)) c.open.new.self c.push_words.new.page c.push_number_at.new.page
    c.in_ok-push_words.ensures
    (both b (followed p n) c.push_words.new.page c.push_label.new.page c.push_number_at.new.page second
    (both p n c.push_label.new.page c.push_parts.new.page c.push_number_at.new.page third fourth)) in
    on_ok_weaker c.close.result (λ e. e ∙ element tag.Group [] (followed title (followed b (followed p n))) c.args.page.now
    c.open.new.self c.push_number_at.new.page c.in_ok-open.ensures.written filled) c.close.ensures.written
