use Rattle.page_figures.proofs.Names.{◌∙◌, ℕ, [], added, ap, both, element, followed, on_ok_weaker, Element, Nothing, Words}
use Rattle.page_markup.specs.declared.tag.Tag.TheVariants as tag
use Rattle.page_figures.specs.declared.colour.Colour.TheVariants.{First}
use Rattle.page_figures.specs.Drawings.{tick_content, uprights}
use Rattle.page_figures.specs.Sums.{plus}
use Rattle.page_figures.proofs.histogram.push_bin.Goals as goal

pub returns : goal.returns
returns c =
    let title = Element tag.Title [] (Words c.args.bin.label.now Nothing) Nothing in
    let bars = Element tag.Group [] (uprights c.args.layout.greatest c.args.layout.width c.args.x First c.args.bin.parts.now) Nothing in
    let tick = λ (x : ℕ). tick_content c.args.bin.label.now x c.args.wait in
    let t = tick (plus c.args.x c.args.layout.middle) in
    let last = c.in_ok-push_tick.ensures ∙ ap (λ (x : ℕ). added (tick x) c.push_uprights.new.page) c.saturating_add.ensures in
    let filled = both title (followed bars t) c.open.new.self c.push_words.new.page c.push_tick.new.page c.in_ok-push_words.ensures
    (both bars t c.push_words.new.page c.push_uprights.new.page c.push_tick.new.page c.in_ok-push_uprights.ensures last) in
    on_ok_weaker c.close.result (λ e. e ∙ element tag.Group [] (followed title (followed bars t)) c.args.page.now c.open.new.self
    c.push_tick.new.page c.in_ok-open.ensures.written filled) c.close.ensures.written
