use Rattle.page_figures.proofs.Names.{rules, ◌≡◌, ◌∙◌, ◌++◌, ℕ, List, [], added, ap, both}
use Rattle.page_figures.proofs.Names.{codes, decimal, element, followed, map, on_ok_weaker, opened, refl, Element, Nothing}
use Rattle.std.proofs.Common.{◌*◌, ◌-◌, ◌^◌, min, sym}
use Rattle.std.proofs.lemmas.List.{length-map}
use Rattle.page_markup.specs.declared.tag.Tag.TheVariants as tag
use Rattle.page_figures.specs.Drawings.{bars_below, bars_height, drawing_attributes, figure_parts, line_content, names_content, parts_of}
use Rattle.page_figures.proofs.bars.push_bar_drawing.Goals as goal

pub returns : goal.returns
returns c =
    let bars = map parts_of c.args.bars.now in
    let high : c.saturating_mul-height.result ≡ bars_height bars =
    c.saturating_mul-height.ensures ∙ ap (λ (n : ℕ). min (n * 26) (2 ^ 64 - 1)) (sym (length-map c.args.bars.now parts_of)) in
    let view : c.as_bytes.result.now ≡ codes "0 0 784 " ++ decimal c.saturating_mul-height.result = search rules in
    let attributes = λ (v : List ℕ). drawing_attributes c.args.figure.now.id v in
    let a = attributes (codes "0 0 784 " ++ decimal (bars_height bars)) in
    let names = names_content (figure_parts c.args.figure.now) Nothing in
    let drawn = Element tag.Group [] (bars_below c.args.greatest 0 bars) Nothing in
    let axis = λ (h : ℕ). line_content (codes "axis") 224 0 224 h Nothing in
    let x = axis (bars_height bars) in
    let start = opened tag.Drawing a c.args.page.now in
    let first = c.in_ok-open_drawing.ensures
    ∙ ap (λ (v : List ℕ). added names (opened tag.Drawing (attributes v) c.args.page.now))
    (view ∙ ap (λ (h : ℕ). codes "0 0 784 " ++ decimal h) high) in
    let last = c.in_ok-push_line.ensures ∙ ap (λ (h : ℕ). added (axis h) c.push_bars_below.new.page) high in
    let filled = both names (followed drawn x) start c.open_drawing.new.page c.push_line.new.page first
    (both drawn x c.open_drawing.new.page c.push_bars_below.new.page c.push_line.new.page c.in_ok-push_bars_below.ensures last) in
    on_ok_weaker c.close.result (λ e. e ∙ element tag.Drawing a (followed names (followed drawn x)) c.args.page.now start
    c.push_line.new.page refl filled) c.close.ensures.written
