use Rattle.page_figures.proofs.Names.{◌∙◌, [], added, ap, both, codes, element, followed, map, on_ok_weaker, opened, refl, Element, Nothing}
use Rattle.page_markup.specs.declared.tag.Tag.TheVariants as tag
use Rattle.page_figures.specs.Drawings.{bins_content, drawing_attributes, figure_parts, layout_of, level_content, names_content, parts_of}
use Rattle.page_figures.specs.declared.histogram.Layout.{Layout}
use Rattle.page_figures.proofs.histogram.push_bin_drawing.Goals as goal

pub returns : goal.returns
returns c =
    let bins = map parts_of c.args.bins.now in
    let attributes = drawing_attributes c.args.figure.now.id (codes "0 0 784 296") in
    let start = opened tag.Drawing attributes c.args.page.now in
    let names = names_content (figure_parts c.args.figure.now) Nothing in
    let grid = level_content (codes "grid") c.args.greatest 24 Nothing in
    let drawn = λ (l : Layout). Element tag.Group [] (bins_content l 88 0 bins) Nothing in
    let axis = level_content (codes "axis") 0 264 Nothing in
    let b = drawn (layout_of c.args.greatest bins) in
    let third = c.in_ok-push_bins.ensures ∙ ap (λ (l : Layout). added (drawn l) c.push_level.new.page) c.of.ensures in
    let filled = both names (followed grid (followed b axis)) start c.open_drawing.new.page c.push_level-2.new.page
    c.in_ok-open_drawing.ensures
    (both grid (followed b axis) c.open_drawing.new.page c.push_level.new.page c.push_level-2.new.page c.in_ok-push_level.ensures
    (both b axis c.push_level.new.page c.push_bins.new.page c.push_level-2.new.page third c.in_ok-push_level-2.ensures)) in
    on_ok_weaker c.close.result (λ e. e ∙ element tag.Drawing attributes (followed names (followed grid (followed b axis)))
    c.args.page.now start c.push_level-2.new.page refl filled) c.close.ensures.written
