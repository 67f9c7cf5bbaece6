use Rattle.page_figures.proofs.Names.{◌∙◌, [], both, element, followed, map, on_ok_weaker, Element, Nothing, Words}
use Rattle.page_markup.specs.declared.tag.Tag.TheVariants as tag
use Rattle.page_figures.specs.Tables.{entry_of, names_row, rows_content}
use Rattle.page_figures.proofs.table.push_grid.Goals as goal

pub returns : goal.returns
returns c =
    let caption = Element tag.Caption [] (Words c.args.caption.now Nothing) Nothing in
    let head = Element tag.TableHead [] (names_row (map (λ w. w.now) c.args.columns.now)) Nothing in
    let body = Element tag.TableBody [] (rows_content (map (λ r. map entry_of r.items) c.args.rows.now)) Nothing in
    let filled = both caption (followed head body) c.open.new.self c.push_words.new.page c.push_rows.new.page c.in_ok-push_words.ensures
    (both head body c.push_words.new.page c.push_columns.new.page c.push_rows.new.page
    c.in_ok-push_columns.ensures c.in_ok-push_rows.ensures) in
    on_ok_weaker c.close.result (λ e. e ∙ element tag.Table [] (followed caption (followed head body)) c.args.page.now c.open.new.self
    c.push_rows.new.page c.in_ok-open.ensures.written filled) c.close.ensures.written
