use Rattle.page_figures.proofs.Names.{◌∙◌, codes, element, map, on_ok_weaker}
use Rattle.page_markup.specs.declared.tag.Tag.TheVariants as tag
use Rattle.page_figures.specs.Attributes.{classed}
use Rattle.page_figures.specs.Tables.{entry_of, grid_content}
use Rattle.page_figures.proofs.table.push_table.Goals as goal

pub returns : goal.returns
returns c =
    let grid = grid_content c.args.caption.now (map (λ w. w.now) c.args.columns.now) (map (λ r. map entry_of r.items) c.args.rows.now) in
    on_ok_weaker c.close.result (λ e. e ∙ element tag.Division (classed (codes "table")) grid c.args.page.now c.open_classed.new.page
    c.push_grid.new.page c.in_ok-open_classed.ensures c.in_ok-push_grid.ensures) c.close.ensures.written
