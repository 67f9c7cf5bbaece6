use Rattle.std.proofs.Common.{◌∙◌, ℕ, List, ap, codes, map}
use Rattle.std.proofs.lemmas.Result.{on_ok_weaker}
use Rattle.page_figures.specs.Tables.{Entry, entry_of, table_content}
use Rattle.page_markup.specs.OpenPages.{added}
use Rattle.page_sections.proofs.SectionLaws.{section}
use Rattle.page_sections.specs.GreatestSection.{greatest_columns, greatest_note, greatest_rows}
use Rattle.release_figures.specs.Releases.{release_parts}
use Rattle.page_sections.proofs.greatest.push_greatest.Goals as goal

pub returns : goal.returns
unfolding greatest_columns greatest_note
returns c =
    let table = table_content (codes "The twenty records whose changes weigh most") greatest_columns in
    let release = release_parts c.args.release.now in
    let figures = c.args.figures.now in
    let rows = ap (map (λ r. map entry_of r.items)) c.deref.ensures.value ∙ c.in_ok-rows.ensures
    ∙ ap (λ (ns : List ℕ). greatest_rows release ns c.as_slice.result.now) c.as_slice-numbers.ensures
    ∙ ap (greatest_rows release figures.released) c.as_slice.ensures in
    let shown = c.in_ok-push_table.ensures ∙ ap (λ (rs : List (List Entry)). added (table rs) c.open_section.new.page) rows in
    on_ok_weaker c.close.result (λ e. e ∙ section (codes "Greatest changes") greatest_note
    (table (greatest_rows release figures.released figures.greatest)) c.args.page.now
    c.open_section.new.page c.push_table.new.page c.in_ok-open_section.ensures shown) c.close.ensures.written
