use Rattle.std.proofs.Common.{◌∙◌, ℕ, [], ap, length}
use Rattle.std.proofs.lemmas.Result.{on_ok_weaker}
use Rattle.page_figures.proofs.PageLaws.{both, element}
use Rattle.page_markup.specs.Drafts.{followed}
use Rattle.page_markup.specs.OpenPages.{added}
use Rattle.page_markup.specs.Trees.Content.{Element, Nothing}
use Rattle.page_markup.specs.declared.tag.Tag.TheVariants as tag
use Rattle.page_sections.specs.ReleasePages.{header_content, sections_content}
use Rattle.release_figures.specs.Releases.{release_parts}
use Rattle.page_sections.proofs.page.push_body.Goals as goal

pub returns : goal.returns
returns c =
    let figures = c.args.figures.now in
    let release = release_parts c.args.release.now in
    let header = λ (rows : ℕ). header_content rows figures.records in
    let sections = sections_content release figures in
    let main = Element tag.Main [] sections Nothing in
    let first = c.in_ok-push_header.ensures ∙ ap (λ (rows : ℕ). added (header rows) c.open.new.self) c.len.ensures.rows in
    let second = c.in_ok-close.ensures.written ∙ element tag.Main [] sections c.push_header.new.page c.open-2.new.self c.push_sections.new.page
    c.in_ok-open-2.ensures.written c.in_ok-push_sections.ensures in
    let all = both (header (length release.records.rows)) main c.open.new.self c.push_header.new.page c.close.new.self first second in
    on_ok_weaker c.close-2.result (λ e. e ∙ element tag.Body [] (followed (header (length release.records.rows)) main) c.args.page.now
    c.open.new.self c.close.new.self c.in_ok-open.ensures.written all) c.close-2.ensures.written
