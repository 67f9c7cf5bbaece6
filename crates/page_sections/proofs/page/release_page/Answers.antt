use Rattle.std.proofs.Common.{[], codes}
use Rattle.std.proofs.lemmas.Result.{IfOk-weaker}
use Rattle.page_markup.specs.Drafts.{Draft}
use Rattle.page_sections.proofs.SectionLaws.{page_is}
use Rattle.page_sections.specs.ReleasePages.{body_content, head_content, page_content}
use Rattle.release_figures.specs.Releases.{release_parts}
use Rattle.page_sections.proofs.page.release_page.Goals as goal

pub returns-clause-page : goal.returns-clause-page
returns-clause-page c =
    let figures = c.args.figures.now in
    let release = release_parts c.args.release.now in
    let draft : Draft = record { language = codes "en"; frames = []; here = page_content release figures } in
    let is = page_is (codes "en") head_content (body_content release figures) c.in_ok-page.page c.push_head.new.page c.push_body.new.page
    c.in_ok-page.ensures.tree c.in_ok-push_head.ensures c.in_ok-push_body.ensures in
    IfOk-weaker c.finish.result _ _ (λ page told. record { figures = figures; counted = c.requires; written = told draft is })
    c.finish.ensures.tree
