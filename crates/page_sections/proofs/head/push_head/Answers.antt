use Rattle.std.proofs.Common.{◌∙◌, [], ◌∷◌, codes}
use Rattle.std.proofs.lemmas.Result.{on_ok_weaker}
use Rattle.page_figures.proofs.PageLaws.{both, element}
use Rattle.page_markup.specs.Drafts.{followed}
use Rattle.page_markup.specs.Trees.Content.{Element, Nothing, Style, Void, Words}
use Rattle.page_markup.specs.declared.attribute.Attribute.TheVariants.{Charset}
use Rattle.page_markup.specs.declared.tag.Tag.TheVariants as tag
use Rattle.page_markup.specs.declared.tag.VoidTag.TheVariants.{Meta}
use Rattle.page_sections.specs.ReleasePages.{page_title, viewport_content}
use Rattle.page_sections.proofs.head.push_head.Goals as goal

pub returns : goal.returns
unfolding page_title
returns c =
    let charset = Void Meta ((Charset, codes "utf-8") ∷ []) Nothing in
    let title = Element tag.Title [] (Words page_title Nothing) Nothing in
    let last = both title (Style Nothing) c.push_viewport.new.page c.push_words.new.page c.style.new.self c.in_ok-push_words.ensures
    c.in_ok-style.ensures.written in
    let rest = both viewport_content (followed title (Style Nothing)) c.empty.new.self c.push_viewport.new.page c.style.new.self
    c.in_ok-push_viewport.ensures last in
    let all = both charset (followed viewport_content (followed title (Style Nothing))) c.open.new.self c.empty.new.self c.style.new.self
    c.in_ok-empty.ensures.written rest in
    on_ok_weaker c.close.result (λ e. e ∙ element tag.Head [] (followed charset (followed viewport_content (followed title (Style Nothing))))
    c.args.page.now c.open.new.self c.style.new.self c.in_ok-open.ensures.written all) c.close.ensures.written
