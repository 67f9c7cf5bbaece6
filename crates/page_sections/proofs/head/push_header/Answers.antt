use Rattle.std.proofs.Common.{◌∙◌, ℕ, List, [], ap}
use Rattle.std.proofs.lemmas.Result.{on_ok_weaker}
use Rattle.page_figures.proofs.PageLaws.{both, element}
use Rattle.page_markup.specs.Drafts.{followed}
use Rattle.page_markup.specs.OpenPages.{added}
use Rattle.page_markup.specs.Trees.Content.{Element, Nothing, Words}
use Rattle.page_markup.specs.declared.tag.Tag.TheVariants as tag
use Rattle.page_sections.specs.ReleasePages.{page_title, summary}
use Rattle.page_sections.proofs.head.push_header.Goals as goal

pub returns : goal.returns
unfolding page_title
returns c =
    let title = Element tag.Heading1 [] (Words page_title Nothing) Nothing in
    let said = λ (words : List ℕ). Element tag.Paragraph [] (Words words Nothing) Nothing in
    let words = summary c.args.rows c.args.counts.now in
    let second = c.in_ok-push_words-2.ensures ∙ ap (λ (w : List ℕ). added (said w) c.push_words.new.page)
    (c.deref.ensures.value ∙ c.in_ok-words.ensures) in
    let all = both title (said words) c.open.new.self c.push_words.new.page c.push_words-2.new.page c.in_ok-push_words.ensures second in
    on_ok_weaker c.close.result (λ e. e ∙ element tag.Header [] (followed title (said words)) c.args.page.now c.open.new.self
    c.push_words-2.new.page c.in_ok-open.ensures.written all) c.close.ensures.written
