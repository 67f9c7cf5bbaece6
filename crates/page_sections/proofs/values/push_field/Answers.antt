use Rattle.std.proofs.Common.{◌∙◌, List, [], ℕ, ap}
use Rattle.std.proofs.lemmas.Result.{on_ok_weaker}
use Rattle.edit_language.specs.Printing.{name_at}
use Rattle.page_figures.proofs.PageLaws.{both}
use Rattle.page_markup.specs.OpenPages.{added}
use Rattle.page_markup.specs.Trees.Content.{Element, Nothing, Words}
use Rattle.page_markup.specs.declared.tag.Tag.TheVariants.{Heading3}
use Rattle.page_sections.specs.ValueSection.{shown_values}
use Rattle.page_sections.proofs.values.push_field.Goals as goal

pub returns : goal.returns
returns c =
    let heading = λ (words : List ℕ). Element Heading3 [] (Words words Nothing) Nothing in
    let first = c.in_ok-push_words.ensures ∙ ap (λ (w : List ℕ). added (heading w) c.args.page.now) c.name_at.ensures in
    on_ok_weaker c.push_shown_values.result (both (heading (name_at c.args.fields.now c.args.i))
    (shown_values c.args.fields.now c.args.i c.args.values.now) c.args.page.now c.push_words.new.page c.push_shown_values.new.page first)
    c.push_shown_values.ensures
