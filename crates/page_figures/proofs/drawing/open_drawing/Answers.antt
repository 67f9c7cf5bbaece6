use Rattle.page_figures.proofs.Names.{rules, ◌≡◌, ◌∙◌, ◌++◌, ℕ, List, added, ap, both, codes, decimal, on_ok_weaker, opened, Element, Nothing, Words}
use Rattle.page_markup.specs.declared.tag.Tag.TheVariants as tag
use Rattle.page_figures.specs.Attributes.{image, named}
use Rattle.page_figures.proofs.drawing.open_drawing.Goals as goal

pub returns : goal.returns
returns c =
    let n = codes "title-" ++ (decimal c.args.figure.now.id ++ (codes " description-" ++ decimal c.args.figure.now.id)) in
    let t = codes "title-" ++ decimal c.args.figure.now.id in
    let d = codes "description-" ++ decimal c.args.figure.now.id in
    let names = c.as_bytes.ensures.value ∙ c.in_ok-names.ensures.ok in
    let title : c.as_bytes-2.result.now ≡ t = search rules in
    let description : c.as_bytes-3.result.now ≡ d = search rules in
    let titled = λ (w : List ℕ). Element tag.Title (named w) (Words c.args.figure.now.title.now Nothing) Nothing in
    let told = λ (w : List ℕ). Element tag.Description (named w) (Words c.args.figure.now.description.now Nothing) Nothing in
    let start = c.in_ok-open_image.ensures
    ∙ ap (λ (w : List ℕ). opened tag.Drawing (image w c.args.view.now) c.args.page.now) names in
    let first = c.in_ok-push_named.ensures ∙ ap (λ (w : List ℕ). added (titled w) c.open_image.new.page) title
    ∙ ap (added (titled t)) start in
    on_ok_weaker c.push_named-2.result (λ e. both (titled t) (told d) (opened tag.Drawing (image n c.args.view.now) c.args.page.now)
    c.push_named.new.page c.push_named-2.new.page first
    (e ∙ ap (λ (w : List ℕ). added (told w) c.push_named.new.page) description)) c.push_named-2.ensures
