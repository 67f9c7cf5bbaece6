-- Which picture is drawn.
use Rattle.std.proofs.Common.{◌≡◌, ◌<◌, ◌∙◌, ℕ, List, [], ◌∷◌, ap, arith, codes, drop, false, length, map, nat_le, refl, sym, take}
use Rattle.std.proofs.lemmas.List.{drop-map, length-map, take-map}
use Rattle.page_markup.specs.Drafts.{followed}
use Rattle.page_markup.specs.Trees.Content.{Element, Nothing, Words}
use Rattle.page_markup.specs.declared.tag.Tag.TheVariants as tag
use Rattle.page_figures.specs.Drawings.{BarParts, FigureParts, parts_of}
use Rattle.page_figures.specs.Figures.{note, picture_content, shown_content, summed_content}
use Rattle.page_figures.specs.declared.figure.Bar.{Bar}
use Rattle.page_figures.specs.declared.figure.Form.{Form}

-- there are no bars
pub picture-none : (form : Form) (figure : FigureParts) (series : List (List ℕ)) (bars : List Bar) → length bars ≡ 0
    → Element tag.Paragraph [] (Words (codes "nothing to show") Nothing) Nothing ≡ picture_content form figure series (map parts_of bars)
picture-none form figure series [] e = refl
picture-none form figure series (bar ∷ bars) e = absurd (none e)
  where
    none : length (bar ∷ bars) ≡ 0 → ⊥
    none h = grind arith

-- there are more bars than a picture has
pub shown-summed : (form : Form) (figure : FigureParts) (bars front back : List Bar)
    → 64 < length bars → front ≡ take 63 bars → back ≡ drop 63 bars
    → followed (Element tag.Paragraph [] (Words note Nothing) Nothing) (summed_content form figure (map parts_of front) (map parts_of back))
    ≡ shown_content form figure (map parts_of bars)
shown-summed form figure bars front back more f b =
    let many : nat_le (length (map parts_of bars)) 64 ≡ false = grind (arith, length-map) in
    let summed = λ (one other : List BarParts). Element tag.Paragraph [] (Words note Nothing) (summed_content form figure one other) in
    ap (λ (one : List BarParts). summed one (map parts_of back)) (ap (map parts_of) f ∙ sym (take-map parts_of 63 bars))
    ∙ ap (summed (take 63 (map parts_of bars))) (ap (map parts_of) b ∙ sym (drop-map parts_of 63 bars))
    ∙ rw many refl
