-- What is added to a page, piece by piece.
use Rattle.std.proofs.Common.{◌≡◌, ◌≢◌, ◌-◌, ℕ, zero, suc, List, [], ◌++◌, ap, append_assoc, append-nil, arith}
use Rattle.std.proofs.Common.{false, get_or, refl, sym, true, ◌∙◌}
use Rattle.page_markup.specs.Drafts.{followed}
use Rattle.page_markup.specs.OpenPages.{OpenPage, added, closed, opened}
use Rattle.page_markup.specs.Trees.{Attributes, Content, content_text, end_text, start_text}
use Rattle.page_markup.specs.Trees.Content.{Element, Nothing}
use Rattle.page_markup.specs.declared.tag.Tag.{Tag}
use Rattle.page_markup.proofs.TreeLaws.{followed-text, page_of}
use Rattle.page_figures.specs.Drawings.{boundary, goes_on}

added-followed : (c d : Content) (page : OpenPage) → added (followed c d) page ≡ added d (added c page)
added-followed c d page =
    ap (λ (t : List ℕ). page_of t page.tags)
    (ap (λ (t : List ℕ). page.text ++ t) (followed-text c d) ∙ sym (append_assoc page.text (content_text c) (content_text d)))

-- one thing was added, and then another
pub both : (c d : Content) (old next last : OpenPage) → next ≡ added c old → last ≡ added d next → last ≡ added (followed c d) old
both c d old next last n l = l ∙ ap (added d) n ∙ sym (added-followed c d old)

-- four texts, one behind the other
four : (a b c d : List ℕ) → a ++ b ++ c ++ d ≡ a ++ (b ++ c ++ d ++ [])
four a b c d =
    ap (λ (t : List ℕ). t ++ d) (append_assoc a b c) ∙ append_assoc a (b ++ c) d
    ∙ ap (λ (t : List ℕ). a ++ t) (sym (append-nil (b ++ c ++ d)))

-- an element was opened, something was added in it, and it was ended
pub element : (tag : Tag) (attributes : Attributes) (inside : Content) (old started filled : OpenPage)
    → started ≡ opened tag attributes old → filled ≡ added inside started
    → closed filled ≡ added (Element tag attributes inside Nothing) old
element tag attributes inside old started filled s f =
    ap closed (f ∙ ap (added inside) s)
    ∙ ap (λ (t : List ℕ). page_of t old.tags) (four old.text (start_text tag attributes) (content_text inside) (end_text tag))

-- ---- where a label is cut

pub boundary-here : (label : List ℕ) (end : ℕ) → goes_on (get_or label end 0) ≡ false → boundary label end ≡ end
boundary-here label zero h = refl
boundary-here label (suc end) h = rw h refl

below-suc : (label : List ℕ) (end before : ℕ)
    → before ≡ end → goes_on (get_or label (suc end) 0) ≡ true → boundary label (suc end) ≡ boundary label before
below-suc label end before e h = rw h (ap (boundary label) (sym e))

pub boundary-below : (label : List ℕ) (end : ℕ)
    → end ≢ 0 → goes_on (get_or label end 0) ≡ true → boundary label end ≡ boundary label (end - 1)
boundary-below label zero n h = absurd (n refl)
boundary-below label (suc end) n h = below-suc label end (suc end - 1) (omega arith) h

pub ruleset boundaries = (boundary-here, boundary-below)
