-- What is added to a page, section by section, and to a list, row by row.
use Rattle.std.proofs.Common.{◌≡◌, ◌∙◌, ◌+◌, ◌<◌, ◌≤◌, ℕ, List, [], ◌∷◌, ◌++◌}
use Rattle.std.proofs.Common.{ap, arith, get_or, length, map, refl, sym, take}
use Rattle.std.proofs.lemmas.List.{flat_map_more, map-append, take_all, take_more}
use Rattle.std.proofs.lemmas.List.FromFn.{map-range_with_len_more}
use Rattle.std.specs.List.{flat_map, range_with_len}
use Rattle.page_figures.proofs.PageLaws.{both, element}
use Rattle.page_markup.proofs.TreeLaws.{added-shown}
use Rattle.page_markup.specs.Drafts.{followed, shown}
use Rattle.page_markup.specs.OpenPages.{OpenPage, added, closed, opened}
use Rattle.page_markup.specs.Trees.{Content}
use Rattle.page_markup.specs.Trees.Content.{Nothing}
use Rattle.page_markup.specs.declared.tag.Tag.TheVariants.{Section}
use Rattle.page_sections.specs.Sections.{heading_content, section_content}

-- a section was opened, something was added in it, and it was ended
pub section : (heading note : List ℕ) (inside : Content) (old started filled : OpenPage)
    → started ≡ added (heading_content heading note Nothing) (opened Section [] old) → filled ≡ added inside started
    → closed filled ≡ added (section_content heading note inside) old
section heading note inside old started filled s f =
    element Section [] (heading_content heading note inside) old (opened Section [] old) filled refl
    (both (heading_content heading note Nothing) inside (opened Section [] old) started filled s f)

-- two things were added to a page that was begun
pub page_is : (language : List ℕ) (head body : Content) (started next last : OpenPage)
    → started ≡ shown (record { language = language; frames = []; here = Nothing }) → next ≡ added head started → last ≡ added body next
    → last ≡ shown (record { language = language; frames = []; here = followed head body })
page_is language head body started next last s n l =
    both head body started next last n l ∙ ap (added (followed head body)) s
    ∙ added-shown (followed head body) (record { language = language; frames = []; here = Nothing })

-- the rows of one thing more
pub rows_more : {X A : Type 0} (f : X → List A) (before : List A) (xs : List X) (i : ℕ) (d : X) (now next : List A) → i < length xs
    → now ≡ before ++ flat_map f (take i xs) → next ≡ now ++ f (get_or xs i d) → next ≡ before ++ flat_map f (take (i + 1) xs)
rows_more f before xs i d now next within e step =
    rw (step, e, take_more xs i d within) (flat_map_more f before (take i xs) (get_or xs i d))

-- the rows of all things
pub rows_all : {X A : Type 0} (f : X → List A) (before : List A) (xs : List X) (i : ℕ) (now : List A) → length xs ≤ i
    → now ≡ before ++ flat_map f (take i xs) → now ≡ before ++ flat_map f xs
rows_all {X} f before xs i now past e = e ∙ ap (λ (ys : List X). before ++ flat_map f ys) (take_all i xs past)

-- one thing more, as a function of its number
pub numbered_more : {X Y : Type 0} (view : X → Y) (at : ℕ → Y) (before after : List X) (x : X) (i : ℕ) → after ≡ before ++ x ∷ []
    → view x ≡ at i → map view before ≡ map at (range_with_len 0 i) → map view after ≡ map at (range_with_len 0 (i + 1))
numbered_more {X} {Y} view at before after x i pushed is so_far =
    ap (map view) pushed ∙ map-append view before (x ∷ []) ∙ ap (λ (ys : List Y). ys ++ view x ∷ []) so_far
    ∙ ap (λ (y : Y). map at (range_with_len 0 i) ++ y ∷ []) is ∙ sym (map-range_with_len_more at 0 i i (omega arith))
