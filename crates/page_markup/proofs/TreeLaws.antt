-- What is written so far is the text of the tree so far.
use Rattle.std.proofs.Common.{◌≡◌, ℕ, List, [], ◌∷◌, ◌++◌, refl, sym, ap, ◌∙◌, append_assoc, append-nil, map, length, reverse, arith}
use Rattle.std.proofs.lemmas.List.{reverse-append}
use Rattle.std.specs.List.{flat_map}
use Rattle.page_markup.specs.Drafts.{Draft, Frame, IsOfTree, ended, followed, frames_text, shown, whole, whole_of, with_child, with_more, without_child}
use Rattle.page_markup.specs.Escapes.{escaped}
use Rattle.page_markup.specs.OpenPages.{OpenPage, added, begun, closed, finished, opened}
use Rattle.page_markup.specs.Trees.{Attributes, Content, content_text, end_text, IsWellFormed, page_end, page_start, page_text}
use Rattle.page_markup.specs.Trees.{start_text, style_text, void_text}
use Rattle.page_markup.specs.Trees.Content.{Nothing, Words, Style, Void, Element}
use Rattle.page_markup.specs.declared.tag.Tag.{Tag}

-- a text in front
behind : (front a b c : List ℕ) → a ≡ b ++ c → front ++ a ≡ (front ++ b) ++ c
behind front a b c e = ap (λ (t : List ℕ). front ++ t) e ∙ sym (append_assoc front b c)

-- the text of one content and then another
pub followed-text : (c d : Content) → content_text (followed c d) ≡ content_text c ++ content_text d
followed-text Nothing d = refl
followed-text (Words words rest) d = behind (escaped words) _ (content_text rest) (content_text d) (followed-text rest d)
followed-text (Style rest) d = behind style_text _ (content_text rest) (content_text d) (followed-text rest d)
followed-text (Void tag attributes rest) d = behind (void_text tag attributes) _ (content_text rest) (content_text d) (followed-text rest d)
followed-text (Element tag attributes inside rest) d =
    behind (start_text tag attributes ++ content_text inside ++ end_text tag) _ (content_text rest) (content_text d) (followed-text rest d)

-- the page of a text and of what is open
abbrev pub page_of : List ℕ → List Tag → OpenPage
page_of text tags = record { text = text; tags = tags }

-- two pages with the same text and the same open elements
page-same : (s t : List ℕ) (tags : List Tag) → s ≡ t → page_of s tags ≡ page_of t tags
page-same s t tags e = ap (λ (x : List ℕ). page_of x tags) e

-- ---- a page that is begun

pub begun-shown : (language : List ℕ) → begun language ≡ shown (record { language = language; frames = []; here = Nothing })
begun-shown language = page-same _ _ [] (sym (append-nil (page_start language)))

-- ---- an element is opened

pub opened-shown : (tag : Tag) (attributes : Attributes) (draft : Draft) → opened tag attributes (shown draft) ≡ shown (with_child tag attributes draft)
opened-shown tag attributes draft =
    page-same _ _ _ (sym (append-nil (frames_text draft.language draft.frames ++ content_text draft.here ++ start_text tag attributes)))

-- ---- something is added

pub added-shown : (content : Content) (draft : Draft) → added content (shown draft) ≡ shown (with_more content draft)
added-shown content draft =
    page-same _ _ _ (append_assoc (frames_text draft.language draft.frames) (content_text draft.here) (content_text content)
    ∙ ap (λ (t : List ℕ). frames_text draft.language draft.frames ++ t) (sym (followed-text draft.here content)))

-- ---- an element is ended

-- five texts, one behind the other
five : (a b c d e : List ℕ) → a ++ b ++ c ++ d ++ e ≡ a ++ (b ++ ((c ++ d ++ e) ++ []))
five a b c d e =
    ap (λ (t : List ℕ). t ++ e) (append_assoc (a ++ b) c d) ∙ append_assoc (a ++ b) (c ++ d) e ∙ append_assoc a b (c ++ d ++ e)
    ∙ ap (λ (t : List ℕ). a ++ (b ++ t)) (sym (append-nil (c ++ d ++ e)))

-- what is written of a frame and of what it holds, and then its end
ended-behind : (outer : List ℕ) (frame : Frame) (inside : Content)
    → outer ++ content_text frame.before ++ start_text frame.tag frame.attributes ++ content_text inside ++ end_text frame.tag
    ≡ outer ++ content_text (ended frame inside)
ended-behind outer frame inside =
    five outer (content_text frame.before) (start_text frame.tag frame.attributes) (content_text inside) (end_text frame.tag)
    ∙ ap (λ (t : List ℕ). outer ++ t) (sym (followed-text frame.before (Element frame.tag frame.attributes inside Nothing)))

closed-at : (language : List ℕ) (frames : List Frame) (here : Content)
    → closed (shown (record { language = language; frames = frames; here = here }))
    ≡ shown (without_child (record { language = language; frames = frames; here = here }))
closed-at language [] here = refl
closed-at language (frame ∷ frames) here = page-same _ _ _ (ended-behind (frames_text language frames) frame here)

pub closed-shown : (draft : Draft) → closed (shown draft) ≡ shown (without_child draft)
closed-shown draft = closed-at draft.language draft.frames draft.here

-- ---- the page is ended

finished-at : (language : List ℕ) (frames : List Frame) (here : Content)
    → frames_text language frames ++ content_text here ++ flat_map end_text (map (λ (frame : Frame). frame.tag) frames)
    ≡ page_start language ++ content_text (whole_of frames here)
finished-at language [] here = append-nil (page_start language ++ content_text here)
finished-at language (frame ∷ frames) here =
    let rest = flat_map end_text (map (λ (f : Frame). f.tag) frames) in
    sym (append_assoc (frames_text language (frame ∷ frames) ++ content_text here) (end_text frame.tag) rest)
    ∙ ap (λ (t : List ℕ). t ++ rest) (ended-behind (frames_text language frames) frame here)
    ∙ finished-at language frames (ended frame here)

pub finished-shown : (draft : Draft) → finished (shown draft) ≡ page_text draft.language (whole draft)
finished-shown draft = ap (λ (t : List ℕ). t ++ page_end) (finished-at draft.language draft.frames draft.here)

-- ---- the same of a page of which only is known that it is some tree's

pub of_tree-begun : (language : List ℕ) → IsOfTree (begun language)
of_tree-begun language = (record { language = language; frames = []; here = Nothing }, begun-shown language)

pub of_tree-opened : (tag : Tag) (attributes : Attributes) (page : OpenPage) → IsOfTree page → IsOfTree (opened tag attributes page)
of_tree-opened tag attributes page h = (with_child tag attributes h.0, ap (opened tag attributes) h.1 ∙ opened-shown tag attributes h.0)

pub of_tree-added : (content : Content) (page : OpenPage) → IsOfTree page → IsOfTree (added content page)
of_tree-added content page h = (with_more content h.0, ap (added content) h.1 ∙ added-shown content h.0)

pub of_tree-closed : (page : OpenPage) → IsOfTree page → IsOfTree (closed page)
of_tree-closed page h = (without_child h.0, ap closed h.1 ∙ closed-shown h.0)

pub of_tree-finished : (page : OpenPage) → IsOfTree page → IsWellFormed (finished page)
of_tree-finished page h = (h.0.language, whole h.0, ap finished h.1 ∙ finished-shown h.0)

-- ---- what is written, from what the writer holds

-- the mark that was written stands behind the text
pub marked : (text now said mark cleared bytes : List ℕ) → now ≡ text ++ said → said ≡ mark → mark ≡ cleared ++ bytes → cleared ≡ [] → now ≡ text ++ bytes
marked text now said mark cleared bytes n s m e = n ∙ ap (λ (t : List ℕ). text ++ t) (s ∙ m ∙ ap (λ (t : List ℕ). t ++ bytes) e)

-- three texts that were appended
pub appended-three : (text one two three a b c : List ℕ) → one ≡ text ++ a → two ≡ one ++ b → three ≡ two ++ c → three ≡ text ++ (a ++ b ++ c)
appended-three text one two three a b c f g h =
    h ∙ ap (λ (t : List ℕ). t ++ c) (g ∙ ap (λ (t : List ℕ). t ++ b) f ∙ append_assoc text a b) ∙ append_assoc text (a ++ b) c

-- a page, whose text has something more
pub added-is : (content : Content) (bytes text now : List ℕ) (tags : List Tag) (page : OpenPage)
    → page_of text tags ≡ page → now ≡ text ++ bytes → content_text content ≡ bytes → page_of now tags ≡ added content page
added-is content bytes text now tags page p n e =
    page-same now (text ++ content_text content) tags (n ∙ ap (λ (t : List ℕ). text ++ t) (sym e)) ∙ ap (added content) p

-- a page, where an element more is open
pub opened-is : (tag : Tag) (attributes : Attributes) (text now : List ℕ) (before next : List Tag) (page : OpenPage)
    → page_of text (reverse before) ≡ page → now ≡ text ++ start_text tag attributes → next ≡ before ++ tag ∷ []
    → page_of now (reverse next) ≡ opened tag attributes page
opened-is tag attributes text now before next page p n e =
    ap (λ (x : List ℕ). page_of x (reverse next)) n
    ∙ ap (λ (ts : List Tag). page_of (text ++ start_text tag attributes) ts) (ap reverse e ∙ reverse-append before (tag ∷ []))
    ∙ ap (opened tag attributes) p

-- a page, where the innermost element is ended
pub closed-is : (tag : Tag) (text now : List ℕ) (before next : List Tag) (page : OpenPage)
    → page_of text (reverse before) ≡ page → now ≡ text ++ end_text tag → before ≡ next ++ tag ∷ []
    → page_of now (reverse next) ≡ closed page
closed-is tag text now before next page p n e =
    ap (λ (x : List ℕ). page_of x (reverse next)) n
    ∙ sym (ap (λ (ts : List Tag). closed (page_of text ts)) (ap reverse e ∙ reverse-append next (tag ∷ [])))
    ∙ ap closed p

-- an element that is ended first is ended all the same
pub finished-closed : (page : OpenPage) → finished (closed page) ≡ finished page
finished-closed page = at page.text page.tags
  where
    at : (text : List ℕ) (tags : List Tag) → finished (closed (page_of text tags)) ≡ finished (page_of text tags)
    at text [] = refl
    at text (tag ∷ tags) = ap (λ (t : List ℕ). t ++ page_end) (append_assoc text (end_text tag) (flat_map end_text tags))

-- a page without open elements is its text, and the end
pub finished-none : (page : OpenPage) → length page.tags ≡ 0 → finished page ≡ page.text ++ page_end
finished-none page h = at page.text page.tags h
  where
    at : (text : List ℕ) (tags : List Tag) → length tags ≡ 0 → finished (page_of text tags) ≡ text ++ page_end
    at text [] h = ap (λ (t : List ℕ). t ++ page_end) (append-nil text)
    at text (tag ∷ tags) h = absurd (none h)
      where
        none : length (tag ∷ tags) ≡ 0 → ⊥
        none e = grind arith
