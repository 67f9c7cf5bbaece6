-- The tree of a page that is being written.
use Rattle.std.specs.Prelude.{◌≡◌, ℕ, List, [], ◌∷◌, ◌++◌, map}
use Rattle.page_markup.specs.OpenPages.{OpenPage}
use Rattle.page_markup.specs.Trees.{Attributes, Content, content_text, page_start, start_text}
use Rattle.page_markup.specs.Trees.Content.{Nothing, Words, Style, Void, Element}
use Rattle.page_markup.specs.declared.tag.Tag.{Tag}

-- an element that is open, and what stands before it in the one around it
pub record Frame : Type 0 where
  pub tag : Tag
  pub attributes : Attributes
  pub before : Content

-- a page that is being written: the elements that are open, the innermost first, and what the innermost holds so far
pub record Draft : Type 0 where
  pub language : List ℕ
  pub frames : List Frame
  pub here : Content

-- one content, and then another
abbrev pub followed : Content → Content → Content
followed Nothing next = next
followed (Words words rest) next = Words words (followed rest next)
followed (Style rest) next = Style (followed rest next)
followed (Void tag attributes rest) next = Void tag attributes (followed rest next)
followed (Element tag attributes inside rest) next = Element tag attributes inside (followed rest next)

-- what a call does to the tree: an element is opened behind what is there
abbrev pub with_child : Tag → Attributes → Draft → Draft
with_child tag attributes draft =
    record draft { frames = record { tag = tag; attributes = attributes; before = draft.here } ∷ draft.frames; here = Nothing }

-- something is added behind what is there
abbrev pub with_more : Content → Draft → Draft
with_more content draft = record draft { here = followed draft.here content }

-- the open element with all that it holds
abbrev pub ended : Frame → Content → Content
ended frame inside = followed frame.before (Element frame.tag frame.attributes inside Nothing)

-- the innermost element is ended, where one is open; else all is as before
abbrev pub without_child_at : List ℕ → List Frame → Content → Draft
without_child_at language [] here = record { language = language; frames = []; here = here }
without_child_at language (frame ∷ frames) here = record { language = language; frames = frames; here = ended frame here }

-- the same of a draft
abbrev pub without_child : Draft → Draft
without_child draft = without_child_at draft.language draft.frames draft.here

-- all that the page holds, where each open element is ended
abbrev pub whole_of : List Frame → Content → Content
whole_of [] here = here
whole_of (frame ∷ frames) here = whole_of frames (ended frame here)

-- the same of a draft
abbrev pub whole : Draft → Content
whole draft = whole_of draft.frames draft.here

-- what is written of the elements that are open
abbrev pub frames_text : List ℕ → List Frame → List ℕ
frames_text language [] = page_start language
frames_text language (frame ∷ frames) = frames_text language frames ++ content_text frame.before ++ start_text frame.tag frame.attributes

-- the page so far, as its writer has it
abbrev pub shown : Draft → OpenPage
shown draft =
    record {
      text = frames_text draft.language draft.frames ++ content_text draft.here;
      tags = map (λ frame. frame.tag) draft.frames;
    }

-- the page so far is that of some tree
abbrev pub IsOfTree : OpenPage → Type 0
IsOfTree page = (draft : Draft) × (page ≡ shown draft)

-- a page goes on from another as its tree does
abbrev pub Follows : (Draft → Draft) → OpenPage → OpenPage → Type 0
Follows f old new = (draft : Draft) → old ≡ shown draft → new ≡ shown (f draft)
