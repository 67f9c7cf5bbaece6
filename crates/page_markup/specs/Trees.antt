-- What a page is: a tree of elements and words, and its text.
use Rattle.std.specs.Prelude.{◌≡◌, ℕ, List, [], ◌∷◌, ◌++◌, codes}
use Rattle.std.specs.List.{flat_map}
use Rattle.page_markup.specs.Escapes.{escaped}
use Rattle.page_markup.specs.Names.{attribute_name, tag_name, void_name}
use Rattle.page_markup.specs.declared.attribute.Attribute.{Attribute}
use Rattle.page_markup.specs.declared.attribute.Attribute.TheVariants.{Language}
use Rattle.page_markup.specs.declared.tag.Tag.{Tag}
use Rattle.page_markup.specs.declared.tag.VoidTag.{VoidTag}
use Rattle.page_markup.specs.declared.style.TheConstants.{STYLE}

-- the attributes of an element, with their values
abbrev pub Attributes : Type 0
Attributes = List (Attribute × List ℕ)

-- what an element holds: nothing more, or one of these, and then the rest: words; the style sheet; an element that holds nothing;
-- an element with what it holds
pub data Content : Type 0 where
  Nothing : Content
  Words : List ℕ → Content → Content
  Style : Content → Content
  Void : VoidTag → Attributes → Content → Content
  Element : Tag → Attributes → Content → Content → Content

-- an attribute behind a space, its value between quotation marks
abbrev pub attribute_text : (Attribute × List ℕ) → List ℕ
attribute_text a = codes " " ++ attribute_name a.0 ++ codes "=" ++ 34 ∷ (escaped a.1 ++ 34 ∷ [])

-- the start of an element, with its attributes
abbrev pub start_text : Tag → Attributes → List ℕ
start_text tag attributes = codes "<" ++ tag_name tag ++ flat_map attribute_text attributes ++ codes ">"

-- the end of an element
abbrev pub end_text : Tag → List ℕ
end_text tag = codes "</" ++ tag_name tag ++ codes ">"

-- an element that holds nothing, as a whole
abbrev pub void_text : VoidTag → Attributes → List ℕ
void_text tag attributes = codes "<" ++ void_name tag ++ flat_map attribute_text attributes ++ codes " />"

-- the style sheet, as an element
unfoldable pub style_text : List ℕ
style_text = codes "<style>" ++ STYLE.now ++ codes "</style>"

-- the text of what an element holds
abbrev pub content_text : Content → List ℕ
content_text Nothing = []
content_text (Words words rest) = escaped words ++ content_text rest
content_text (Style rest) = style_text ++ content_text rest
content_text (Void tag attributes rest) = void_text tag attributes ++ content_text rest
content_text (Element tag attributes inside rest) = start_text tag attributes ++ content_text inside ++ end_text tag ++ content_text rest

-- what stands before all that a page holds: the document type, and the start of `html` with the language
unfoldable pub page_start : List ℕ → List ℕ
page_start language = codes "<!DOCTYPE html>\n<html" ++ attribute_text (Language, language) ++ codes ">\n"

-- what stands behind all that a page holds
unfoldable pub page_end : List ℕ
page_end = codes "\n</html>\n"

-- the text of a page in a language
abbrev pub page_text : List ℕ → Content → List ℕ
page_text language content = page_start language ++ content_text content ++ page_end

-- a text is that of a page
abbrev pub IsWellFormed : List ℕ → Type 0
IsWellFormed text = (language : List ℕ) × (content : Content) × (text ≡ page_text language content)
