-- A page that is being written: its text so far, and what each call writes.
use Rattle.std.specs.Prelude.{ℕ, List, [], ◌∷◌, ◌++◌, map}
use Rattle.std.specs.List.{flat_map}
use Rattle.std.specs.Fmt.{decimal}
use Rattle.page_markup.specs.Trees.{Attributes, content_text, Content, end_text, page_end, page_start, start_text}
use Rattle.page_markup.specs.declared.attribute.Attribute.{Attribute}
use Rattle.page_markup.specs.declared.attribute.Value.{Value}
use Rattle.page_markup.specs.declared.attribute.Value.TheVariants as value
use Rattle.page_markup.specs.declared.tag.Tag.{Tag}

-- what is written so far, and the elements that are open, the innermost first
pub record OpenPage : Type 0 where
  pub text : List ℕ
  pub tags : List Tag

-- the bytes of an attribute's value: words as they are, and a number in decimal digits
abbrev pub value_words : Value → List ℕ
value_words (value.Words words) = words.now
value_words (value.Number n) = decimal n

-- the attributes that a call is given, each with the bytes of its value
abbrev pub given : List (Attribute × Value) → Attributes
given attributes = map (λ a. (a.0, value_words a.1)) attributes

-- nothing yet, in a language
abbrev pub begun : List ℕ → OpenPage
begun language = record { text = page_start language; tags = [] }

-- an element is open
abbrev pub opened : Tag → Attributes → OpenPage → OpenPage
opened tag attributes page = record { text = page.text ++ start_text tag attributes; tags = tag ∷ page.tags }

-- the innermost element is ended, where one is open; else all is as before
abbrev pub closed_at : List ℕ → List Tag → OpenPage
closed_at text [] = record { text = text; tags = [] }
closed_at text (tag ∷ tags) = record { text = text ++ end_text tag; tags = tags }

-- the same of a page
abbrev pub closed : OpenPage → OpenPage
closed page = closed_at page.text page.tags

-- something stands in the innermost element, behind what is there
abbrev pub added : Content → OpenPage → OpenPage
added content page = record { text = page.text ++ content_text content; tags = page.tags }

-- all that is open is ended
abbrev pub finished : OpenPage → List ℕ
finished page = page.text ++ flat_map end_text page.tags ++ page_end
