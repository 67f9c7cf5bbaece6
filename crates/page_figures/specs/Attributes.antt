-- The attributes of the elements of pictures and tables.
use Rattle.std.specs.Prelude.{ℕ, List, [], ◌∷◌, codes}
use Rattle.std.specs.Fmt.{decimal}
use Rattle.page_markup.specs.Trees.{Attributes}
use Rattle.page_markup.specs.declared.attribute.Attribute.TheVariants.{Class, Height, Identifier, LabelledBy, Role, TextAnchor}
use Rattle.page_markup.specs.declared.attribute.Attribute.TheVariants.{ViewBox, Width, X, X1, X2, Y, Y1, Y2}
use Rattle.page_figures.specs.Colours.{colour_class}
use Rattle.page_figures.specs.declared.colour.Colour.{Colour}

-- a class of the style sheet
unfoldable pub classed : List ℕ → Attributes
classed class = (Class, class) ∷ []

-- a name by which another element speaks of this one
unfoldable pub named : List ℕ → Attributes
named name = (Identifier, name) ∷ []

-- a drawing that is named and described by other elements, and the coordinates that it shows
unfoldable pub image : List ℕ → List ℕ → Attributes
image names view = (Role, codes "img") ∷ (LabelledBy, names) ∷ (ViewBox, view) ∷ []

-- a small drawing in a line of text
unfoldable pub key : Attributes
key = (Class, codes "key") ∷ (ViewBox, codes "0 0 16 16") ∷ []

-- a rectangle in the colour of a series
unfoldable pub rectangle_at : Colour → ℕ → ℕ → ℕ → ℕ → Attributes
rectangle_at colour x y width height =
    (Class, colour_class colour) ∷ (X, decimal x) ∷ (Y, decimal y) ∷ (Width, decimal width) ∷ (Height, decimal height) ∷ []

-- a line from a place to another
unfoldable pub line_at : List ℕ → ℕ → ℕ → ℕ → ℕ → Attributes
line_at class x1 y1 x2 y2 = (Class, class) ∷ (X1, decimal x1) ∷ (Y1, decimal y1) ∷ (X2, decimal x2) ∷ (Y2, decimal y2) ∷ []

-- a text whose end or middle stands at a place
unfoldable pub text_at : ℕ → ℕ → List ℕ → Attributes
text_at x y anchor = (X, decimal x) ∷ (Y, decimal y) ∷ (TextAnchor, anchor) ∷ []
