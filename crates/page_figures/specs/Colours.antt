-- The colours of series.
use Rattle.std.specs.Prelude.{ℕ, List, codes}
use Rattle.page_figures.specs.declared.colour.Colour.{Colour}
use Rattle.page_figures.specs.declared.colour.Colour.TheVariants.{First, Second, Third, Fourth}

-- the colour of the next series: a fifth has that of the first again
abbrev pub next_colour : Colour → Colour
next_colour First = Second
next_colour Second = Third
next_colour Third = Fourth
next_colour Fourth = First

-- its class in the style sheet
unfoldable pub colour_class : Colour → List ℕ
colour_class First = codes "first"
colour_class Second = codes "second"
colour_class Third = codes "third"
colour_class Fourth = codes "fourth"
