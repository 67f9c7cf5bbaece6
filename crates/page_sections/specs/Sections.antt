-- What the sections of a page share: a heading, a note, and figures of bars. `rest` is what follows in the same element.
use Rattle.std.specs.Prelude.{ℕ, List, [], ◌∷◌, codes}
use Rattle.std.specs.Fmt.{decimal}
use Rattle.page_markup.specs.Trees.{Content}
use Rattle.page_markup.specs.Trees.Content.{Element, Nothing, Words}
use Rattle.page_markup.specs.declared.attribute.Attribute.TheVariants.{Class}
use Rattle.page_markup.specs.declared.tag.Tag.TheVariants as tag
use Rattle.page_counts.specs.declared.amounts.SizeCount.{SizeCount}
use Rattle.page_figures.specs.Drawings.{BarParts, FigureParts}
use Rattle.page_figures.specs.Figures.{figure_content}
use Rattle.page_figures.specs.declared.figure.Form.TheVariants.{Stacked, Upright}
use Rattle.page_sections.specs.declared.own_bar.OwnBar.{OwnBar}

-- ---- figures

-- bars that lie one below the other, with the table of their numbers
abbrev pub bars_content : FigureParts → List (List ℕ) → List BarParts → Content
bars_content figure series bars = figure_content Stacked figure series bars

-- upright bars side by side, with the table of their numbers
abbrev pub histogram_content : FigureParts → List (List ℕ) → List BarParts → Content
histogram_content figure series bins = figure_content Upright figure series bins

-- ---- bars

-- what is seen of a bar
abbrev pub bar_parts : OwnBar → BarParts
bar_parts bar = record { label = bar.label.items; parts = bar.parts.items }

-- a bar of one number
abbrev pub count_bar : List ℕ → ℕ → BarParts
count_bar label count = record { label = label; parts = count ∷ [] }

-- a bar of two, as a value before and after
abbrev pub pair_bar : List ℕ → ℕ → ℕ → BarParts
pair_bar label before after = record { label = label; parts = before ∷ after ∷ [] }

-- a size, and how many have it
abbrev pub size_bar : SizeCount → BarParts
size_bar count = count_bar (decimal count.size) count.count

-- ---- sections

-- a note
abbrev pub note_content : List ℕ → Content → Content
note_content note rest = Element tag.Paragraph ((Class, codes "note") ∷ []) (Words note Nothing) rest

-- a heading and a note
abbrev pub heading_content : List ℕ → List ℕ → Content → Content
heading_content heading note rest = Element tag.Heading2 [] (Words heading Nothing) (note_content note rest)

-- a section: its heading, a note, and what it shows
abbrev pub section_content : List ℕ → List ℕ → Content → Content
section_content heading note inside = Element tag.Section [] (heading_content heading note inside) Nothing
