-- What a picture shows: bars and bins, each with its numbers. Places and lengths are in units from the left and from above, and `rest` is
-- what follows in the same element.
use Rattle.std.specs.Prelude.{ℕ, zero, suc, ◌+◌, ◌-◌, ◌*◌, ◌/◌, ◌^◌, ◌==◌, max, min, nat_le, nat_lt, if◌then◌else◌, Bool, ◌&&◌}
use Rattle.std.specs.Prelude.{List, [], ◌∷◌, ◌++◌, codes, get_or, length, map, take}
use Rattle.std.specs.Fmt.{decimal}
use Rattle.page_markup.specs.Trees.{Attributes, Content}
use Rattle.page_markup.specs.Trees.Content.{Element, Nothing, Void, Words}
use Rattle.page_markup.specs.declared.tag.Tag.TheVariants.{Description, Drawing, Group, Label, Paragraph, Span, Title}
use Rattle.page_markup.specs.declared.tag.VoidTag.TheVariants.{Line, Rectangle}
use Rattle.page_figures.specs.Attributes.{classed, image, key, line_at, named, rectangle_at, text_at}
use Rattle.page_figures.specs.Colours.{next_colour}
use Rattle.page_figures.specs.Sums.{greatest_of, plus, scaled, total_of}
use Rattle.page_figures.specs.declared.colour.Colour.{Colour}
use Rattle.page_figures.specs.declared.colour.Colour.TheVariants.{First}
use Rattle.page_figures.specs.declared.figure.Bar.{Bar}
use Rattle.page_figures.specs.declared.figure.Figure.{Figure}
use Rattle.page_figures.specs.declared.histogram.Layout.{Layout}

-- a bar, or a bin of a histogram: its label, and a number for each series
pub record BarParts : Type 0 where
  pub label : List ℕ
  pub parts : List ℕ

-- what is seen of a bar
abbrev pub parts_of : Bar → BarParts
parts_of bar = record { label = bar.label.now; parts = bar.parts.now }

-- how many numbers the bar with the most of them has, and how many bytes the longest label
abbrev pub most_parts : List BarParts → ℕ
most_parts bars = greatest_of (map (λ (bar : BarParts). length bar.parts) bars)

abbrev pub longest_label : List BarParts → ℕ
longest_label bars = greatest_of (map (λ (bar : BarParts). length bar.label) bars)

-- what a figure is called: its number, its title, what it shows, and what a bar of it stands for
pub record FigureParts : Type 0 where
  pub id : ℕ
  pub title : List ℕ
  pub description : List ℕ
  pub subject : List ℕ

-- what is seen of a figure
abbrev pub figure_parts : Figure → FigureParts
figure_parts figure =
    record { id = figure.id; title = figure.title.now; description = figure.description.now; subject = figure.subject.now }

-- ---- what every drawing has

-- a drawing that is named and described by what stands in it
abbrev pub drawing_attributes : ℕ → List ℕ → Attributes
drawing_attributes id view = image (codes "title-" ++ (decimal id ++ (codes " description-" ++ decimal id))) view

-- the title and the description, as elements that the drawing names
abbrev pub names_content : FigureParts → Content → Content
names_content figure rest =
    Element Title (named (codes "title-" ++ decimal figure.id)) (Words figure.title Nothing)
    (Element Description (named (codes "description-" ++ decimal figure.id)) (Words figure.description Nothing) rest)

-- a rectangle in the colour of a series, and a line
abbrev pub rectangle_content : Colour → ℕ → ℕ → ℕ → ℕ → Content → Content
rectangle_content colour x y width height rest = Void Rectangle (rectangle_at colour x y width height) rest

abbrev pub line_content : List ℕ → ℕ → ℕ → ℕ → ℕ → Content → Content
line_content class x1 y1 x2 y2 rest = Void Line (line_at class x1 y1 x2 y2) rest

-- ---- labels

-- a byte of UTF-8 that goes on with a character
abbrev pub goes_on : ℕ → Bool
goes_on b = nat_le 128 b && nat_lt b 192

-- the greatest place up to `end` at which no byte goes on with a character
abbrev pub boundary : List ℕ → ℕ → ℕ
boundary label zero = 0
boundary label (suc end) = if goes_on (get_or label (suc end) 0) then boundary label end else suc end

-- a label of at most `most` bytes, or what goes before, and then an ellipsis
abbrev pub shortened : ℕ → List ℕ → Content
shortened most label =
    if nat_le (length label) most then Words label Nothing
    else Words (take (boundary label (most - 1)) label) (Words (226 ∷ 128 ∷ 166 ∷ []) Nothing)

-- ---- the names of the series

-- a small square in the colour of a series, and its name
abbrev pub square_content : Colour → Content → Content
square_content colour rest = Element Drawing key (rectangle_content colour 0 0 16 16 Nothing) rest

abbrev pub key_content : Colour → List ℕ → Content → Content
key_content colour name rest = Element Span [] (square_content colour (Words name Nothing)) rest

abbrev pub keys_content : Colour → List (List ℕ) → Content
keys_content colour [] = Nothing
keys_content colour (name ∷ names) = key_content colour name (keys_content (next_colour colour) names)

abbrev pub legend_content : List (List ℕ) → Content
legend_content series = Element Paragraph (classed (codes "legend")) (keys_content First series) Nothing

-- ---- bars that lie one below the other

-- the parts of a bar, from left to right, each as long as its value: 480 units stand for the greatest
abbrev pub parts_content : ℕ → ℕ → ℕ → Colour → List ℕ → Content
parts_content greatest y x colour [] = Nothing
parts_content greatest y x colour (part ∷ parts) =
    rectangle_content colour x (plus y 4) (scaled 480 greatest part) 18
    (parts_content greatest y (plus x (scaled 480 greatest part)) (next_colour colour) parts)

-- a bar: its whole label for a mouse that rests on it, its label, its parts, and its total
abbrev pub bar_content : ℕ → ℕ → BarParts → Content → Content
bar_content greatest y bar rest =
    Element Group []
    (Element Title [] (Words bar.label Nothing)
    (Element Label (text_at 216 (plus y 18) (codes "end")) (shortened 16 bar.label)
    (Element Group [] (parts_content (max greatest (total_of bar.parts)) y 224 First bar.parts)
    (Element Label (text_at 784 (plus y 18) (codes "end")) (Words (decimal (total_of bar.parts)) Nothing) Nothing)))) rest

-- bars, each 26 units below the one before
abbrev pub bars_below : ℕ → ℕ → List BarParts → Content
bars_below greatest y [] = Nothing
bars_below greatest y (bar ∷ bars) = bar_content greatest y bar (bars_below greatest (plus y 26) bars)

-- how high a drawing of these bars is: 26 units for each
abbrev pub bars_height : List BarParts → ℕ
bars_height bars = min (length bars * 26) (2 ^ 64 - 1)

-- the drawing of bars, with the line at which they begin
abbrev pub bar_drawing : FigureParts → ℕ → List BarParts → Content
bar_drawing figure greatest bars =
    Element Drawing (drawing_attributes figure.id (codes "0 0 784 " ++ decimal (bars_height bars)))
    (names_content figure
    (Element Group [] (bars_below greatest 0 bars)
    (line_content (codes "axis") 224 0 224 (bars_height bars) Nothing))) Nothing

-- ---- bins that stand side by side

-- 640 units for all bins, and at most 80 for one, of which its bars take four fifths; 14 units for each letter of the longest label
abbrev pub bin_pitch : ℕ → ℕ
bin_pitch count = min (max (640 / max count 1) 1) 80

-- what all bins of a drawing share
abbrev pub layout_of : ℕ → List BarParts → Layout
layout_of greatest bins =
    record {
      greatest = greatest;
      pitch = bin_pitch (length bins);
      middle = bin_pitch (length bins) * 2 / 5;
      width = max (bin_pitch (length bins) * 4 / 5 / max (most_parts bins) 1) 1;
      step = 1 + (min (longest_label bins) 12 * 14 + 9) / bin_pitch (length bins);
    }

-- the bars of a bin, from left to right, each as high as its value: 240 units stand for the greatest
abbrev pub uprights : ℕ → ℕ → ℕ → Colour → List ℕ → Content
uprights greatest width x colour [] = Nothing
uprights greatest width x colour (part ∷ parts) =
    rectangle_content colour x (264 - scaled 240 greatest part) width (scaled 240 greatest part)
    (uprights greatest width (plus x width) (next_colour colour) parts)

-- the label of a bin, where none is to wait for
abbrev pub tick_content : List ℕ → ℕ → ℕ → Content
tick_content label x wait =
    if wait == 0 then Element Label (text_at x 288 (codes "middle")) (shortened 12 label) Nothing else Nothing

-- a bin: its whole label for a mouse that rests on it, its bars, and its label
abbrev pub bin_content : Layout → ℕ → ℕ → BarParts → Content → Content
bin_content layout x wait bin rest =
    Element Group []
    (Element Title [] (Words bin.label Nothing)
    (Element Group [] (uprights layout.greatest layout.width x First bin.parts)
    (tick_content bin.label (plus x layout.middle) wait))) rest

-- how many bins come before the next that has a label
abbrev pub next_wait : ℕ → ℕ → ℕ
next_wait step wait = if wait == 0 then step - 1 else wait - 1

-- bins, each one pitch to the right of the one before
abbrev pub bins_content : Layout → ℕ → ℕ → List BarParts → Content
bins_content layout x wait [] = Nothing
bins_content layout x wait (bin ∷ bins) =
    bin_content layout x wait bin (bins_content layout (plus x layout.pitch) (next_wait layout.step wait) bins)

-- a line for a number, with the number to its left
abbrev pub level_content : List ℕ → ℕ → ℕ → Content → Content
level_content class number y rest =
    Element Group []
    (line_content class 88 y 784 y
    (Element Label (text_at 80 y (codes "end")) (Words (decimal number) Nothing) Nothing)) rest

-- the drawing of bins: a line at the greatest number, the bins, and the line on which they stand
abbrev pub bin_drawing : FigureParts → ℕ → List BarParts → Content
bin_drawing figure greatest bins =
    Element Drawing (drawing_attributes figure.id (codes "0 0 784 296"))
    (names_content figure
    (level_content (codes "grid") greatest 24
    (Element Group [] (bins_content (layout_of greatest bins) 88 0 bins)
    (level_content (codes "axis") 0 264 Nothing)))) Nothing
