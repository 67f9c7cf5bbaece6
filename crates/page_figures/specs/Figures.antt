-- What a picture and the table of its numbers show.
use Rattle.std.specs.Prelude.{ℕ, ◌^◌, ◌-◌, min, nat_le, nat_lt, ◌==◌, if◌then◌else◌, Bool, false}
use Rattle.std.specs.Prelude.{List, [], ◌∷◌, ◌++◌, codes, drop, get_or, length, map, take}
use Rattle.std.specs.List.{range_with_len, sum_by}
use Rattle.std.specs.Fmt.{decimal}
use Rattle.page_markup.specs.Drafts.{followed}
use Rattle.page_markup.specs.Trees.{Content}
use Rattle.page_markup.specs.Trees.Content.{Element, Nothing, Words}
use Rattle.page_markup.specs.declared.tag.Tag.TheVariants as tag
use Rattle.page_figures.specs.Drawings.{BarParts, FigureParts, bar_drawing, bin_drawing, legend_content, most_parts}
use Rattle.page_figures.specs.Sums.{greatest_of, total_of}
use Rattle.page_figures.specs.Tables.{Entry, table_content}
use Rattle.page_figures.specs.Tables.Entry.{Number, Text}
use Rattle.page_figures.specs.declared.figure.Form.{Form}
use Rattle.page_figures.specs.declared.figure.Form.TheVariants.{Stacked, Upright}

-- ---- bars that have no place are summed in one

-- the sum of the numbers of one series
abbrev pub sum_at : ℕ → List BarParts → ℕ
sum_at place bars = min (sum_by (λ (bar : BarParts). get_or bar.parts place 0) bars) (2 ^ 64 - 1)

-- the sums of all series
abbrev pub sums_of : List BarParts → List ℕ
sums_of bars = map (λ (place : ℕ). sum_at place bars) (range_with_len 0 (most_parts bars))

-- some bars, as a bar of its own
abbrev pub others_of : List BarParts → BarParts
others_of bars = record { label = decimal (length bars) ++ codes " others"; parts = sums_of bars }

-- ---- the picture

-- how far a bar reaches: as far as its total, or as its greatest single number
abbrev pub reach : Form → List ℕ → ℕ
reach Stacked parts = total_of parts
reach Upright parts = greatest_of parts

-- the number to whose scale bars are drawn
abbrev pub greatest_in : Form → List BarParts → ℕ
greatest_in form bars = greatest_of (map (λ (bar : BarParts). reach form bar.parts) bars)

-- the drawing of bars in this form, to the scale of the greatest number
abbrev pub drawing_content : Form → FigureParts → ℕ → List BarParts → Content
drawing_content Stacked figure greatest bars = bar_drawing figure greatest bars
drawing_content Upright figure greatest bars = bin_drawing figure greatest bars

-- what is said where bars are summed
unfoldable pub note : List ℕ
note = codes "The others are summed in one bar, which may not be to scale. The table has them one by one."

-- the drawing of the first bars, which give the scale, and of the sum of the others
abbrev pub summed_content : Form → FigureParts → List BarParts → List BarParts → Content
summed_content form figure first others =
    drawing_content form figure (greatest_in form first) (first ++ others_of others ∷ [])

-- the drawing of at most 64 bars; of more, those from the 64th on are summed in one
abbrev pub shown_content : Form → FigureParts → List BarParts → Content
shown_content form figure bars =
    if nat_le (length bars) 64 then drawing_content form figure (greatest_in form bars) bars
    else Element tag.Paragraph [] (Words note Nothing) (summed_content form figure (take 63 bars) (drop 63 bars))

-- the names of the series and the drawing, or that there are no bars
abbrev pub picture_content : Form → FigureParts → List (List ℕ) → List BarParts → Content
picture_content form figure series bars =
    if length bars == 0 then Element tag.Paragraph [] (Words (codes "nothing to show") Nothing) Nothing
    else followed (legend_content series) (shown_content form figure bars)

-- ---- the table

-- totals stand in it where bars that lie have several parts
abbrev pub has_totals : Form → ℕ → Bool
has_totals Stacked series = nat_lt 1 series
has_totals Upright series = false

-- the names of the table's columns: what a bar stands for, the series, and the total where it has one
abbrev pub columns_of : List ℕ → List (List ℕ) → Bool → List (List ℕ)
columns_of subject series totals = subject ∷ (series ++ (if totals then codes "total" ∷ [] else []))

-- the row of a bar: its label, its numbers, and their total
abbrev pub entries_of : Bool → BarParts → List Entry
entries_of totals bar = Text bar.label ∷ (map Number bar.parts ++ (if totals then Number (total_of bar.parts) ∷ [] else []))

-- the table of all numbers of a figure
abbrev pub numbers_content : Form → FigureParts → List (List ℕ) → List BarParts → Content
numbers_content form figure series bars =
    table_content figure.title (columns_of figure.subject series (has_totals form (length series)))
    (map (entries_of (has_totals form (length series))) bars)

-- a figure: its title, the picture, and the table of all its numbers
abbrev pub figure_content : Form → FigureParts → List (List ℕ) → List BarParts → Content
figure_content form figure series bars =
    Element tag.Figure []
    (Element tag.FigureCaption [] (Words figure.title Nothing)
    (followed (picture_content form figure series bars) (numbers_content form figure series bars))) Nothing
