-- The values of the fields before and after.
use Rattle.std.specs.Prelude.{◌++◌, ◌+◌, ℕ, List, [], ◌∷◌, Option, None, Some}
use Rattle.std.specs.Prelude.{codes, length, map, slice_get, slice_index, slice_index_or}
use Rattle.std.specs.List.{range_with_len}
use Rattle.fraction128.specs.Spelling.{spelling}
use Rattle.fraction128.specs.declared.fraction.Fraction.{Fraction}
use Rattle.edit_language.specs.Meaning.{field_codes}
use Rattle.edit_language.specs.Printing.{name_at}
use Rattle.edit_model.specs.declared.field.Field.{Field}
use Rattle.page_markup.specs.Drafts.{followed}
use Rattle.page_markup.specs.Trees.{Content}
use Rattle.page_markup.specs.Trees.Content.{Element, Nothing, Words}
use Rattle.page_markup.specs.declared.tag.Tag.TheVariants.{Heading3}
use Rattle.page_counts.specs.Bins.{bin_low}
use Rattle.page_counts.specs.Thousandths.{decimal_text}
use Rattle.page_counts.specs.declared.bins.Bins.{Bins}
use Rattle.page_counts.specs.declared.codes.CodeCounts.{CodeCounts}
use Rattle.page_figures.specs.Drawings.{BarParts, FigureParts}
use Rattle.page_figures.specs.Sums.{plus}
use Rattle.page_figures.specs.Tables.{Entry, table_content}
use Rattle.page_figures.specs.Tables.Entry.{Number, Text}
use Rattle.page_sections.specs.Sections.{histogram_content, pair_bar, section_content}
use Rattle.release_figures.specs.declared.figures.FieldValues.{FieldValues}
use Rattle.release_figures.specs.declared.figures.FieldValues.TheVariants.{Codes, Numbers}
use Rattle.release_figures.specs.declared.figures.NumberValues.{NumberValues}

-- as the records came, and as they were released
unfoldable pub value_series : List (List ℕ)
value_series = codes "before" ∷ codes "after" ∷ []

-- what the figure of the field of number i is called
abbrev pub value_figure : List ℕ → ℕ → List ℕ → List ℕ → FigureParts
value_figure name i description subject =
    record { id = plus i 10; title = codes "Values of " ++ name; description = description; subject = subject }

-- ---- a numerical field

-- what the histogram of a numerical field shows, for those who hear the page read aloud
unfoldable pub bin_description : List ℕ
bin_description =
    codes "Two upright bars for each bin: how many values were in it before, and how many are after. A bin is named by its lower end."

-- a bin: where it begins, and how many values it has before and after
abbrev pub bin_bar : Bins → NumberValues → ℕ → BarParts
bin_bar bins numbers i =
    pair_bar (decimal_text (bin_low bins i)) (slice_index numbers.before.counts i) (slice_index numbers.after.counts i)

-- a bar for each bin; none where there are no bins
abbrev pub bin_bars : Option Bins → NumberValues → List BarParts
bin_bars None numbers = []
bin_bars (Some bins) numbers = map (bin_bar bins numbers) (range_with_len 0 bins.count)

-- a sum, where it stayed in range
abbrev pub sum_words : Option Fraction → List ℕ
sum_words None = codes "past 128 bits"
sum_words (Some sum) = spelling sum

-- a row of two counts
abbrev pub count_row : List ℕ → ℕ → ℕ → List Entry
count_row label before after = Text label ∷ Number before ∷ Number after ∷ []

-- the sum of the numbers, how many values are none, and how many numbers are in no bin
abbrev pub total_rows : NumberValues → List (List Entry)
total_rows numbers =
    (Text (codes "sum") ∷ Text (sum_words numbers.before.sum) ∷ Text (sum_words numbers.after.sum) ∷ [])
    ∷ count_row (codes "no value") numbers.before.none numbers.after.none
    ∷ count_row (codes "in no bin") numbers.before.beyond numbers.after.beyond
    ∷ []

-- the table of these totals, before and after
abbrev pub totals_content : NumberValues → Content
totals_content numbers = table_content (codes "Totals") ([] ∷ codes "before" ∷ codes "after" ∷ []) (total_rows numbers)

-- what is shown of a numerical field: its histogram and its totals
abbrev pub numbers_content : List ℕ → ℕ → NumberValues → Content
numbers_content name i numbers =
    followed (histogram_content (value_figure name i bin_description (codes "from")) value_series (bin_bars numbers.bins numbers))
    (totals_content numbers)

-- ---- a categorical field

-- what the histogram of a categorical field shows, for those who hear the page read aloud
unfoldable pub code_description : List ℕ
code_description = codes "Two upright bars for each code: how many values it had before, and how many it has after."

-- a code, and how many values it has before and after
abbrev pub code_bar : List (List ℕ) → CodeCounts → CodeCounts → ℕ → BarParts
code_bar names before after i = pair_bar (slice_index_or names i []) (slice_index before.by_code i) (slice_index after.by_code i)

-- the codes, and then those that have no value
abbrev pub code_bars : List (List ℕ) → CodeCounts → CodeCounts → List BarParts
code_bars names before after =
    map (code_bar names before after) (range_with_len 0 (length names)) ++ pair_bar (codes "no value") before.none after.none ∷ []

-- what is shown of a categorical field: its histogram
abbrev pub codes_content : List ℕ → ℕ → List (List ℕ) → CodeCounts → CodeCounts → Content
codes_content name i names before after =
    histogram_content (value_figure name i code_description (codes "code")) value_series (code_bars names before after)

-- ---- all fields

-- what is shown of the field of number i
abbrev pub shown_values : List Field → ℕ → FieldValues → Content
shown_values fields i (Numbers numbers) = numbers_content (name_at fields i) i numbers
shown_values fields i (Codes before after) = codes_content (name_at fields i) i (field_codes (slice_get fields i)) before after

-- its name, and what is shown
abbrev pub field_values : List Field → ℕ → FieldValues → Content
field_values fields i values = Element Heading3 [] (Words (name_at fields i) Nothing) (shown_values fields i values)

-- the fields from number i on
abbrev pub values_from : List Field → ℕ → List FieldValues → Content
values_from fields i [] = Nothing
values_from fields i (values ∷ rest) = followed (field_values fields i values) (values_from fields (i + 1) rest)

-- the note
unfoldable pub value_note : List ℕ
value_note = codes "The released records alone, as they came and as they were released."

-- the section
abbrev pub value_section : List Field → List FieldValues → Content
value_section fields values = section_content (codes "Values before and after") value_note (values_from fields 0 values)
