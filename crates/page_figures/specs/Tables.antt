-- What a table shows. `rest` is what follows in the same element.
use Rattle.std.specs.Prelude.{ℕ, List, [], ◌∷◌, codes}
use Rattle.std.specs.Fmt.{decimal}
use Rattle.page_markup.specs.Trees.{Attributes, Content}
use Rattle.page_markup.specs.Trees.Content.{Element, Nothing, Words}
use Rattle.page_markup.specs.declared.attribute.Attribute.TheVariants.{Class, Scope}
use Rattle.page_markup.specs.declared.tag.Tag.TheVariants as tag
use Rattle.page_figures.specs.Attributes.{classed}
use Rattle.page_figures.specs.declared.table.Cell.{Cell}
use Rattle.page_figures.specs.declared.table.Cell.TheVariants as cell

-- what a cell shows: a number or a text
pub data Entry : Type 0 where
  Number : ℕ → Entry
  Text : List ℕ → Entry

-- what a cell shows, seen of the cell
abbrev pub entry_of : Cell → Entry
entry_of (cell.Number n) = Number n
entry_of (cell.Text words) = Text words.now

-- its words, a number in decimal digits
abbrev pub entry_words : Entry → List ℕ
entry_words (Number n) = decimal n
entry_words (Text words) = words

-- the names of the columns, one cell each
abbrev pub columns_content : List (List ℕ) → Content
columns_content [] = Nothing
columns_content (column ∷ columns) =
    Element tag.HeaderCell ((Scope, codes "col") ∷ []) (Words column Nothing) (columns_content columns)

-- the first cell of a row, which is its head, and then the rest
abbrev pub head_content : Entry → Content → Content
head_content entry rest = Element tag.HeaderCell ((Scope, codes "row") ∷ []) (Words (entry_words entry) Nothing) rest

-- a cell behind the first, and then the rest: numbers have a class of their own
abbrev pub cell_attributes : Entry → Attributes
cell_attributes (Number n) = (Class, codes "number") ∷ []
cell_attributes (Text words) = []

abbrev pub cell_content : Entry → Content → Content
cell_content entry rest = Element tag.Cell (cell_attributes entry) (Words (entry_words entry) Nothing) rest

-- the cells behind the first
abbrev pub cells_content : List Entry → Content
cells_content [] = Nothing
cells_content (entry ∷ entries) = cell_content entry (cells_content entries)

-- a row
abbrev pub row_content : List Entry → Content
row_content [] = Nothing
row_content (head ∷ entries) = head_content head (cells_content entries)

-- the rows behind the first
abbrev pub rows_content : List (List Entry) → Content
rows_content [] = Nothing
rows_content (row ∷ rows) = Element tag.Row [] (row_content row) (rows_content rows)

-- the first row, which names the columns
abbrev pub names_row : List (List ℕ) → Content
names_row columns = Element tag.Row [] (columns_content columns) Nothing

-- the table itself, without its box
abbrev pub grid_content : List ℕ → List (List ℕ) → List (List Entry) → Content
grid_content caption columns rows =
    Element tag.Table []
    (Element tag.Caption [] (Words caption Nothing)
    (Element tag.TableHead [] (names_row columns)
    (Element tag.TableBody [] (rows_content rows) Nothing))) Nothing

-- a table: its caption, the names of its columns, and its rows, in a box in which it scrolls
abbrev pub table_content : List ℕ → List (List ℕ) → List (List Entry) → Content
table_content caption columns rows =
    Element tag.Division (classed (codes "table")) (grid_content caption columns rows) Nothing
