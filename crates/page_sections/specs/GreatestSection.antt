-- The records whose changes weigh most, change by change.
use Rattle.std.specs.Prelude.{◌==◌, ◌+◌, ◌-◌, ◌^◌, ℕ, List, [], ◌∷◌, if◌then◌else◌}
use Rattle.std.specs.Prelude.{codes, flat_map, min, position}
use Rattle.std.specs.Option.{option_map_or}
use Rattle.edit_language.specs.Printing.{name_at}
use Rattle.page_markup.specs.Trees.{Content}
use Rattle.page_counts.specs.declared.amounts.Amount.{Amount}
use Rattle.page_figures.specs.Tables.{Entry, table_content}
use Rattle.page_figures.specs.Tables.Entry.{Number, Text}
use Rattle.page_sections.specs.Sections.{section_content}
use Rattle.reason_lines.specs.declared.entry.Change.{Change}
use Rattle.record_text.specs.Sheets.{SheetParts}
use Rattle.release_figures.specs.ReleasedValues.{text_in}
use Rattle.release_figures.specs.Releases.{ReleaseParts}
use Rattle.release_figures.specs.declared.figures.ReleaseFigures.{ReleaseFigures}

-- the bytes of a field in the released row of the record of this number, none where it is not among the records that were released: row k
-- of the released file is the k-th of them
abbrev pub released_text : SheetParts → List ℕ → ℕ → ℕ → List ℕ
released_text released records f number = option_map_or (text_in released f) (position (λ (n : ℕ). n == number) records) []

-- a size, or the greatest number that can be shown
abbrev pub shown : ℕ → ℕ
shown size = min size (2 ^ 64 - 1)

-- the row of a change: the record from 1, what its changes weigh, the field, and its bytes before and after. The numbers are those of the
-- records that were released
abbrev pub change_row : ReleaseParts → List ℕ → Amount → Change → List Entry
change_row release numbers amount change =
    Number (amount.number + 1) ∷ Number (shown amount.size) ∷ Text (name_at release.survey.fields change.field)
    ∷ Text (text_in release.records change.field amount.number)
    ∷ Text (released_text release.released numbers change.field amount.number) ∷ []

-- the row of a change, where it is one of this record
abbrev pub rows_of_change : ReleaseParts → List ℕ → Amount → Change → List (List Entry)
rows_of_change release numbers amount change =
    if change.record == amount.number then change_row release numbers amount change ∷ [] else []

-- a row for each change of a record
abbrev pub record_rows : ReleaseParts → List ℕ → Amount → List (List Entry)
record_rows release numbers amount = flat_map (rows_of_change release numbers amount) release.reasons.changes

-- the same of some records, in their order
abbrev pub greatest_rows : ReleaseParts → List ℕ → List Amount → List (List Entry)
greatest_rows release numbers greatest = flat_map (record_rows release numbers) greatest

-- the names of the columns
unfoldable pub greatest_columns : List (List ℕ)
greatest_columns = codes "record" ∷ codes "weight" ∷ codes "field" ∷ codes "before" ∷ codes "after" ∷ []

-- the note
unfoldable pub greatest_note : List ℕ
greatest_note = codes "A row for each changed field, with the bytes that were read and those that were released."

-- the section
abbrev pub greatest_section : ReleaseParts → ReleaseFigures → Content
greatest_section release figures =
    section_content (codes "Greatest changes") greatest_note
    (table_content (codes "The twenty records whose changes weigh most") greatest_columns
    (greatest_rows release figures.released figures.greatest))
