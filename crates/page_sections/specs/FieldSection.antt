-- How often fields were changed.
use Rattle.std.specs.Prelude.{List, [], ◌∷◌, ℕ, codes, map, slice_get, Option, None, Some}
use Rattle.edit_language.specs.Printing.{name_at}
use Rattle.edit_model.specs.declared.field.Field.{Field}
use Rattle.page_markup.specs.Trees.{Content}
use Rattle.page_counts.specs.declared.amounts.Amount.{Amount}
use Rattle.page_counts.specs.declared.fields.FieldCount.{FieldCount}
use Rattle.page_figures.specs.Drawings.{BarParts, FigureParts}
use Rattle.page_sections.specs.Sections.{bars_content, section_content}
use Rattle.release_figures.specs.declared.figures.ReleaseFigures.{ReleaseFigures}

-- how often a field was changed, by how its new value was found
abbrev pub change_parts : Option FieldCount → List ℕ
change_parts None = []
change_parts (Some count) = count.donor ∷ count.nearest ∷ count.default ∷ []

-- the bar of the field of this number
abbrev pub field_bar : List Field → List FieldCount → Amount → BarParts
field_bar fields counts amount = record { label = name_at fields amount.number; parts = change_parts (slice_get counts amount.number) }

-- a bar for each field, that with the most changes first
abbrev pub field_bars : List Field → ReleaseFigures → List BarParts
field_bars fields figures = map (field_bar fields figures.fields) figures.fields_by_changes

-- what the figure is called
unfoldable pub field_figure : FigureParts
field_figure =
    record {
      id = 2;
      title = codes "Changes of each field";
      description = codes "A bar for each field, that with the most changes first, in parts by how the new values were found.";
      subject = codes "field";
    }

-- the note
unfoldable pub field_note : List ℕ
field_note = codes "A new value is that of a donor, or the nearest to it, or to 0, that the rules allow, or 0 or the first code."

-- the parts of a bar
unfoldable pub field_series : List (List ℕ)
field_series = codes "from a donor" ∷ codes "nearest allowed" ∷ codes "default" ∷ []

-- the section
abbrev pub field_section : List Field → ReleaseFigures → Content
field_section fields figures =
    section_content (codes "Fields") field_note (bars_content field_figure field_series (field_bars fields figures))
