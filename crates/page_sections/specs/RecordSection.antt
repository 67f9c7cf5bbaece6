-- What became of the records.
use Rattle.std.specs.Prelude.{ℕ, ◌==◌, if◌then◌else◌, List, [], ◌∷◌, ◌++◌, codes}
use Rattle.page_markup.specs.Trees.{Content}
use Rattle.page_counts.specs.declared.records.RecordCounts.{RecordCounts}
use Rattle.page_figures.specs.Drawings.{BarParts, FigureParts}
use Rattle.page_sections.specs.Sections.{bars_content, count_bar, section_content}

-- the bar of a cause, where some record was left out by it
abbrev pub cause_bars : List ℕ → ℕ → List BarParts
cause_bars word count = if count == 0 then [] else count_bar word count ∷ []

-- a bar for the clean records, one for the changed ones, and one for each cause by which records were left out
abbrev pub record_bars : RecordCounts → List BarParts
record_bars counts =
    (count_bar (codes "clean") counts.clean ∷ count_bar (codes "changed") counts.changed ∷ [])
    ++ cause_bars (codes "budget") counts.budget
    ++ cause_bars (codes "overflow") counts.overflow
    ++ cause_bars (codes "contradictory") counts.contradictory
    ++ cause_bars (codes "nolast") counts.no_last
    ++ cause_bars (codes "nocorrection") counts.no_correction

-- what the figure is called
unfoldable pub record_figure : FigureParts
record_figure =
    record {
      id = 1;
      title = codes "Records by what became of them";
      description = codes "A bar for the clean records, one for the changed ones, and one for each cause by which records were left out.";
      subject = codes "record";
    }

-- the note
unfoldable pub record_note : List ℕ
record_note = codes "A record that is neither clean nor changed was left out, for the cause that is named."

-- the section
abbrev pub record_section : RecordCounts → Content
record_section counts =
    section_content (codes "Records") record_note (bars_content record_figure (codes "records" ∷ []) (record_bars counts))
