-- How often donors gave.
use Rattle.std.specs.Prelude.{List, [], ◌∷◌, ℕ, codes, map}
use Rattle.page_markup.specs.Trees.{Content}
use Rattle.page_counts.specs.declared.amounts.SizeCount.{SizeCount}
use Rattle.page_figures.specs.Drawings.{FigureParts}
use Rattle.page_sections.specs.Sections.{histogram_content, section_content, size_bar}

-- what the figure is called
unfoldable pub donor_figure : FigureParts
donor_figure =
    record {
      id = 5;
      title = codes "Donors by how many records they gave to";
      description = codes "An upright bar for each number of records given to: how many donors gave to so many.";
      subject = codes "given to";
    }

-- the note
unfoldable pub donor_note : List ℕ
donor_note = codes "A donor is a record that gave values to others."

-- the section
abbrev pub donor_section : List SizeCount → Content
donor_section gifts =
    section_content (codes "Donors") donor_note (histogram_content donor_figure (codes "donors" ∷ []) (map size_bar gifts))
