-- What the changes of records weigh.
use Rattle.std.specs.Prelude.{List, [], ◌∷◌, ℕ, codes, map}
use Rattle.page_markup.specs.Trees.{Content}
use Rattle.page_counts.specs.declared.amounts.SizeCount.{SizeCount}
use Rattle.page_figures.specs.Drawings.{FigureParts}
use Rattle.page_sections.specs.Sections.{histogram_content, section_content, size_bar}

-- what the figure is called
unfoldable pub weight_figure : FigureParts
weight_figure =
    record {
      id = 4;
      title = codes "Changed records by the weight of their changes";
      description = codes "An upright bar for each weight that occurs: how many changed records have it.";
      subject = codes "weight";
    }

-- the note
unfoldable pub weight_note : List ℕ
weight_note = codes "What the changes of a record weigh is the sum of the weights of its changed fields."

-- the section
abbrev pub weight_section : List SizeCount → Content
weight_section weights =
    section_content (codes "Weights of changes") weight_note
    (histogram_content weight_figure (codes "records" ∷ []) (map size_bar weights))
