-- The page of a release.
use Rattle.std.specs.Prelude.{◌≡◌, ◌+◌, ℕ, List, [], ◌∷◌, ◌++◌, codes, length}
use Rattle.std.specs.Fmt.{decimal}
use Rattle.page_markup.specs.Drafts.{followed}
use Rattle.page_markup.specs.Trees.{Content, page_text}
use Rattle.page_markup.specs.Trees.Content.{Element, Nothing, Style, Void, Words}
use Rattle.page_markup.specs.declared.attribute.Attribute.TheVariants as attribute
use Rattle.page_markup.specs.declared.tag.Tag.TheVariants as tag
use Rattle.page_markup.specs.declared.tag.VoidTag.TheVariants.{Meta}
use Rattle.page_counts.specs.declared.records.RecordCounts.{RecordCounts}
use Rattle.page_sections.specs.DonorSection.{donor_section}
use Rattle.page_sections.specs.FieldSection.{field_section}
use Rattle.page_sections.specs.GreatestSection.{greatest_section}
use Rattle.page_sections.specs.RecordSection.{record_section}
use Rattle.page_sections.specs.RuleSection.{rule_section}
use Rattle.page_sections.specs.ValueSection.{value_section}
use Rattle.page_sections.specs.WeightSection.{weight_section}
use Rattle.release_figures.specs.Figures.{AreFigures}
use Rattle.release_figures.specs.Releases.{ReleaseParts}
use Rattle.release_figures.specs.declared.figures.ReleaseFigures.{ReleaseFigures}

-- the title, which is the first heading too
unfoldable pub page_title : List ℕ
page_title = codes "What an edit changed"

-- the page is as wide as the screen
abbrev pub viewport_content : Content
viewport_content =
    Void Meta ((attribute.Name, codes "viewport") ∷ (attribute.Content, codes "width=device-width, initial-scale=1") ∷ []) Nothing

-- a head: the page's characters are UTF-8, and it has a title and a style sheet
abbrev pub head_content : Content
head_content =
    Element tag.Head []
    (followed (Void Meta ((attribute.Charset, codes "utf-8") ∷ []) Nothing)
    (followed viewport_content
    (Element tag.Title [] (Words page_title Nothing) (Style Nothing)))) Nothing

-- how many records were left out, by whichever cause
abbrev pub left_out_total : RecordCounts → ℕ
left_out_total counts = counts.budget + counts.overflow + counts.contradictory + counts.no_last + counts.no_correction

-- how many records there are, and what became of them
abbrev pub summary : ℕ → RecordCounts → List ℕ
summary rows counts =
    decimal rows ++ (codes " records: " ++ (decimal counts.clean ++ (codes " clean, " ++ (decimal counts.changed ++ (codes " changed, "
    ++ (decimal (left_out_total counts) ++ codes " left out."))))))

-- the header of the page: the first heading, and what became of the records
abbrev pub header_content : ℕ → RecordCounts → Content
header_content rows counts =
    Element tag.Header []
    (Element tag.Heading1 [] (Words page_title Nothing)
    (Element tag.Paragraph [] (Words (summary rows counts) Nothing) Nothing)) Nothing

-- the sections
abbrev pub sections_content : ReleaseParts → ReleaseFigures → Content
sections_content release figures =
    followed (record_section figures.records)
    (followed (field_section release.survey.fields figures)
    (followed (rule_section release.survey figures)
    (followed (weight_section figures.weights)
    (followed (value_section release.survey.fields figures.values)
    (followed (greatest_section release figures)
    (donor_section figures.gifts))))))

-- the body of the page: its header and its sections
abbrev pub body_content : ReleaseParts → ReleaseFigures → Content
body_content release figures =
    Element tag.Body []
    (followed (header_content (length release.records.rows) figures.records)
    (Element tag.Main [] (sections_content release figures) Nothing)) Nothing

-- all that the page holds
abbrev pub page_content : ReleaseParts → ReleaseFigures → Content
page_content release figures = followed head_content (body_content release figures)

-- the bytes are the page of a release: its figures are counted from its files, and the page says them
pub record IsReleasePage (release : ReleaseParts) (bytes : List ℕ) : Type 0 where
  pub figures : ReleaseFigures
  pub counted : AreFigures release figures
  pub written : bytes ≡ page_text (codes "en") (page_content release figures)
