-- What is added to a page of the values of the fields.
use Rattle.std.proofs.Common.{◌≡◌, ◌∙◌, ◌+◌, ◌++◌, ◌<◌, ℕ, List, ◌∷◌}
use Rattle.std.proofs.Common.{ap, codes, drop, get_or, length, refl, sym}
use Rattle.std.proofs.lemmas.List.{at_drop_more}
use Rattle.edit_model.specs.declared.field.Field.{Field}
use Rattle.page_figures.proofs.PageLaws.{both}
use Rattle.page_figures.specs.Drawings.{BarParts, FigureParts}
use Rattle.page_figures.specs.Sums.{plus}
use Rattle.page_markup.specs.OpenPages.{OpenPage, added}
use Rattle.page_sections.specs.Sections.{histogram_content}
use Rattle.page_sections.specs.ValueSection.{field_values, value_figure, value_series, values_from}
use Rattle.release_figures.specs.declared.figures.FieldValues.{FieldValues}

abbrev pub parts : ℕ → List ℕ → List ℕ → List ℕ → FigureParts
parts id title description subject = record { id = id; title = title; description = description; subject = subject }

-- a figure with the number and the title of a field's was added
pub figure_is : (id i : ℕ) (title name description subject : List ℕ) (bins : List BarParts) (old new : OpenPage)
    → id ≡ plus i 10 → title ≡ codes "Values of " ++ name
    → new ≡ added (histogram_content (parts id title description subject) value_series bins) old
    → new ≡ added (histogram_content (value_figure name i description subject) value_series bins) old
figure_is id i title name description subject bins old new n t e =
    e ∙ ap (λ (k : ℕ). added (histogram_content (parts k title description subject) value_series bins) old) n
    ∙ ap (λ (w : List ℕ). added (histogram_content (parts (plus i 10) w description subject) value_series bins) old) t

-- what is shown of one field was added, and the fields behind it are left
pub values_more : (fields : List Field) (values : List FieldValues) (i : ℕ) (x : FieldValues) (goal page next : OpenPage)
    → i < length values → x ≡ get_or values i x → added (values_from fields i (drop i values)) page ≡ goal
    → next ≡ added (field_values fields i x) page → added (values_from fields (i + 1) (drop (i + 1) values)) next ≡ goal
values_more fields values i x goal page next within here h n =
    let rest = drop (i + 1) values in
    both (field_values fields i x) (values_from fields (i + 1) rest) page next (added (values_from fields (i + 1) rest) next) n refl
    ∙ ap (λ (y : FieldValues). added (values_from fields i (y ∷ rest)) page) here
    ∙ sym (at_drop_more (λ (vs : List FieldValues). added (values_from fields i vs) page) values i x within) ∙ h
