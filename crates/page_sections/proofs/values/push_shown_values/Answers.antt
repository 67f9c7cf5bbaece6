use Rattle.std.proofs.Common.{◌∙◌, ℕ, List, ap, codes, map, sym}
use Rattle.std.proofs.lemmas.Result.{on_ok_weaker}
use Rattle.edit_language.specs.Printing.{name_at}
use Rattle.page_figures.specs.Drawings.{BarParts}
use Rattle.page_markup.specs.OpenPages.{added}
use Rattle.page_sections.specs.Sections.{histogram_content, bar_parts}
use Rattle.page_sections.specs.ValueSection.{code_bars, code_description, numbers_content, shown_values, value_figure, value_series}
use Rattle.release_figures.specs.declared.figures.FieldValues.{FieldValues}
use Rattle.page_sections.proofs.values.push_shown_values.Goals as goal

pub returns-in-Numbers : goal.returns-in-Numbers
returns-in-Numbers c =
    let page = c.args.page.now in
    on_ok_weaker c.push_numbers.result (λ e. e
    ∙ ap (λ (n : List ℕ). added (numbers_content n c.args.i c.in-Numbers.numbers) page) c.name_at-name.ensures
    ∙ ap (λ (v : FieldValues). added (shown_values c.args.fields.now c.args.i v) page) (sym c.in-Numbers.is)) c.push_numbers.ensures

pub returns-in_ok-bins-in-Codes : goal.returns-in_ok-bins-in-Codes
returns-in_ok-bins-in-Codes c =
    let page = c.args.page.now in
    let figure = λ (name : List ℕ) (bars : List BarParts).
    histogram_content (value_figure name c.args.i code_description (codes "code")) value_series bars in
    let bars = ap (map bar_parts) c.deref.ensures.value ∙ c.in_ok-bins-in-Codes.ensures
    ∙ ap (λ (names : List (List ℕ)). code_bars names c.in-Codes.before c.in-Codes.after) c.codes_at.ensures in
    on_ok_weaker c.push_codes.result (λ e. e
    ∙ ap (λ (n : List ℕ). added (figure n (map bar_parts c.deref.result.now)) page) c.name_at-name.ensures
    ∙ ap (λ (bs : List BarParts). added (figure (name_at c.args.fields.now c.args.i) bs) page) bars
    ∙ ap (λ (v : FieldValues). added (shown_values c.args.fields.now c.args.i v) page) (sym c.in-Codes.is)) c.push_codes.ensures
