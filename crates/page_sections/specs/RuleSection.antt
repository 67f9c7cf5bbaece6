-- How many records broke each rule.
use Rattle.std.specs.Prelude.{◌+◌, ◌++◌, ℕ, List, [], ◌∷◌, codes, map, slice_get, Option, None, Some}
use Rattle.std.specs.Fmt.{decimal}
use Rattle.edit_language.specs.Printing.{rule_line}
use Rattle.edit_model.specs.Parts.{SurveyParts}
use Rattle.edit_model.specs.declared.field.Field.{Field}
use Rattle.edit_model.specs.declared.rule.Rule.{Rule}
use Rattle.page_markup.specs.Trees.{Content}
use Rattle.page_counts.specs.declared.amounts.Amount.{Amount}
use Rattle.page_counts.specs.declared.rules.RuleCount.{RuleCount}
use Rattle.page_figures.specs.Drawings.{BarParts, FigureParts}
use Rattle.page_sections.specs.Sections.{bars_content, section_content}
use Rattle.release_figures.specs.declared.figures.ReleaseFigures.{ReleaseFigures}

-- a rule, as it stands in the rule file
abbrev pub rule_words : List Field → Option Rule → List ℕ
rule_words fields None = []
rule_words fields (Some rule) = rule_line fields rule

-- the number of a rule, from 1, and the rule
abbrev pub rule_label : SurveyParts → ℕ → List ℕ
rule_label survey number = decimal (number + 1) ++ codes ": " ++ rule_words survey.fields (slice_get survey.rules number)

-- how many records broke it, and at how many it could not be tried
abbrev pub break_parts : Option RuleCount → List ℕ
break_parts None = []
break_parts (Some count) = count.broken ∷ count.untried ∷ []

-- the bar of the rule of this number
abbrev pub rule_bar : SurveyParts → List RuleCount → Amount → BarParts
rule_bar survey counts amount =
    record { label = rule_label survey amount.number; parts = break_parts (slice_get counts amount.number) }

-- a bar for each rule, that which most records broke first
abbrev pub rule_bars : SurveyParts → ReleaseFigures → List BarParts
rule_bars survey figures = map (rule_bar survey figures.rules) figures.rules_by_breaks

-- what the figure is called
unfoldable pub rule_figure : FigureParts
rule_figure =
    record {
      id = 3;
      title = codes "Records that broke each rule";
      description = codes "A bar for each rule, that which most records broke first: how many broke it, and at how many it was not tried.";
      subject = codes "rule";
    }

-- the note
unfoldable pub rule_note : List ℕ
rule_note =
    codes "A rule is not tried at a record without a value in a field that the rule reads, or where a number leaves 128 bits. "
    ++ codes "All records count as they came."

-- the parts of a bar
unfoldable pub rule_series : List (List ℕ)
rule_series = codes "broken" ∷ codes "not tried" ∷ []

-- the section
abbrev pub rule_section : SurveyParts → ReleaseFigures → Content
rule_section survey figures =
    section_content (codes "Rules") rule_note (bars_content rule_figure rule_series (rule_bars survey figures))
