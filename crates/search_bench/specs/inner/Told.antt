use Rattle.std.specs.Prelude.{◌≡◌, ℕ, List}
use Rattle.edit_language.specs.Grammar.{IsRuleText}
use Rattle.edit_model.specs.Parts.{SurveyParts}
use Rattle.record_text.specs.Sheets.{IsSheet, SheetParts}
use Rattle.search_bench.specs.inner.Texts.{search_text}

-- the rules and the records have a reading, and the text is that of their search
pub record IsTold (rules records text : List ℕ) : Type 0 where
  pub survey : SurveyParts
  pub sheet : SheetParts
  pub rules_are : IsRuleText rules survey
  pub records_are : IsSheet survey.fields records sheet
  pub text_is : text ≡ search_text survey sheet.rows

-- the rules have no reading
abbrev pub HasNoRules : List ℕ → Type 0
HasNoRules rules = (survey : SurveyParts) → ¬ IsRuleText rules survey

-- the rules have a reading, over whose fields the records have none
pub record HasNoSheet (rules records : List ℕ) : Type 0 where
  pub survey : SurveyParts
  pub rules_are : IsRuleText rules survey
  pub unread : (sheet : SheetParts) → ¬ IsSheet survey.fields records sheet
