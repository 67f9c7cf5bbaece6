use Rattle.std.specs.Prelude.{List}
use Rattle.edit_model.specs.declared.field.Field.{Field}
use Rattle.edit_model.specs.declared.rule.Rule.{Rule}

-- a questionnaire's fields, and the edit rules over them
pub record SurveyParts : Type 0 where
  pub fields : List Field
  pub rules : List Rule

-- the survey of these fields and rules
abbrev pub survey_of : List Field → List Rule → SurveyParts
survey_of fields rules = record { fields = fields; rules = rules }
