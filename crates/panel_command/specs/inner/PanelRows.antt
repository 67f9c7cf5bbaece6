-- The surveys by which the two files of rows of a panel are read.
use Rattle.std.specs.Prelude.{◌≡◌, ℕ}
use Rattle.edit_model.specs.Parts.{SurveyParts}
use Rattle.panel_files.specs.LastFields.{last_fields, own_fields}
use Rattle.panel_command.specs.declared.panel_rows.PartSurveys.{PartSurveys}

-- the file of the last period has the fields of this set, and the records have all others
pub record ArePartsOf (parts : PartSurveys) (survey : SurveyParts) (set : ℕ) : Type 0 where
  pub own : parts.own.fields ≡ own_fields survey.fields set
  pub last : parts.last.fields ≡ last_fields survey.fields set
