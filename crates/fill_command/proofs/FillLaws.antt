-- What a filling makes of the files that were read.
use Rattle.std.proofs.Common.{Option, IfSome, refl}
use Rattle.edit_desk.specs.Desk.{Files}
use Rattle.edit_model.specs.Parts.{SurveyParts}
use Rattle.edit_model.specs.Surveys.{IsWellFormed}
use Rattle.record_text.specs.Sheets.{SheetParts}
use Rattle.command_words.specs.Asked.{FillAsked}
use Rattle.filled_release.specs.FilledFiles.{IsFilledFile}
use Rattle.filled_release.specs.declared.filled_file.FilledFile.{FilledFile}
use Rattle.run_parts.specs.Readings.{HoldsRecords, HoldsRules}
use Rattle.run_parts.proofs.ToldLaws.{both-told, where-told}
use Rattle.fill_command.specs.FillRun.{IsFilling, made_of}

-- where the rules and the records were read, and the records were filled, this is to be made
pub filling : (asked : FillAsked) (files : Option Files) (survey : SurveyParts) (sheet : SheetParts) (file : FilledFile)
    → HoldsRules files asked.rules survey → IsWellFormed survey → HoldsRecords files asked.records survey.fields sheet
    → IsFilledFile survey sheet asked.budget file → IfSome files (λ o. IsFilling asked o (made_of asked file))
filling asked files survey sheet file rules formed records filled =
    both-told files
    (λ o r s. record { survey = survey; sheet = sheet; rules = r; formed = formed; records = s; file = file; filled = filled; is = refl })
    (where-told files (λ o. HoldsRules o asked.rules survey) rules)
    (where-told files (λ o. HoldsRecords o asked.records survey.fields sheet) records)
