-- When a record is clean.
use Rattle.std.specs.Prelude.{◌&&◌, not, Bool, false, List}
use Rattle.std.specs.List.{list_all, list_any}
use Rattle.std.specs.Option.{unwrap_or}
use Rattle.edit_model.specs.Parts.{SurveyParts}
use Rattle.edit_model.specs.Rows.{is_bad}
use Rattle.edit_model.specs.Trials.{rule_at}
use Rattle.edit_model.specs.declared.rule.Rule.{Rule}
use Rattle.edit_model.specs.declared.value.Value.{Value}

-- whether a rule holds at a record, and no sum that is tried leaves the range
abbrev pub holds_at : List Value → Rule → Bool
holds_at row rule = unwrap_or (rule_at rule row) false

-- whether a record is clean: each field has a value, and every rule holds
abbrev pub is_clean : SurveyParts → List Value → Bool
is_clean survey row = not (list_any is_bad row) && list_all (holds_at row) survey.rules
