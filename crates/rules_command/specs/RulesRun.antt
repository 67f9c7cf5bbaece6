-- What a run of the command `rules` does.
use Rattle.std.specs.Prelude.{◌≡◌, ◌⊎◌, ℕ, List, [], ◌∷◌, Some, IfSome}
use Rattle.edit_desk.specs.Desk.{Asked, Files, PutsOnRecord, Told, fetched}
use Rattle.edit_model.specs.Parts.{SurveyParts}
use Rattle.edit_normal.specs.RuleLines.{normal_lines_of}
use Rattle.derivation.specs.Refutations.{AllFollow}
use Rattle.redundancy.specs.Verdicts.{AreEqualities, AreNeeded, AreRefuted}
use Rattle.pruned_rules.specs.Pruned.{rule_verdicts, rule_flags}
use Rattle.rule_report.specs.Reports.{reports_from}
use Rattle.command_words.specs.Asked.{RulesAsked}
use Rattle.run_parts.specs.Faults.{IsOfRulesCommand}
use Rattle.run_parts.specs.Readings.{HoldsRules, RefusesRulesCommand}
use Rattle.run_parts.specs.Run.{AreTold, AreUntold, IsFaultless, IsRefused, LeavesAll, Refusals, Run}
use Rattle.run_parts.specs.declared.status.Status.{Status}
use Rattle.run_parts.specs.declared.status.Status.TheVariants as status

-- all calls of the command
abbrev pub rules_calls : RulesAsked → List Asked
rules_calls asked = fetched asked.rules ∷ []

-- what is printed of all lines of a survey's rules, numbered from 1
abbrev pub report_of : SurveyParts → List (List ℕ)
report_of survey = reports_from survey.fields 1 (normal_lines_of survey) (rule_verdicts survey)

-- ---- what the verdicts mean

-- the rules that the desk held read as a survey; these are the lines to be printed of it; and what they say is so
pub record IsReport (asked : RulesAsked) (files : Files) (texts : List (List ℕ)) : Type 0 where
  pub survey : SurveyParts
  pub held : HoldsRules (Some files) asked.rules survey
  pub listed : texts ≡ report_of survey
  pub dropped : AllFollow (normal_lines_of survey) (rule_flags survey)
  pub needed : AreNeeded survey.fields (normal_lines_of survey) (rule_verdicts survey)
  pub refuted : AreRefuted survey.fields (normal_lines_of survey) (rule_verdicts survey)
  pub equalities : AreEqualities (normal_lines_of survey) (rule_verdicts survey)

-- ---- runs

-- the command did all that it does on the desk, and these are the lines to be printed
pub record IsReported (asked : RulesAsked) (texts : List (List ℕ)) (run : Run) : Type 0 where
  pub files : Told run.before.files run.after.files (λ old new. (new ≡ old) × IsReport asked old texts)
  pub calls : PutsOnRecord run.before.calls run.after.calls (λ calls. calls ≡ rules_calls asked)
  pub faultless : run.after.faults ≡ run.before.faults

-- a whole run: the lines were printed
pub record IsRuled (asked : RulesAsked) (run : Run) : Type 0 where
  pub texts : List (List ℕ)
  pub reported : IsReported asked texts run
  pub told : AreTold texts run

-- a run of whose lines one was not printed whole
pub record IsRulesUntold (asked : RulesAsked) (run : Run) : Type 0 where
  pub texts : List (List ℕ)
  pub reported : IsReported asked texts run
  pub untold : AreUntold texts run

-- the refusals of the command
abbrev pub rules_refusals : RulesAsked → Refusals
rules_refusals asked =
    record { meets = IsOfRulesCommand; refuses = RefusesRulesCommand asked; order = rules_calls asked; leaves = LeavesAll }

-- a run that did not do all: it is refused for a fault, or one of its lines was not printed
abbrev pub IsRulesStopped : RulesAsked → Status → Run → Type 0
IsRulesStopped asked answer run =
    IsRefused (rules_refusals asked) answer run ⊎ ((answer ≡ status.WriteFault) × IsRulesUntold asked run)

-- where the rules that the desk held have a reading, and no fault is met, the command is done, but for want of memory
abbrev pub IsRulesComplete : RulesAsked → Status → Run → Type 0
IsRulesComplete asked answer run = IfSome run.before.files (λ files. (survey : SurveyParts)
    → HoldsRules (Some files) asked.rules survey → IsFaultless run
    → (answer ≡ status.Done) ⊎ (answer ≡ status.OutOfMemory))
