-- What a run does of what words ask for.
use Rattle.std.specs.Prelude.{◌≡◌, ◌≢◌, ⊤, IfSome}
use Rattle.check_command.specs.CheckRun.{IsCheckComplete, IsCheckStopped, IsChecked}
use Rattle.edit_command.specs.ClassedRun.{IsClassedComplete, IsClassedDue, IsClassedRun, IsClassedStopped}
use Rattle.edit_command.specs.EditRun.{IsEditComplete, IsEditStopped, IsEdited}
use Rattle.edit_desk.specs.Desk.{Files}
use Rattle.fill_command.specs.FillRun.{IsFillComplete, IsFillDue, IsFillRun, IsFillStopped}
use Rattle.make_command.specs.MakeRun.{IsMakeComplete, IsMakeStopped, IsSurveyMade}
use Rattle.panel_command.specs.PanelInput.{IsPanelDue}
use Rattle.panel_command.specs.PanelRun.{IsPanelComplete, IsPanelRun, IsPanelStopped}
use Rattle.rules_command.specs.RulesRun.{IsRuled, IsRulesComplete, IsRulesStopped}
use Rattle.run_parts.specs.Commands.{HasReleased}
use Rattle.run_parts.specs.Readings.{AnswersDue, IsCheckDue, IsDue, IsRulesDue}
use Rattle.run_parts.specs.Run.{IsRefused, Run, word_refusals}
use Rattle.run_parts.specs.declared.status.Status.{Status}
use Rattle.run_parts.specs.declared.status.Status.TheVariants as status
use Rattle.edit_commands.specs.declared.asked.Asked.{Asked}
use Rattle.edit_commands.specs.declared.asked.Asked.TheVariants as asks

-- what is said of the run of a command: what it did where it ended so, what it did where it ended otherwise, that it did all
-- where nothing stood in the way, and that it tells what is wrong with the files
pub record IsRun (Ended Whole Stopped Complete Due : Type 0) : Type 0 where
  pub whole : Ended → Whole
  pub stopped : ¬ Ended → Stopped
  pub complete : Complete
  pub due : Due

-- a status that the files call for is answered
abbrev pub TellsDue : (Files → Status → Type 0) → Status → Run → Type 0
TellsDue Due answer run = IfSome run.before.files (λ files. AnswersDue (Due files) answer)

-- the run does what was asked for: that of a command, or where there is none, the refusal that says so
abbrev pub RunsAs : Asked → Status → Run → Type 0
RunsAs (asks.Edit edit) answer run =
    IsRun (HasReleased answer) (IsEdited edit answer run) (IsEditStopped edit answer run) (IsEditComplete edit answer run)
    (TellsDue (IsDue edit) answer run)
RunsAs (asks.Classed classed) answer run =
    IsRun (HasReleased answer) (IsClassedRun classed answer run) (IsClassedStopped classed answer run)
    (IsClassedComplete classed answer run) (TellsDue (IsClassedDue classed) answer run)
RunsAs (asks.Check check) answer run =
    IsRun (answer ≡ status.Done) (IsChecked check run) (IsCheckStopped check answer run) (IsCheckComplete check answer run)
    (TellsDue (IsCheckDue check) answer run)
RunsAs (asks.Rules rules) answer run =
    IsRun (answer ≡ status.Done) (IsRuled rules run) (IsRulesStopped rules answer run) (IsRulesComplete rules answer run)
    (TellsDue (IsRulesDue rules) answer run)
RunsAs (asks.Fill fill) answer run =
    IsRun (HasReleased answer) (IsFillRun fill answer run) (IsFillStopped fill answer run) (IsFillComplete fill answer run)
    (TellsDue (IsFillDue fill) answer run)
RunsAs (asks.Panel panel) answer run =
    IsRun (HasReleased answer) (IsPanelRun panel answer run) (IsPanelStopped panel answer run) (IsPanelComplete panel answer run)
    (TellsDue (IsPanelDue panel) answer run)
RunsAs (asks.Make make) answer run =
    IsRun (answer ≡ status.Done) (IsSurveyMade make run) (IsMakeStopped make answer run) (IsMakeComplete answer run) ⊤
RunsAs asks.Nothing answer run = IsRefused word_refusals answer run

-- words that are no command are told to be none, and no command's run ends so
abbrev pub TellsUsage : Asked → Status → Type 0
TellsUsage asks.Nothing answer = answer ≡ status.Usage
TellsUsage asked answer = answer ≢ status.Usage
