-- What a run of the command `panel` does.
use Rattle.std.specs.Prelude.{◌≡◌, ◌⊎◌, if◌then◌else◌, List, [], ◌∷◌, Some, IfSome}
use Rattle.edit_desk.specs.Desk.{Asked, Files, fetched, stored}
use Rattle.edit_model.specs.Surveys.{IsWellFormed}
use Rattle.command_words.specs.Asked.{PanelAsked}
use Rattle.panel_release.specs.PanelReleases.{IsPanelRelease, PanelCase}
use Rattle.panel_release.specs.declared.release.PanelRelease.{PanelRelease}
use Rattle.run_parts.specs.Commands.{Command, HasReleased, IsStopped, IsWhole, Made}
use Rattle.run_parts.specs.Faults.{IsOfPanel}
use Rattle.run_parts.specs.Run.{IsFaultless, Run}
use Rattle.run_parts.specs.declared.status.Status.{Status}
use Rattle.run_parts.specs.declared.status.Status.TheVariants as status
use Rattle.panel_command.specs.PanelInput.{HoldsPanel, RefusesPanel}

-- all calls of the command, in order
abbrev pub panel_calls : PanelAsked → List Asked
panel_calls asked =
    fetched asked.rules ∷ fetched asked.records ∷ fetched asked.last
    ∷ stored asked.proof ∷ stored asked.reasons ∷ stored asked.released ∷ []

-- what is made of this release: it ends by whether each record was given values, the three files are stored, and the line that counts
-- is printed
abbrev pub made_of : PanelAsked → PanelRelease → Made
made_of asked release = record {
  status = if release.whole then status.Done else status.SomeUnresolved;
  files = (asked.proof, release.proof.items) ∷ (asked.reasons, release.reasons.items) ∷ (asked.released, release.released.items) ∷ [];
  lines = release.summary.items ∷ [];
}

-- this is to be made of the files that the desk held: the three were read, with a well-formed survey, and each record was corrected
-- within the budget that was asked for, its last fields left alone
pub record IsPanelMade (asked : PanelAsked) (files : Files) (made : Made) : Type 0 where
  pub panel : PanelCase
  pub held : HoldsPanel (Some files) asked panel
  pub formed : IsWellFormed panel.survey
  pub release : PanelRelease
  pub released : IsPanelRelease panel asked.budget release
  pub is : made ≡ made_of asked release

-- the command
abbrev pub panel_command : PanelAsked → Command
panel_command asked = record {
  meets = IsOfPanel;
  refuses = RefusesPanel asked;
  order = panel_calls asked;
  makes = IsPanelMade asked;
}

-- a whole run: the three files were stored, and the line that counts was printed
abbrev pub IsPanelRun : PanelAsked → Status → Run → Type 0
IsPanelRun asked answer run = IsWhole (panel_command asked) answer run

-- a run that did not do all
abbrev pub IsPanelStopped : PanelAsked → Status → Run → Type 0
IsPanelStopped asked answer run = IsStopped (panel_command asked) answer run

-- where the three files that the desk held have readings with their keys, and no fault is met, the records are corrected, but for
-- want of memory
abbrev pub IsPanelComplete : PanelAsked → Status → Run → Type 0
IsPanelComplete asked answer run = IfSome run.before.files (λ files. (panel : PanelCase)
    → HoldsPanel (Some files) asked panel → IsFaultless run → HasReleased answer ⊎ (answer ≡ status.OutOfMemory))
