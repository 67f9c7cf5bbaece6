-- What is made of the three files, and how a run of the command ends.
use Rattle.std.proofs.Common.{◌≡◌, ◌≢◌, ◌∙◌, Option, IfSome, ap, inr, refl, sym}
use Rattle.edit_desk.specs.Desk.{Files}
use Rattle.edit_model.specs.Surveys.{IsWellFormed}
use Rattle.command_words.specs.Asked.{PanelAsked, panel_files_in}
use Rattle.command_words.specs.FileNames.{AreApart, file_parts}
use Rattle.panel_release.specs.PanelReleases.{IsPanelRelease, PanelCase}
use Rattle.panel_release.specs.declared.release.PanelRelease.{PanelRelease}
use Rattle.run_parts.specs.Commands.{Made}
use Rattle.run_parts.specs.Faults.{fault_status}
use Rattle.run_parts.specs.Readings.{AnswersDue}
use Rattle.run_parts.specs.Run.{Run, faults_by}
use Rattle.run_parts.specs.declared.fault.Fault.{Fault}
use Rattle.run_parts.specs.declared.status.Status.{Status}
use Rattle.run_parts.proofs.CommandLaws.{HaveOwnNames}
use Rattle.run_parts.proofs.FaultlessLaws.{memory-left}
use Rattle.run_parts.proofs.ToldLaws.{each-told, where-told}
use Rattle.panel_command.specs.PanelInput.{HoldsPanel, IsPanelDue, RefusesPanel}
use Rattle.panel_command.specs.PanelRun.{IsPanelComplete, IsPanelMade, made_of}
use Rattle.panel_command.proofs.DueLaws.{panel_beside, panel_not_due}

-- where the three files were read, and their records were corrected, this is to be made
pub panel_made : (asked : PanelAsked) (files : Option Files) (panel : PanelCase) (release : PanelRelease) → HoldsPanel files asked panel
    → IsWellFormed panel.survey → IsPanelRelease panel asked.budget release → IfSome files (λ o. IsPanelMade asked o (made_of asked release))
panel_made asked files panel release held formed released =
    each-told files
    (λ o read. record { panel = panel; held = read; formed = formed; release = release; released = released; is = refl })
    (where-told files (λ o. HoldsPanel o asked panel) held)

-- where this is to be made of the files, no status is due of them
pub made-due : (asked : PanelAsked) (files : Option Files) (made : Made) → IfSome files (λ o. IsPanelMade asked o made) → (answer : Status)
    → IfSome files (λ o. AnswersDue (IsPanelDue asked o) answer)
made-due asked files made is answer =
    each-told files (λ o found other due. absurd (panel_not_due asked o found.panel found.held other due)) is

-- the three files that are stored have names of their own
pub own_names : (asked : PanelAsked) (release : PanelRelease) → AreApart (panel_files_in asked) → HaveOwnNames (made_of asked release).files
own_names asked release apart =
    let released = apart.1.1.1 in
    let proof-reasons : asked.proof ≢ asked.reasons = λ e. released.1.0.0 (ap file_parts (sym e)) in
    let proof-released : asked.proof ≢ asked.released = λ e. released.0.1.0 (ap file_parts (sym e)) in
    let reasons-released : asked.reasons ≢ asked.released = λ e. released.0.0 (ap file_parts (sym e)) in
    ((proof-reasons, (proof-released, tt)), ((reasons-released, tt), (tt, tt)))

-- a refusal of files that have readings with their keys, in a run without a fault, is want of memory
pub panel_refused : (asked : PanelAsked) (run : Run) (f : Fault) (answer : Status) → answer ≡ fault_status f
    → RefusesPanel asked run.before.files f → run.after.faults ≡ faults_by f run.before.faults → IsPanelComplete asked answer run
panel_refused asked run f answer is cause faults =
    each-told run.before.files (λ o why panel held none. inr (is ∙ memory-left run f (panel_beside asked o panel held f why) faults none))
    (where-told run.before.files (λ o. RefusesPanel asked o f) cause)
