-- How the runs of an edit are refused.
use Rattle.std.proofs.Common.{◌≡◌, ◌∙◌, ℕ, List, Option, None, Some, inl, inr, refl}
use Rattle.edit_desk.specs.Desk.{Files, Told}
use Rattle.command_words.specs.Asked.{ClassedAsked, EditAsked}
use Rattle.run_parts.specs.Commands.{Command, Leaves}
use Rattle.run_parts.specs.Faults.{fault_status}
use Rattle.run_parts.specs.Run.{Run, faults_by}
use Rattle.run_parts.specs.declared.fault.Fault.{Fault}
use Rattle.run_parts.specs.declared.fault.Fault.TheVariants as fault
use Rattle.run_parts.specs.declared.status.Status.{Status}
use Rattle.run_parts.proofs.FaultlessLaws.{memory-left}
use Rattle.run_parts.proofs.ToldLaws.{each-told, same-told, where-told}
use Rattle.edit_command.specs.ClassedRun.{IsClassedComplete}
use Rattle.edit_command.specs.EditRun.{IsEditComplete}
use Rattle.edit_command.specs.inner.EitherRun.{IsEitherComplete, IsOfEitherInput, RefusesEither}
use Rattle.edit_command.proofs.InputLaws.{either-beside}

-- a refusal of files that have readings, in a run without a fault, is want of memory
pub either-refused : (asked : EditAsked) (class : Option (List ℕ)) (run : Run) (f : Fault) (answer : Status) → answer ≡ fault_status f
    → RefusesEither asked.names.rules asked.names.records class run.before.files f → run.after.faults ≡ faults_by f run.before.faults
    → IsEitherComplete asked class answer run
either-refused asked class run f answer is cause faults =
    each-told run.before.files
    (λ o why survey class_field s held none. inr (
    is ∙ memory-left run f (either-beside asked.names.rules asked.names.records class o survey class_field s held f why) faults none))
    (where-told run.before.files (λ o. RefusesEither asked.names.rules asked.names.records class o f) cause)

-- a refusal of the rules, of the class field or of the records leaves the files as they were
either-leaves : (command : Command) (class : Option (List ℕ)) (f : Fault) (files : Files) → IsOfEitherInput class f → Leaves command f files files
either-leaves command class fault.OutOfMemory files kind = inl refl
either-leaves command class (fault.Rules line k) files kind = refl
either-leaves command class (fault.Class name) files kind = refl
either-leaves command class (fault.Records what) files kind = refl
either-leaves command class (fault.Read name) files kind = refl
either-leaves command class (fault.TooLong name) files kind = refl
either-leaves command class f files kind = absurd kind

pub either-unstored : (command : Command) (class : Option (List ℕ)) (before after : Option Files) (f : Fault) → IsOfEitherInput class f
    → after ≡ before → Told before after (Leaves command f)
either-unstored command class before after f kind same =
    same-told before after (Leaves command f) same (λ files. either-leaves command class f files kind)

-- an edit that is complete with or without classes is complete without, and with them
pub edit-complete : (asked : EditAsked) (answer : Status) (run : Run) → IsEitherComplete asked None answer run → IsEditComplete asked answer run
edit-complete asked answer run complete =
    each-told run.before.files
    (λ o done survey s hr hs none. done survey None s (record { read_rules = hr; classes = refl; read_records = hs }) none) complete

pub classed-complete : (asked : ClassedAsked) (answer : Status) (run : Run) → IsEitherComplete asked.edit (Some asked.class) answer run
    → IsClassedComplete asked answer run
classed-complete asked answer run complete =
    each-told run.before.files
    (λ o done survey number s held none. done survey (Some number) s
    (record { read_rules = held.read_rules; classes = held.named; read_records = held.read_records }) none) complete
