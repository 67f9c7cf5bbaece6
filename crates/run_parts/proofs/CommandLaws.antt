-- How the runs of a command end, whatever the command.
use Rattle.std.proofs.Common.{◌≡◌, ◌≢◌, ◌∙◌, ℕ, Bool, true, false, List, [], ◌∷◌, Option, IfSome, inl, inr, ap, refl}
use Rattle.std.specs.Prelude.{⊤, if◌then◌else◌}
use Rattle.std.specs.List.{AllByRecursion}
use Rattle.edit_desk.specs.Desk.{Files, Told}
use Rattle.run_parts.specs.Commands.{AreWritten, Command, HasReleased, IsDone, IsReleaseComplete, IsStopped, IsWhole, Leaves, Made}
use Rattle.run_parts.specs.Faults.{IsOfInput, IsOfStores, fault_status}
use Rattle.run_parts.specs.Parts.{IsTelling}
use Rattle.run_parts.specs.Readings.{RefusesInput}
use Rattle.run_parts.specs.Run.{AreStored, LeavesOf, Run, faults_by}
use Rattle.run_parts.specs.declared.fault.Fault.{Fault}
use Rattle.run_parts.specs.declared.fault.Fault.TheVariants as fault
use Rattle.run_parts.specs.declared.status.Status.{Status}
use Rattle.run_parts.specs.declared.status.Status.TheVariants as status
use Rattle.run_parts.proofs.FaultlessLaws.{memory-left}
use Rattle.run_parts.proofs.InputLaws.{read-beside}
use Rattle.run_parts.proofs.ToldLaws.{each-told, from-told, same-told, where-told}

-- ---- files that are stored

-- no two of the files have one name
abbrev pub HaveOwnNames : List (List ℕ × List ℕ) → Type 0
HaveOwnNames [] = ⊤
HaveOwnNames (file ∷ files) = AllByRecursion (λ other. file.0 ≢ other.0) files × HaveOwnNames files

-- where files with names of their own are stored, each stands there
pub stored-written : (files : List (List ℕ × List ℕ)) (before after : Files) → HaveOwnNames files → AreStored files before after
    → AreWritten files before after
stored-written [] before after own same = record { each = tt; elsewhere = λ name not. ap (λ (f : Files). f name) same }
stored-written (file ∷ files) before after own (between, puts, rest) =
    let later = stored-written files between after own.1 rest in
    record {
      each = (later.elsewhere file.0 own.0 ∙ puts.0, later.each);
      elsewhere = λ name not. later.elsewhere name not.1 ∙ puts.1 name not.0;
    }

-- what stores leave is of what was to be made
pub stores-leave : (command : Command) (made : Made) (f : Fault) (before after : Files) → IsOfStores f → command.makes before made
    → LeavesOf made.files f before after → Leaves command f before after
stores-leave command made (fault.Write name) before after kind makes left = (made, makes, left)
stores-leave command made fault.OutOfMemory before after kind makes left = inr (made, makes, left)
stores-leave command made f before after kind makes left = absurd kind

-- a refusal of the rules or the records leaves the files as they were
input-leaves : (command : Command) (f : Fault) (before : Files) → IsOfInput f → Leaves command f before before
input-leaves command fault.OutOfMemory before kind = inl refl
input-leaves command (fault.Rules line k) before kind = refl
input-leaves command (fault.Records what) before kind = refl
input-leaves command (fault.Read name) before kind = refl
input-leaves command (fault.TooLong name) before kind = refl
input-leaves command f before kind = absurd kind

module _ (command : Command) (before after : Option Files) where
  -- what is left where nothing was stored
  pub unstored : (f : Fault) → IsOfInput f → after ≡ before → Told before after (Leaves command f)
  unstored f kind same = same-told before after (Leaves command f) same (λ files. input-leaves command f files kind)

  module _ (made : Made) (makes : IfSome before (λ files. command.makes files made)) where
    -- and where a store ended in a fault
    pub stores-stopped : (f : Fault) → IsOfStores f → Told before after (LeavesOf made.files f) → Told before after (Leaves command f)
    stores-stopped f kind left =
        from-told before after (λ x y is h. stores-leave command made f x y kind is h) makes left

    -- or all was stored
    pub stores-done : HaveOwnNames made.files → Told before after (AreStored made.files)
        → Told before after (λ old new. command.makes old made × AreWritten made.files old new)
    stores-done own all = from-told before after (λ x y is h. (is, stored-written made.files x y own h)) makes all

-- ---- runs that did all on the desk

-- by whether all records were released, some were at least
pub released-by : (whole : Bool) → HasReleased (if whole then status.Done else status.SomeUnresolved)
released-by true = inl refl
released-by false = inr refl

-- a run that released records met no fault at its lines
pub not-failed : (answer : Status) → HasReleased answer → answer ≢ status.WriteFault
not-failed answer (inl done) failed = cc
not-failed answer (inr some) failed = cc

module _ (command : Command) (run : Run) (made : Made) (answer : Status)
    (telling : IsTelling made.status made.lines answer run.before.printed run.after.printed run.before.unprinted run.after.unprinted)
    (done : IsDone command made run) where
  -- the lines were printed
  pub whole-by : answer ≢ status.WriteFault → IsWhole command answer run
  whole-by not = by telling
    where
      by : IsTelling made.status made.lines answer run.before.printed run.after.printed run.before.unprinted run.after.unprinted
          → IsWhole command answer run
      by (inl (is, printed, told)) = record { made = made; ended = is; done = done; told = record { printed = printed; unprinted = told } }
      by (inr (is, printed, told)) = absurd (not is)

  -- or they were not
  pub untold-by : answer ≢ made.status → IsStopped command answer run
  untold-by not = by telling
    where
      by : IsTelling made.status made.lines answer run.before.printed run.after.printed run.before.unprinted run.after.unprinted
          → IsStopped command answer run
      by (inl (is, printed, told)) = absurd (not is)
      by (inr (is, printed, told)) = inr (is, record { made = made; done = done; untold = record { printed = printed; unprinted = told } })

-- ---- commands that release records

module _ (rules records : List ℕ) (run : Run) where
  -- a refusal of files that have readings, in a run without a fault, is want of memory
  pub release-refused : (f : Fault) (answer : Status) → answer ≡ fault_status f → RefusesInput rules records run.before.files f
      → run.after.faults ≡ faults_by f run.before.faults → IsReleaseComplete rules records answer run
  release-refused f answer is cause faults =
      each-told run.before.files
      (λ o why survey s hr hs none. inr (is ∙ memory-left run f (read-beside rules records o f survey s hr hs why) faults none))
      (where-told run.before.files (λ o. RefusesInput rules records o f) cause)
