-- What a run of a check does.
use Rattle.std.specs.Prelude.{◌≡◌, ◌⊎◌, ℕ, List, [], ◌∷◌, ◌++◌, codes, decimal, Some, IfSome, length}
use Rattle.edit_desk.specs.Desk.{Asked, Files, PutsOnRecord, Told, fetched}
use Rattle.cert_check.specs.Releases.{Audit, IsReleasedCount, IsValidRelease}
use Rattle.cert_check.specs.Shown.{Shows}
use Rattle.command_words.specs.Asked.{CheckAsked}
use Rattle.run_parts.specs.Faults.{IsOfCheck}
use Rattle.run_parts.specs.Readings.{HoldsRelease, RefusesCheck}
use Rattle.run_parts.specs.Run.{AreTold, AreUntold, IsFaultless, IsRefused, LeavesAll, Refusals, Run}
use Rattle.run_parts.specs.declared.status.Status.{Status}
use Rattle.run_parts.specs.declared.status.Status.TheVariants as status

-- all calls of a check, in order
abbrev pub check_calls : CheckAsked → List Asked
check_calls asked = fetched asked.rules ∷ fetched asked.records ∷ fetched asked.released ∷ fetched asked.proof ∷ []

-- the files that the desk held are a valid release of `total` records, `given` of them released; and this is what it shows
pub record IsAccepted (asked : CheckAsked) (files : Files) (total given : ℕ) : Type 0 where
  pub audit : Audit
  pub held : HoldsRelease (Some files) asked audit
  pub valid : IsValidRelease audit
  pub shown : Shows audit
  pub records : length audit.sheet.rows ≡ total
  pub released : IsReleasedCount audit given

-- the line that is printed of a valid release
abbrev pub valid_text : ℕ → ℕ → List ℕ
valid_text records released = codes "valid records " ++ (decimal records ++ (codes " released " ++ decimal released))

-- a check did all that it does on the desk, and found a valid release
pub record IsRead (asked : CheckAsked) (records released : ℕ) (run : Run) : Type 0 where
  pub files : Told run.before.files run.after.files (λ old new. (new ≡ old) × IsAccepted asked old records released)
  pub calls : PutsOnRecord run.before.calls run.after.calls (λ calls. calls ≡ check_calls asked)
  pub faultless : run.after.faults ≡ run.before.faults

-- a whole check: the files were read, and that they are a valid release was printed
pub record IsChecked (asked : CheckAsked) (run : Run) : Type 0 where
  pub records : ℕ
  pub released : ℕ
  pub read : IsRead asked records released run
  pub told : AreTold (valid_text records released ∷ []) run

-- a check whose line was not printed whole
pub record IsCheckUntold (asked : CheckAsked) (run : Run) : Type 0 where
  pub records : ℕ
  pub released : ℕ
  pub read : IsRead asked records released run
  pub untold : AreUntold (valid_text records released ∷ []) run

-- the refusals of a check
abbrev pub check_refusals : CheckAsked → Refusals
check_refusals asked = record { meets = IsOfCheck; refuses = RefusesCheck asked; order = check_calls asked; leaves = LeavesAll }

-- a check that did not do all: it is refused for a fault, or its line was not printed
abbrev pub IsCheckStopped : CheckAsked → Status → Run → Type 0
IsCheckStopped asked answer run =
    IsRefused (check_refusals asked) answer run ⊎ ((answer ≡ status.WriteFault) × IsCheckUntold asked run)

-- where the files that the desk held are a valid release, and no fault is met, the check is done, but for want of memory
abbrev pub IsCheckComplete : CheckAsked → Status → Run → Type 0
IsCheckComplete asked answer run = IfSome run.before.files (λ files. (audit : Audit)
    → HoldsRelease (Some files) asked audit → IsValidRelease audit → IsFaultless run
    → (answer ≡ status.Done) ⊎ (answer ≡ status.OutOfMemory))
