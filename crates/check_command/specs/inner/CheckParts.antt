-- What a check finds on the desk.
use Rattle.std.specs.Prelude.{◌≡◌, ⊤, ℕ, List, Option, IfSome, length}
use Rattle.edit_desk.specs.Desk.{Files}
use Rattle.cert_check.specs.Releases.{Audit, IsFirstFailure, IsReleasedCount, IsValidRelease}
use Rattle.cert_check.specs.Shown.{Shows}
use Rattle.command_words.specs.Asked.{CheckAsked}
use Rattle.check_command.specs.CheckRun.{IsAccepted, valid_text}
use Rattle.run_parts.specs.declared.fault.Fault.{Fault}
use Rattle.run_parts.specs.declared.fault.Fault.TheVariants as fault

-- the files are a valid release, where they are told, and the line says of how many records
abbrev pub Accepts : CheckAsked → Option Files → List ℕ → Type 0
Accepts asked files line =
    (records : ℕ) × (released : ℕ) × (line ≡ valid_text records released) × IfSome files (λ held. IsAccepted asked held records released)

-- the audit is of a valid release, and this is the line that is printed of it
pub record IsValidLine (audit : Audit) (line : List ℕ) : Type 0 where
  pub valid : IsValidRelease audit
  pub shown : Shows audit
  pub released : ℕ
  pub count : IsReleasedCount audit released
  pub text : line ≡ valid_text (length audit.sheet.rows) released

-- why an audit is refused: by the first failure of a release that is not valid, or for want of memory
abbrev pub RefusesAudit : Audit → Fault → Type 0
RefusesAudit audit (fault.Rejected line why) = IsFirstFailure audit line why × ¬ IsValidRelease audit
RefusesAudit audit fault.OutOfMemory = ⊤
RefusesAudit audit fault = ⊥
