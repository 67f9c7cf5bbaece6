-- What the check of a proof that was read answers. Private contracts alone cite this page.
use Rattle.std.specs.Prelude.{⊤, ℕ, List, Result, Ok, Err}
use Rattle.record_text.specs.Sheets.{IsSheet}
use Rattle.cert_check.specs.Releases.{Audit, IsFirstFailure, IsReleasedCount, IsValidRelease, audit_of}
use Rattle.cert_check.specs.declared.fault.CheckFault.{CheckFault}
use Rattle.cert_check.specs.declared.fault.CheckFault.TheVariants as fault
use Rattle.cert_check.specs.declared.said_check.Audit as declared

-- what is checked, with the bytes of the proof
abbrev pub audit_in : declared.Audit → List ℕ → Audit
audit_in a proof = audit_of a.rules.now a.records.now a.released.now proof

-- the records are a sheet of the rules
abbrev pub IsOfSheet : declared.Audit → Type 0
IsOfSheet a = (bytes : List ℕ) × IsSheet a.rules.now.fields bytes a.records.now

-- the files are a valid release, with this number of released records; or this is the first condition that fails
abbrev pub Answers : Audit → Result ℕ CheckFault → Type 0
Answers a (Ok count) = IsValidRelease a × IsReleasedCount a count
Answers a (Err (fault.Rejected line why)) = IsFirstFailure a line why × ¬ IsValidRelease a
Answers a (Err fault.OutOfMemory) = ⊤
