-- What the files of a check show, and which status is due of them.
use Rattle.std.proofs.Common.{◌≡◌, ◌⊎◌, ℕ, List, Vec, Global, Option, Some, Result, Ok, Err, IfOk, IfErr, length, inl, inr, refl, subst, sym}
use Rattle.run_parts.specs.Refused.{check_fault}
use Rattle.edit_model.specs.Parts.{SurveyParts}
use Rattle.record_text.specs.Sheets.{SheetParts}
use Rattle.edit_desk.specs.Desk.{Asked, Files, IsLonger, PutsOnRecord}
use Rattle.cert_check.specs.Releases.{Audit, IfRejected, IsFirstFailure, IsReleasedCount, IsValidRelease}
use Rattle.cert_check.specs.Shown.{Shows}
use Rattle.cert_check.specs.declared.fault.CheckFault.{CheckFault}
use Rattle.cert_check.specs.declared.fault.CheckFault.TheVariants as check
use Rattle.command_words.specs.Asked.{CheckAsked}
use Rattle.check_command.specs.CheckRun.{valid_text}
use Rattle.run_parts.specs.Faults.{IsOfCheck, IsOfInput, fault_status}
use Rattle.run_parts.specs.Readings.{AnswersDue, HoldsBytes, HoldsRecords, HoldsRelease, HoldsRules, IsCheckDue, IsInputDue, IsReleaseFile}
use Rattle.run_parts.specs.Readings.{RefusesCheck, RefusesInput}
use Rattle.check_command.specs.inner.CheckParts.{Accepts, IsValidLine, RefusesAudit}
use Rattle.run_parts.specs.Parts.{AreCallsOf, IsOfFetch, RefusesLong, done_end, faults_after}
use Rattle.run_parts.specs.declared.fault.Fault.{Fault}
use Rattle.run_parts.specs.declared.fault.Fault.TheVariants as fault
use Rattle.run_parts.specs.declared.status.Status.{Status}
use Rattle.run_parts.specs.declared.status.Status.TheVariants as status
use Rattle.run_parts.proofs.CallLaws.{told-calls}
use Rattle.run_parts.proofs.HeldLaws.{not_longer, one_audit}
use Rattle.run_parts.proofs.InputLaws.{IsBeside, IsDueOrRead, read-beside, read-not-due}
use Rattle.run_parts.proofs.ToldLaws.{each-told, where-told}
use Rattle.run_parts.specs.Limits.{most_bytes, most_proof_bytes}

module _ (asked : CheckAsked) (files : Files) where
  -- ---- the rules and the records

  -- a status that is due of a check is due of these, or they were read
  due-or-read : (s : Status) → IsCheckDue asked files s → IsDueOrRead asked.rules asked.records files s
  due-or-read status.TooLong (inl due) = inl due
  due-or-read status.TooLong (inr (name, (most, (survey, hr, (sheet, hs, which)), long))) = inr (survey, hr, (sheet, hs, tt))
  due-or-read status.Rejected (audit, held, none) = inr (audit.survey, held.rules, (audit.sheet, held.records, tt))
  due-or-read s due = inl due

  -- a fault of the rules or the records that says nothing of them is that a file could not be read, or want of memory
  beside-due : (f : Fault) → IsOfInput f → IsBeside f → (fault_status f ≡ status.ReadFault) ⊎ (fault_status f ≡ status.OutOfMemory)
  beside-due (fault.Read name) kind beside = inl refl
  beside-due (fault.Write name) kind beside = absurd kind
  beside-due fault.OutOfMemory kind beside = inr refl
  beside-due f kind beside = absurd beside

  -- the rules or the records are refused with what is due of a check
  pub input-due : (f : Fault) → IsOfInput f → RefusesInput asked.rules asked.records (Some files) f
      → AnswersDue (IsInputDue asked.rules asked.records files) (fault_status f) → AnswersDue (IsCheckDue asked files) (fault_status f)
  input-due f kind why due s here = by (due-or-read s here)
    where
      by : IsDueOrRead asked.rules asked.records files s → (fault_status f ≡ s) ⊎ ((fault_status f ≡ status.ReadFault) ⊎ (fault_status f ≡ status.OutOfMemory))
      by (inl of_input) = due s of_input
      by (inr (survey, hr, (sheet, hs, done))) = inr (beside-due f kind (read-beside asked.rules asked.records files f survey sheet hr hs why))

  -- ---- a released file or a proof that is too long

  module _ (survey : SurveyParts) (s : SheetParts) (hr : HoldsRules (Some files) asked.rules survey)
      (hs : HoldsRecords (Some files) asked.records survey.fields s) where
    long-due : ((audit : Audit) → HoldsRelease (Some files) asked audit → ⊥) → AnswersDue (IsCheckDue asked files) status.TooLong
    long-due none status.TooLong due = inl refl
    long-due none status.Rejected (audit, held, invalid) = absurd (none audit held)
    long-due none other due = absurd (read-not-due asked.rules asked.records files survey s hr hs other due)

    fetch-due : (name : List ℕ) (most : ℕ) (f : Fault) → IsOfFetch name f → RefusesLong most (Some files) f
        → (IsLonger files name most → (audit : Audit) → HoldsRelease (Some files) asked audit → ⊥) → AnswersDue (IsCheckDue asked files) (fault_status f)
    fetch-due name most (fault.Read n) kind why none = λ other due. inr (inl refl)
    fetch-due name most (fault.TooLong n) kind why none = long-due (none (subst (λ (m : List ℕ). IsLonger files m most) kind why))
    fetch-due name most fault.OutOfMemory kind why none = λ other due. inr (inr refl)
    fetch-due name most f kind why none = absurd kind

    pub released-due : (f : Fault) → IsOfFetch asked.released f → RefusesLong most_bytes (Some files) f → AnswersDue (IsCheckDue asked files) (fault_status f)
    released-due f kind why = fetch-due asked.released most_bytes f kind why (λ long audit held. not_longer files asked.released most_bytes held.released long)

    pub proof-due : (f : Fault) → IsOfFetch asked.proof f → RefusesLong most_proof_bytes (Some files) f → AnswersDue (IsCheckDue asked files) (fault_status f)
    proof-due f kind why = fetch-due asked.proof most_proof_bytes f kind why (λ long audit held. not_longer files asked.proof most_proof_bytes held.proof long)

  -- ---- a release

  moved : {name other : List ℕ} {most more : ℕ} → name ≡ other → most ≡ more → IsLonger files name most → IsLonger files other more
  moved {name} {other} {most} {more} same is long = subst (λ (m : ℕ). IsLonger files other m) is (subst (λ (n : List ℕ). IsLonger files n most) same long)

  module _ (audit : Audit) (held : HoldsRelease (Some files) asked audit) where
    not-long : IsCheckDue asked files status.TooLong → ⊥
    not-long (inl due) = read-not-due asked.rules asked.records files audit.survey audit.sheet held.rules held.records status.TooLong due
    not-long (inr (name, (most, (survey, hr, (sheet, hs, inl (same, is))), long))) =
        not_longer files asked.released most_bytes held.released (moved same is long)
    not-long (inr (name, (most, (survey, hr, (sheet, hs, inr (same, is, bytes, there))), long))) =
        not_longer files asked.proof most_proof_bytes held.proof (moved same is long)

    -- none is due of a valid one
    valid-due : IsValidRelease audit → (answer : Status) → AnswersDue (IsCheckDue asked files) answer
    valid-due valid answer status.TooLong due = absurd (not-long due)
    valid-due valid answer status.Rejected (other, there, invalid) =
        absurd (invalid (subst IsValidRelease (one_audit files asked audit other held there) valid))
    valid-due valid answer s due = absurd (read-not-due asked.rules asked.records files audit.survey audit.sheet held.rules held.records s due)

    rejected-due : AnswersDue (IsCheckDue asked files) status.Rejected
    rejected-due status.TooLong due = absurd (not-long due)
    rejected-due status.Rejected due = inl refl
    rejected-due s due = absurd (read-not-due asked.rules asked.records files audit.survey audit.sheet held.rules held.records s due)

    -- what an audit answers is due
    pub audit-due : (r : Result (Vec ℕ Global) Fault) → IfOk r (λ line. IsValidLine audit line.items) → IfErr r (RefusesAudit audit)
        → AnswersDue (IsCheckDue asked files) (done_end r)
    audit-due (Ok line) is why = valid-due is.valid status.Done
    audit-due (Err (fault.Rejected line reason)) is why = rejected-due
    audit-due (Err fault.OutOfMemory) is why = λ s due. inr (inr refl)
    audit-due (Err f) is why = absurd why

    -- a valid one is refused for no fault but one that says nothing of the files
    pub valid-beside : (f : Fault) → IsValidRelease audit → RefusesCheck asked (Some files) f → IsBeside f
    valid-beside (fault.TooLong name) valid (inl why) =
        read-beside asked.rules asked.records files (fault.TooLong name) audit.survey audit.sheet held.rules held.records why
    valid-beside (fault.TooLong name) valid (inr long) = not-long (inr (name, long))
    valid-beside (fault.Read name) valid why = tt
    valid-beside (fault.Rejected line why) valid (other, there, invalid, first) =
        invalid (subst IsValidRelease (one_audit files asked audit other held there) valid)
    valid-beside f valid why = read-beside asked.rules asked.records files f audit.survey audit.sheet held.rules held.records why

-- ---- refusals, of files that are told or not

module _ (asked : CheckAsked) (files : Option Files) where
  -- ---- a released file or a proof that was not read

  module _ (survey : SurveyParts) (s : SheetParts) (hr : HoldsRules files asked.rules survey) (hs : HoldsRecords files asked.records survey.fields s) where
    fetch-refuse : (name : List ℕ) (most : ℕ) (f : Fault) → IsReleaseFile asked files name most → IsOfFetch name f → RefusesLong most files f
        → RefusesCheck asked files f
    fetch-refuse name most (fault.Read n) there kind why = inr (most, subst (λ (m : List ℕ). IsReleaseFile asked files m most) (sym kind) there)
    fetch-refuse name most (fault.TooLong n) there kind why = inr (most, subst (λ (m : List ℕ). IsReleaseFile asked files m most) (sym kind) there, why)
    fetch-refuse name most fault.OutOfMemory there kind why = tt
    fetch-refuse name most f there kind why = absurd kind

    pub released-refuse : (f : Fault) → IsOfFetch asked.released f → RefusesLong most_bytes files f → RefusesCheck asked files f
    released-refuse f kind why = fetch-refuse asked.released most_bytes f (survey, hr, (s, hs, inl (refl, refl))) kind why

    pub proof-refuse : (released : List ℕ) (f : Fault) → HoldsBytes files asked.released most_bytes released → IsOfFetch asked.proof f
        → RefusesLong most_proof_bytes files f → RefusesCheck asked files f
    proof-refuse released f held kind why = fetch-refuse asked.proof most_proof_bytes f (survey, hr, (s, hs, inr (refl, refl, released, held))) kind why

  -- ---- a release

  -- what was fetched and read is one, where no fetch changes the files
  pub all-held : {second third : Option Files} (audit : Audit) → second ≡ files → third ≡ second
      → HoldsRules files asked.rules audit.survey → HoldsRecords files asked.records audit.survey.fields audit.sheet
      → HoldsBytes second asked.released most_bytes audit.released → HoldsBytes third asked.proof most_proof_bytes audit.proof
      → HoldsRelease files asked audit
  all-held audit p q rules records released proof =
      record { rules = rules; records = records; released = rw p at released; proof = rw (q, p) at proof }

  module _ (audit : Audit) (held : HoldsRelease files asked audit) where
    -- an audit that refuses it says what is wrong with it
    pub audit-refuse : (r : Result (Vec ℕ Global) Fault) → IfErr r (RefusesAudit audit) → IfErr r (λ f. RefusesCheck asked files f)
    audit-refuse (Ok line) why = tt
    audit-refuse (Err (fault.Rejected line reason)) (first, invalid) = (audit, held, invalid, first)
    audit-refuse (Err fault.OutOfMemory) why = tt
    audit-refuse (Err f) why = absurd why

    -- a valid one is accepted
    pub accepted : (r : Result (Vec ℕ Global) Fault) → IfOk r (λ line. IsValidLine audit line.items) → IfOk r (λ line. Accepts asked files line.items)
    accepted (Ok line) is = (
      length audit.sheet.rows,
      is.released,
      is.text,
      each-told files (λ o h. record { audit = audit; held = h; valid = is.valid; shown = is.shown; records = refl; released = is.count })
          (where-told files (λ o. HoldsRelease o asked audit) held),
    )
    accepted (Err f) is = tt

-- ---- refusals of the rules or the records

-- a check may be refused for them
pub input-kind : (f : Fault) → IsOfInput f → IsOfCheck f
input-kind (fault.Rules line kind) of_input = tt
input-kind (fault.Records what) of_input = tt
input-kind (fault.Read name) of_input = tt
input-kind (fault.TooLong name) of_input = tt
input-kind fault.OutOfMemory of_input = tt
input-kind f of_input = absurd of_input

-- and they say what is wrong with its files
pub input-refuse : (asked : CheckAsked) (files : Option Files) (f : Fault) → IsOfInput f → RefusesInput asked.rules asked.records files f
    → RefusesCheck asked files f
input-refuse asked files (fault.TooLong name) kind why = inl why
input-refuse asked files (fault.Read name) kind why = inl why
input-refuse asked files (fault.Rejected line reason) kind why = absurd kind
input-refuse asked files f kind why = why

-- ---- an audit by itself

module _ (audit : Audit) where
  -- the line of a valid release
  pub valid-line : (total given : ℕ) (r : Result (Vec ℕ Global) Fault) → IsValidRelease audit → Shows audit → length audit.sheet.rows ≡ total
      → IsReleasedCount audit given → IfOk r (λ line. line.items ≡ valid_text total given) → IfOk r (λ line. IsValidLine audit line.items)
  valid-line total given (Ok line) valid shown many count is =
      record { valid = valid; shown = shown; released = given; count = count; text = rw many is }
  valid-line total given (Err f) valid shown many count is = tt

  -- want of memory
  pub memory-refused : (r : Result (Vec ℕ Global) Fault) → IfErr r (λ f. f ≡ fault.OutOfMemory) → IfErr r (RefusesAudit audit)
  memory-refused (Ok line) memory = tt
  memory-refused (Err f) memory = rw memory tt

  -- what the check found
  found-refused : (told : CheckFault) → IfRejected {X = ℕ} (Err told) (IsFirstFailure audit)
      → IfRejected {X = ℕ} (Err told) (λ line why. ¬ IsValidRelease audit) → RefusesAudit audit (check_fault told)
  found-refused (check.Rejected line why) first invalid = (first line why refl, invalid line why refl)
  found-refused check.OutOfMemory first invalid = tt

  -- or want of memory for telling it
  pub told-refused : (told : CheckFault) (f : Fault) → IfRejected {X = ℕ} (Err told) (IsFirstFailure audit)
      → IfRejected {X = ℕ} (Err told) (λ line why. ¬ IsValidRelease audit) → (f ≡ check_fault told) ⊎ (f ≡ fault.OutOfMemory) → RefusesAudit audit f
  told-refused told f first invalid (inl same) = rw same (found-refused told first invalid)
  told-refused told f first invalid (inr memory) = rw memory tt

  -- ---- how an audit ends

  -- a check may be refused for it
  pub audit-kind : (r : Result (Vec ℕ Global) Fault) → IfErr r (RefusesAudit audit) → IfErr r IsOfCheck
  audit-kind (Ok line) why = tt
  audit-kind (Err (fault.Rejected line reason)) why = tt
  audit-kind (Err fault.OutOfMemory) why = tt
  audit-kind (Err f) why = absurd why

  -- it is no fault of the desk
  pub audit-faults : (r : Result (Vec ℕ Global) Fault) (faults : ℕ) → IfErr r (RefusesAudit audit) → faults_after r faults ≡ faults
  audit-faults (Ok line) faults why = refl
  audit-faults (Err (fault.Rejected line reason)) faults why = refl
  audit-faults (Err fault.OutOfMemory) faults why = refl
  audit-faults (Err f) faults why = absurd why

  -- all calls were made before it
  pub audit-calls : (a b : Option (List Asked)) (order : List Asked) (r : Result (Vec ℕ Global) Fault) → IfErr r (RefusesAudit audit)
      → PutsOnRecord a b (λ calls. calls ≡ order) → PutsOnRecord a b (AreCallsOf order r)
  audit-calls a b order (Ok line) why calls = calls
  audit-calls a b order (Err (fault.Rejected line reason)) why calls =
      told-calls a b order (check.Rejected line reason) (fault.Rejected line reason) (inl refl) calls
  audit-calls a b order (Err fault.OutOfMemory) why calls = told-calls a b order check.OutOfMemory fault.OutOfMemory (inl refl) calls
  audit-calls a b order (Err f) why calls = absurd why
