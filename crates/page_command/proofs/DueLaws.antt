-- One status at most is due of the four files, and none of files that were read and fit.
use Rattle.std.proofs.Common.{◌≡◌, ◌⊎◌, ◌∙◌, List, Some, ℕ, length, inl, inr, refl, subst, sym}
use Rattle.edit_desk.specs.Desk.{Files, IsLonger}
use Rattle.edit_model.specs.Parts.{SurveyParts}
use Rattle.record_text.specs.Sheets.{IsSheet, SheetParts}
use Rattle.reason_lines.specs.ReasonFiles.{AreReasons}
use Rattle.reason_lines.specs.declared.reading.Reasons.{Reasons}
use Rattle.command_words.specs.Asked.{PageAsked}
use Rattle.run_parts.specs.Faults.{IsOfInput, fault_status}
use Rattle.run_parts.specs.Limits.{most_bytes}
use Rattle.run_parts.specs.Readings.{AnswersDue, HoldsRecords, HoldsRules, HoldsText, IsInputDue, RefusesInput}
use Rattle.run_parts.specs.declared.fault.Fault.{Fault}
use Rattle.run_parts.specs.declared.fault.Fault.TheVariants as fault
use Rattle.run_parts.specs.declared.status.Status.{Status}
use Rattle.run_parts.specs.declared.status.Status.TheVariants as status
use Rattle.run_parts.proofs.HeldLaws.{not_longer, weaker}
use Rattle.run_parts.proofs.InputLaws.{IsBeside, read-beside, read-not-due}
use Rattle.page_command.specs.PageFaults.{IsFileDue, IsPageDue, IsReasonsDue, IsReleasedDue, IsUnfit, RefusesPage}
use Rattle.release_figures.specs.Releases.{ReleaseParts}
use Rattle.page_command.specs.PageSources.{HasItsRows, HoldsReasons, HoldsSources}
use Rattle.page_command.specs.declared.page_fault.PageFault.{PageFault}
use Rattle.page_command.specs.declared.page_fault.PageFault.TheVariants.{Reasons as ReasonsFile, Released, Rows}
use Rattle.page_command.specs.declared.refusal.PageRefusal.{PageRefusal}
use Rattle.page_command.specs.declared.refusal.PageRefusal.TheVariants.{Shared, Unfit}
use Rattle.page_command.specs.inner.PageParts.{AreNoReasonLines, AreNoReleased, Refuses, RefusesFile, RefusesRows, refusal_status}
use Rattle.page_command.proofs.SourceLaws.{both_claims, of_released, of_sheet, one_reasons, some_released, sources_of}

-- a refusal that says nothing of the files
abbrev pub SaysNothing : PageRefusal → Type 0
SaysNothing (Shared f) = IsBeside f
SaysNothing (Unfit what) = ⊥

-- ---- one file

module _ (files : Files) (name : List ℕ) (IsNone : List ℕ → Type 0) where
  -- one status is due of a file
  one_file_due : (a b : Status) → IsFileDue files name IsNone a → IsFileDue files name IsNone b → a ≡ b
  one_file_due status.TooLong status.TooLong h k = refl
  one_file_due status.TooLong status.Rejected h k = absurd (not_longer files name most_bytes k h)
  one_file_due status.TooLong b h k = absurd k
  one_file_due status.Rejected status.Rejected h k = refl
  one_file_due status.Rejected status.TooLong h k = absurd (not_longer files name most_bytes h k)
  one_file_due status.Rejected b h k = absurd k
  one_file_due a b h k = absurd h

  -- and none of a file that was read
  read_file : {P : List ℕ → Type 0} → HoldsText (Some files) name P → ((bytes : List ℕ) → P bytes → IsNone bytes → ⊥)
      → (a : Status) → IsFileDue files name IsNone a → ⊥
  read_file read not status.TooLong h = not_longer files name most_bytes read h
  read_file read not status.Rejected h = not h.bytes (both_claims files name read h) h.claim
  read_file read not a h = h

module _ (asked : PageAsked) (files : Files) where
  -- ---- the released file

  -- a sheet and reasons can't be read from bytes
  abbrev NoSheet : SurveyParts → List ℕ → Type 0
  NoSheet survey bytes = (sheet : SheetParts) → ¬ IsSheet survey.fields bytes sheet

  abbrev NoReasons : SurveyParts → SheetParts → List ℕ → Type 0
  NoReasons survey records bytes = (reasons : Reasons) → ¬ AreReasons survey.fields (length records.rows) bytes reasons

  module _ (survey : SurveyParts) (records : SheetParts) (hr : HoldsRules (Some files) asked.rules survey)
      (hs : HoldsRecords (Some files) asked.records survey.fields records) where
    -- no status is due of a released file that was read
    released_read : (released : SheetParts) → HoldsRecords (Some files) asked.released survey.fields released
        → (a : Status) → IsReleasedDue asked files a → ⊥
    released_read released hd a due =
        read_file files asked.released (NoSheet survey) hd (λ bytes reads none. none released reads.read) a
        (of_sheet asked files survey records hr hs (λ s t. IsFileDue files asked.released (NoSheet s) a) due)

    -- where one is, no other is due of the four files
    released_due : (a : Status) → IsReleasedDue asked files a → AnswersDue (IsPageDue asked files) a
    released_due a here other (inl due) = absurd (read-not-due asked.rules asked.records files survey records hr hs other due)
    released_due a here other (inr (inl due)) =
        inl (one_file_due files asked.released (NoSheet survey) a other
        (of_sheet asked files survey records hr hs (λ s t. IsFileDue files asked.released (NoSheet s) a) here)
        (of_sheet asked files survey records hr hs (λ s t. IsFileDue files asked.released (NoSheet s) other) due))
    released_due a here other (inr (inr (inl (s, ho, (t, ht, (u, hu, due)))))) =
        let (v, hv) = of_sheet asked files survey records hr hs
        (λ s t. (u : SheetParts) × HoldsRecords (Some files) asked.released s.fields u) (s, ho, (t, ht, (u, hu))) in
        absurd (released_read v hv a here)
    released_due a here other (inr (inr (inr (is, sources, held, not)))) =
        let (v, hv) = of_sheet asked files survey records hr hs
        (λ s t. (u : SheetParts) × HoldsRecords (Some files) asked.released s.fields u)
        (sources.survey, held.rules, (sources.records, held.records, (sources.released, held.released))) in
        absurd (released_read v hv a here)

    -- a refusal of the released file
    pub released_refused : (r : PageRefusal) → RefusesFile asked.released (Some files) (AreNoReleased survey.fields) r
        → AnswersDue (IsPageDue asked files) (refusal_status r)
    released_refused (Shared (fault.Read n)) why = λ other due. inr (inl refl)
    released_refused (Shared (fault.TooLong n)) (kind, why) =
        released_due status.TooLong (survey, hr, (records, hs, subst (λ (n : List ℕ). IsLonger files n most_bytes) kind why))
    released_refused (Shared fault.OutOfMemory) why = λ other due. inr (inr refl)
    released_refused (Shared f) why = absurd why.0
    released_refused (Unfit (Released what)) why =
        released_due status.Rejected (survey, hr, (records, hs, weaker (Some files) asked.released most_bytes (λ bytes none. none.unread) why))
    released_refused (Unfit f) why = absurd why.claim

    -- ---- the reasons

    module _ (released : SheetParts) (hd : HoldsRecords (Some files) asked.released survey.fields released) where
      -- no status is due of reasons that were read
      reasons_read : (reasons : Reasons) → HoldsReasons (Some files) asked.reasons survey.fields (length records.rows) reasons
          → (a : Status) → IsReasonsDue asked files a → ⊥
      reasons_read reasons hn a due =
          read_file files asked.reasons (NoReasons survey records) hn (λ bytes reads none. none reasons reads.read) a
          (of_released asked files survey records hr hs released hd (λ s t u. IsFileDue files asked.reasons (NoReasons s t) a) due)

      -- where one is, no other is due of the four files
      reasons_due : (a : Status) → IsReasonsDue asked files a → AnswersDue (IsPageDue asked files) a
      reasons_due a here other (inl due) = absurd (read-not-due asked.rules asked.records files survey records hr hs other due)
      reasons_due a here other (inr (inl due)) = absurd (released_read released hd other due)
      reasons_due a here other (inr (inr (inl due))) =
          inl (one_file_due files asked.reasons (NoReasons survey records) a other
          (of_released asked files survey records hr hs released hd (λ s t u. IsFileDue files asked.reasons (NoReasons s t) a) here)
          (of_released asked files survey records hr hs released hd (λ s t u. IsFileDue files asked.reasons (NoReasons s t) other) due))
      reasons_due a here other (inr (inr (inr (is, sources, held, not)))) =
          let (v, hv) = of_released asked files survey records hr hs released hd
          (λ s t u. (v : Reasons) × HoldsReasons (Some files) asked.reasons s.fields (length t.rows) v)
          (some_released asked files sources held
          (λ s t u. (v : Reasons) × HoldsReasons (Some files) asked.reasons s.fields (length t.rows) v) (sources.reasons, held.reasons)) in
          absurd (reasons_read v hv a here)

      -- a refusal of the reasons
      pub reasons_refused : (r : PageRefusal) → RefusesFile asked.reasons (Some files) (AreNoReasonLines survey.fields (length records.rows)) r
          → AnswersDue (IsPageDue asked files) (refusal_status r)
      reasons_refused (Shared (fault.Read n)) why = λ other due. inr (inl refl)
      reasons_refused (Shared (fault.TooLong n)) (kind, why) =
          reasons_due status.TooLong
          (survey, hr, (records, hs, (released, hd, subst (λ (n : List ℕ). IsLonger files n most_bytes) kind why)))
      reasons_refused (Shared fault.OutOfMemory) why = λ other due. inr (inr refl)
      reasons_refused (Shared f) why = absurd why.0
      reasons_refused (Unfit (ReasonsFile what)) why =
          reasons_due status.Rejected
          (survey, hr, (records, hs, (released, hd, weaker (Some files) asked.reasons most_bytes (λ bytes none. none.unread) why)))
      reasons_refused (Unfit f) why = absurd why.claim

  -- ---- files that were read

  module _ (sources : ReleaseParts) (held : HoldsSources (Some files) asked sources) where
    -- but for the number of rows, nothing is due of them
    rows_due : (other : Status) → IsPageDue asked files other → (other ≡ status.Rejected) × ¬ HasItsRows sources
    rows_due other (inl due) =
        absurd (read-not-due asked.rules asked.records files sources.survey sources.records held.rules held.records other due)
    rows_due other (inr (inl due)) =
        absurd (released_read sources.survey sources.records held.rules held.records sources.released held.released other due)
    rows_due other (inr (inr (inl due))) =
        absurd (reasons_read sources.survey sources.records held.rules held.records sources.released held.released
        sources.reasons held.reasons other due)
    rows_due other (inr (inr (inr (is, more, there, not)))) =
        let IsOther : SurveyParts → SheetParts → SheetParts → Type 0 = λ s t u. (v : Reasons)
        × HoldsReasons (Some files) asked.reasons s.fields (length t.rows) v × ¬ HasItsRows (sources_of s t u v) in
        let (v, hv, none) = of_released asked files sources.survey sources.records held.rules held.records sources.released held.released
        IsOther (some_released asked files more there IsOther (more.reasons, there.reasons, not)) in
        let same = one_reasons files asked.reasons sources.survey.fields (length sources.records.rows) v sources.reasons hv held.reasons in
        (is, subst (λ (w : Reasons). ¬ HasItsRows (sources_of sources.survey sources.records sources.released w)) same none)

    -- nothing at all is where they fit
    pub fit_due : HasItsRows sources → (answer : Status) → AnswersDue (IsPageDue asked files) answer
    fit_due fits answer other due = absurd ((rows_due other due).1 fits)

    -- a refusal for other rows
    pub rows_refused : (r : PageRefusal) → RefusesRows sources r → AnswersDue (IsPageDue asked files) (refusal_status r)
    rows_refused (Shared f) memory = rw memory (λ other due. inr (inr refl))
    rows_refused (Unfit (Rows given kept)) why = λ other due. inl (sym (rows_due other due).0)
    rows_refused (Unfit f) why = absurd why

  -- ---- refusals, and what is due

  -- where the rules and the records were read, they are refused for no fault but one that says nothing of the files
  unread : (f : Fault) → IsOfInput f → (survey : SurveyParts) (records : SheetParts) → HoldsRules (Some files) asked.rules survey
      → HoldsRecords (Some files) asked.records survey.fields records → RefusesInput asked.rules asked.records (Some files) f → (other : Status)
      → (fault_status f ≡ other) ⊎ ((fault_status f ≡ status.ReadFault) ⊎ (fault_status f ≡ status.OutOfMemory))
  unread (fault.Read name) kind survey records hr hs why other = inr (inl refl)
  unread fault.OutOfMemory kind survey records hr hs why other = inr (inr refl)
  unread (fault.Write name) kind survey records hr hs why other = absurd kind
  unread f kind survey records hr hs why other = absurd (read-beside asked.rules asked.records files f survey records hr hs why)

  -- rules or records that are refused
  pub input_refused : (f : Fault) → IsOfInput f → RefusesInput asked.rules asked.records (Some files) f
      → AnswersDue (IsInputDue asked.rules asked.records files) (fault_status f) → AnswersDue (IsPageDue asked files) (fault_status f)
  input_refused f kind why answers other (inl due) = answers other due
  input_refused f kind why answers other (inr (inl (survey, hr, (records, hs, due)))) = unread f kind survey records hr hs why other
  input_refused f kind why answers other (inr (inr (inl (survey, hr, (records, hs, due))))) = unread f kind survey records hr hs why other
  input_refused f kind why answers other (inr (inr (inr (is, sources, held, not)))) =
      unread f kind sources.survey sources.records held.rules held.records why other

  -- the status of a file that does not fit is due
  unfit_due : (what : PageFault) → IsUnfit asked (Some files) what → IsPageDue asked files status.Rejected
  unfit_due (Released what) (survey, hr, (records, hs, why)) =
      inr (inl (survey, hr, (records, hs, weaker (Some files) asked.released most_bytes (λ bytes none. none.unread) why)))
  unfit_due (ReasonsFile what) (survey, hr, (records, hs, (released, hd, why))) =
      inr (inr (inl (
        survey,
        hr,
        (
          records,
          hs,
          (
            released,
            hd,
            weaker (Some files) asked.reasons most_bytes (λ bytes none. none.unread) why,
          ),
        ),
      )))
  unfit_due (Rows given kept) (sources, held, is, same, differ) =
      inr (inr (inr (refl, sources, held, λ fits. differ (is ∙ fits ∙ sym same))))

  -- and so is that of a file that is too long
  long_due : (name : List ℕ) → RefusesPage asked (Some files) (fault.TooLong name)
      → RefusesInput asked.rules asked.records (Some files) (fault.TooLong name) ⊎ IsPageDue asked files status.TooLong
  long_due name (inl input, long) = inl (input, long)
  long_due name (inr (inl (same, (survey, hr, (records, hs, done)))), long) =
      inr (inr (inl (survey, hr, (records, hs, subst (λ (n : List ℕ). IsLonger files n most_bytes) same long))))
  long_due name (inr (inr (same, (survey, hr, (records, hs, (released, hd, done))))), long) =
      inr (inr (inr (inl (survey, hr, (records, hs, (released, hd, subst (λ (n : List ℕ). IsLonger files n most_bytes) same long))))))

  -- files that were read and fit are refused for no other
  pub fit_beside : (sources : ReleaseParts) → HoldsSources (Some files) asked sources → HasItsRows sources → (r : PageRefusal)
      → Refuses asked (Some files) r → SaysNothing r
  fit_beside sources held fits (Unfit what) why = (rows_due sources held status.Rejected (unfit_due what why)).1 fits
  fit_beside sources held fits (Shared (fault.Read name)) why = tt
  fit_beside sources held fits (Shared (fault.TooLong name)) why = by (long_due name why)
    where
      by : RefusesInput asked.rules asked.records (Some files) (fault.TooLong name) ⊎ IsPageDue asked files status.TooLong → ⊥
      by (inl input) =
          read-beside asked.rules asked.records files (fault.TooLong name) sources.survey sources.records held.rules held.records input
      by (inr due) = (rows_due sources held status.TooLong due).1 fits
  fit_beside sources held fits (Shared f) why =
      read-beside asked.rules asked.records files f sources.survey sources.records held.rules held.records why

  -- no run is due to be done
  done_not_due : IsPageDue asked files status.Done → ⊥
  done_not_due (inl due) = due
  done_not_due (inr (inl (survey, hr, (records, hs, due)))) = due
  done_not_due (inr (inr (inl (survey, hr, (records, hs, (released, hd, due)))))) = due
  done_not_due (inr (inr (inr (is, sources, held, not)))) = cc is

  -- so where a run that was done answers what is due, nothing is
  pub any_answer : AnswersDue (IsPageDue asked files) status.Done → (answer : Status) → AnswersDue (IsPageDue asked files) answer
  any_answer done answer other due = absurd (by (done other due))
    where
      by : (status.Done ≡ other) ⊎ ((status.Done ≡ status.ReadFault) ⊎ (status.Done ≡ status.OutOfMemory)) → ⊥
      by (inl same) = done_not_due (subst (IsPageDue asked files) (sym same) due)
      by (inr (inl read)) = cc read
      by (inr (inr memory)) = cc memory
