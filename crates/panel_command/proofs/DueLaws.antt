-- The three files are read in one way, and no two statuses are due of them.
use Rattle.std.proofs.Common.{◌≡◌, ◌⊎◌, ℕ, Bool, true, false, List, [], ◌∷◌, Some, inl, inr, refl, subst, sym}
use Rattle.edit_desk.specs.Desk.{Files, IsLonger}
use Rattle.edit_model.specs.FieldSets.{has_number}
use Rattle.edit_model.specs.Parts.{SurveyParts, survey_of}
use Rattle.edit_model.specs.declared.field.Field.{Field}
use Rattle.edit_model.proofs.FieldSetLaws.{same_set}
use Rattle.record_text.specs.Columns.{columns_of}
use Rattle.record_text.specs.Sheets.{SheetParts}
use Rattle.command_words.specs.Asked.{PanelAsked}
use Rattle.panel_files.specs.LastFields.{AreLastFields, last_fields, own_fields}
use Rattle.panel_release.specs.PanelReleases.{PanelCase}
use Rattle.run_parts.specs.Faults.{fault_status}
use Rattle.run_parts.specs.Limits.{most_bytes}
use Rattle.run_parts.specs.Readings.{AnswersDue, HoldsRules}
use Rattle.run_parts.specs.declared.fault.Fault.{Fault}
use Rattle.run_parts.specs.declared.fault.Fault.TheVariants as fault
use Rattle.run_parts.specs.declared.fault.RecordsFault.{RecordsFault}
use Rattle.run_parts.specs.declared.status.Status.{Status}
use Rattle.run_parts.specs.declared.status.Status.TheVariants as status
use Rattle.run_parts.proofs.HeldLaws.{not_longer, not_unread, not_unread_records, one_sheet, one_survey, weaker}
use Rattle.run_parts.proofs.InputLaws.{IsBeside}
use Rattle.panel_command.specs.PanelInput.{AreUnread, HoldsKeyed, HoldsPanel, IsOfPanelInput, IsPanelDue, RefusesPanel, RefusesRows, WithLast}

-- ---- the last fields

one_flag : (a b : Bool) → (a ≡ true → b ≡ true) → (b ≡ true → a ≡ true) → a ≡ b
one_flag true true h k = refl
one_flag true false h k = sym (h refl)
one_flag false true h k = k refl
one_flag false false h k = refl

-- there is one set of last fields
pub one_last : (fields : List Field) (a b : ℕ) → AreLastFields fields a → AreLastFields fields b → a ≡ b
one_last fields a b p q =
    same_set a b (λ f. one_flag (has_number a f) (has_number b f) (λ h. (q f).1 ((p f).0 h)) (λ h. (p f).1 ((q f).0 h)))

module _ (files : Files) where
  -- what is so of one reading of the rules and its last fields is so of another
  same_fields : (rules : List ℕ) (a b : SurveyParts) (s t : ℕ) (P : SurveyParts → ℕ → Type 0) → HoldsRules (Some files) rules a
      → HoldsRules (Some files) rules b → AreLastFields a.fields s → AreLastFields b.fields t → P a s → P b t
  same_fields rules a b s t P ha hb are other p =
      let survey = one_survey files rules a b ha hb in
      let set = one_last b.fields s t (subst (λ (v : SurveyParts). AreLastFields v.fields s) survey are) other in
      subst (P b) set (subst (λ (v : SurveyParts). P v s) survey p)

  -- ---- one file of rows

  module _ (name : List ℕ) (fields : List Field) (key : List ℕ) where
    -- rows that were read with their key are not unread
    keyed_read : (sheet : SheetParts) (column : ℕ) → HoldsKeyed (Some files) name fields key sheet column → AreUnread files name fields key → ⊥
    keyed_read sheet column h (inl unread) =
        not_unread_records files name (survey_of fields []) (survey_of fields []) sheet refl h.read unread
    keyed_read sheet column h (inr (other, held, lacks)) =
        lacks column (subst (λ (s : SheetParts). columns_of key s.header ≡ column ∷ [])
        (one_sheet files name fields sheet other h.read held) h.keyed)

    -- a file of rows that are unread is within the limit
    unread_short : AreUnread files name fields key → IsLonger files name most_bytes → ⊥
    unread_short (inl unread) long = not_longer files name most_bytes unread long
    unread_short (inr (sheet, held, lacks)) long = not_longer files name most_bytes held long

    -- rows that are refused are unread
    refused_unread : (what : RecordsFault) → RefusesRows (Some files) name fields key what → AreUnread files name fields key
    refused_unread what (inl unread) = inl (weaker (Some files) name most_bytes (λ bytes none. none.unread) unread)
    refused_unread what (inr (is, lacks)) = inr lacks

module _ (asked : PanelAsked) (files : Files) where
  -- the records were read with their key
  abbrev OwnRead : SurveyParts → ℕ → Type 0
  OwnRead survey set =
      (own : SheetParts) × (column : ℕ) × HoldsKeyed (Some files) asked.records (own_fields survey.fields set) asked.key own column

  -- and the rows of the last period
  abbrev LastRead : SurveyParts → ℕ → Type 0
  LastRead survey set =
      (last : SheetParts) × (column : ℕ) × HoldsKeyed (Some files) asked.last (last_fields survey.fields set) asked.key last column

  -- either are unread
  abbrev OwnUnread : SurveyParts → ℕ → Type 0
  OwnUnread survey set = AreUnread files asked.records (own_fields survey.fields set) asked.key

  abbrev LastUnread : SurveyParts → ℕ → Type 0
  LastUnread survey set = AreUnread files asked.last (last_fields survey.fields set) asked.key

  own_read : WithLast (Some files) asked OwnRead → WithLast (Some files) asked OwnUnread → ⊥
  own_read (a, ha, (s, are, read)) (b, hb, (t, other, unread)) =
      let (own, column, keyed) = same_fields files asked.rules a b s t OwnRead ha hb are other read in
      keyed_read files asked.records (own_fields b.fields t) asked.key own column keyed unread

  last_read : WithLast (Some files) asked LastRead → WithLast (Some files) asked LastUnread → ⊥
  last_read (a, ha, (s, are, read)) (b, hb, (t, other, unread)) =
      let (last, column, keyed) = same_fields files asked.rules a b s t LastRead ha hb are other read in
      keyed_read files asked.last (last_fields b.fields t) asked.key last column keyed unread

  -- ---- no status is due of what was read

  module _ (panel : PanelCase) (held : HoldsPanel (Some files) asked panel) where
    pub panel_not_due : (due : Status) → IsPanelDue asked files due → ⊥
    panel_not_due status.TooLong (inl long) = not_longer files asked.rules most_bytes held.rules long
    panel_not_due status.TooLong (inr (inl (survey, hr, long))) = not_longer files asked.records most_bytes held.own.read long
    panel_not_due status.TooLong (inr (inr (survey, hr, (set, are, (own, long))))) =
        not_longer files asked.last most_bytes held.last.read long
    panel_not_due status.Rules unread = not_unread files asked.rules panel.survey held.rules unread
    panel_not_due status.Records (inl unread) =
        own_read (panel.survey, held.rules, (panel.set, held.set, (panel.files.own, panel.files.own_key, held.own))) unread
    panel_not_due status.Records (inr (survey, hr, (set, are, (own, unread)))) =
        last_read (panel.survey, held.rules, (panel.set, held.set, (panel.files.last, panel.files.last_key, held.last)))
        (survey, hr, (set, are, unread))
    panel_not_due answer due = due

  -- ---- one status is due

  long_rules : IsPanelDue asked files status.TooLong → IsPanelDue asked files status.Rules → ⊥
  long_rules (inl long) unread = not_longer files asked.rules most_bytes unread long
  long_rules (inr (inl (survey, hr, long))) unread = not_unread files asked.rules survey hr unread
  long_rules (inr (inr (survey, hr, more))) unread = not_unread files asked.rules survey hr unread

  rules_records : IsPanelDue asked files status.Rules → IsPanelDue asked files status.Records → ⊥
  rules_records unread (inl (survey, hr, more)) = not_unread files asked.rules survey hr unread
  rules_records unread (inr (survey, hr, more)) = not_unread files asked.rules survey hr unread

  long_records : IsPanelDue asked files status.TooLong → IsPanelDue asked files status.Records → ⊥
  long_records (inl long) (inl (survey, hr, more)) = not_longer files asked.rules most_bytes hr long
  long_records (inl long) (inr (survey, hr, more)) = not_longer files asked.rules most_bytes hr long
  long_records (inr (inl (survey, hr, long))) (inl (other, ho, (set, are, unread))) =
      unread_short files asked.records (own_fields other.fields set) asked.key unread long
  long_records (inr (inl (survey, hr, long))) (inr (other, ho, (set, are, ((own, column, keyed), unread)))) =
      not_longer files asked.records most_bytes keyed.read long
  long_records (inr (inr (survey, hr, (set, are, (own, long))))) (inl unread) = own_read (survey, hr, (set, are, own)) unread
  long_records (inr (inr (survey, hr, (set, are, (own, long))))) (inr (other, ho, (last, these, (read, unread)))) =
      unread_short files asked.last (last_fields other.fields last) asked.key unread long

  one_due : (a b : Status) → IsPanelDue asked files a → IsPanelDue asked files b → a ≡ b
  one_due status.TooLong status.TooLong h k = refl
  one_due status.TooLong status.Rules h k = absurd (long_rules h k)
  one_due status.TooLong status.Records h k = absurd (long_records h k)
  one_due status.TooLong b h k = absurd k
  one_due status.Rules status.Rules h k = refl
  one_due status.Rules status.TooLong h k = absurd (long_rules k h)
  one_due status.Rules status.Records h k = absurd (rules_records h k)
  one_due status.Rules b h k = absurd k
  one_due status.Records status.Records h k = refl
  one_due status.Records status.TooLong h k = absurd (long_records k h)
  one_due status.Records status.Rules h k = absurd (rules_records k h)
  one_due status.Records b h k = absurd k
  one_due a b h k = absurd h

  -- ---- refusals

  -- a refusal says nothing of the files, or its status is due of them
  beside_or_due : (f : Fault) → RefusesPanel asked (Some files) f → IsBeside f ⊎ IsPanelDue asked files (fault_status f)
  beside_or_due (fault.Rules line kind) why = inr (weaker (Some files) asked.rules most_bytes (λ bytes none. none.unread) why)
  beside_or_due (fault.Records what) (survey, hr, (set, are, why)) =
      inr (inl (survey, hr, (set, are, refused_unread files asked.records (own_fields survey.fields set) asked.key what why)))
  beside_or_due (fault.Last what) (survey, hr, (set, are, (own, why))) =
      inr (inr (survey, hr, (set, are, (own, refused_unread files asked.last (last_fields survey.fields set) asked.key what why))))
  beside_or_due (fault.TooLong name) (inl same, long) =
      inr (inl (subst (λ (n : List ℕ). IsLonger files n most_bytes) same long))
  beside_or_due (fault.TooLong name) (inr (inl (same, (survey, hr, done))), long) =
      inr (inr (inl (survey, hr, subst (λ (n : List ℕ). IsLonger files n most_bytes) same long)))
  beside_or_due (fault.TooLong name) (inr (inr (same, (survey, hr, (set, are, (own, done))))), long) =
      inr (inr (inr (survey, hr, (set, are, (own, subst (λ (n : List ℕ). IsLonger files n most_bytes) same long)))))
  beside_or_due (fault.Read name) why = inl tt
  beside_or_due (fault.Write name) why = inl tt
  beside_or_due fault.OutOfMemory why = inl tt
  beside_or_due f why = absurd why

  -- files that were read are refused for no fault but one that says nothing of them
  pub panel_beside : (panel : PanelCase) → HoldsPanel (Some files) asked panel → (f : Fault) → RefusesPanel asked (Some files) f → IsBeside f
  panel_beside panel held f why = by (beside_or_due f why)
    where
      by : IsBeside f ⊎ IsPanelDue asked files (fault_status f) → IsBeside f
      by (inl beside) = beside
      by (inr due) = absurd (panel_not_due panel held (fault_status f) due)

  answered : (f : Fault) → IsOfPanelInput f → IsBeside f ⊎ IsPanelDue asked files (fault_status f)
      → AnswersDue (IsPanelDue asked files) (fault_status f)
  answered f kind (inr here) = λ other due. inl (one_due (fault_status f) other here due)
  answered (fault.Read name) kind (inl beside) = λ other due. inr (inl refl)
  answered fault.OutOfMemory kind (inl beside) = λ other due. inr (inr refl)
  answered (fault.Write name) kind (inl beside) = absurd kind
  answered f kind (inl beside) = absurd beside

  -- the status of a refusal answers what is due
  pub refused_answers : (f : Fault) → IsOfPanelInput f → RefusesPanel asked (Some files) f
      → AnswersDue (IsPanelDue asked files) (fault_status f)
  refused_answers f kind why = answered f kind (beside_or_due f why)
