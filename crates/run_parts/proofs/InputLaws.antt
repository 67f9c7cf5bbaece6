-- What the reading of the rules and of the records shows of the files, and which status is due.
use Rattle.std.proofs.Common.{◌≡◌, ◌⊎◌, ℕ, List, Option, Some, IfSome, inl, inr, refl, subst}
use Rattle.edit_model.specs.Parts.{SurveyParts}
use Rattle.record_text.specs.Sheets.{SheetParts}
use Rattle.edit_desk.specs.Desk.{Files, IsLonger}
use Rattle.run_parts.specs.Faults.{IsOfStores, fault_status}
use Rattle.run_parts.specs.Readings.{AnswersDue, HoldsRecords, HoldsRules, IsInputDue, RefusesInput, WithSheet}
use Rattle.run_parts.specs.Parts.{IsOfRecords, IsOfRules, RefusesRecords, RefusesRules}
use Rattle.run_parts.specs.declared.fault.Fault.{Fault}
use Rattle.run_parts.specs.declared.fault.Fault.TheVariants as fault
use Rattle.run_parts.specs.declared.status.Status.{Status}
use Rattle.run_parts.specs.declared.status.Status.TheVariants as status
use Rattle.run_parts.proofs.HeldLaws.{not_longer, not_unread, not_unread_records, one_survey, weaker}
use Rattle.run_parts.proofs.ToldLaws.{both-told, where-told}
use Rattle.run_parts.specs.Limits.{most_bytes}

-- a fault that says nothing of the files
abbrev pub IsBeside : Fault → Type 0
IsBeside (fault.Read name) = Unit {0}
IsBeside (fault.Write name) = Unit {0}
IsBeside fault.OutOfMemory = Unit {0}
IsBeside f = ⊥

module _ (rules records : List ℕ) (files : Files) where
  -- both were read
  abbrev pub BothRead : Type 0
  BothRead = WithSheet (Some files) rules records (λ survey s. Unit {0})

  -- a status is due of the rules and the records, or they were read
  abbrev pub IsDueOrRead : Status → Type 0
  IsDueOrRead answer = IsInputDue rules records files answer ⊎ BothRead

  -- ---- no status is due of what was read

  module _ (survey : SurveyParts) (s : SheetParts) (hr : HoldsRules (Some files) rules survey) (hs : HoldsRecords (Some files) records survey.fields s) where
    pub read-not-due : (due : Status) → IsInputDue rules records files due → ⊥
    read-not-due status.TooLong (inl long) = not_longer files rules most_bytes hr long
    read-not-due status.TooLong (inr (other, held, long)) = not_longer files records most_bytes hs long
    read-not-due status.Rules unread = not_unread files rules survey hr unread
    read-not-due status.Records (other, held, unread) = not_unread_records files records survey other s (one_survey files rules survey other hr held) hs unread
    read-not-due answer due = due

    pub read-due : (answer : Status) → AnswersDue (IsInputDue rules records files) answer
    read-due answer other due = absurd (read-not-due other due)

  -- ---- one status is due

  one-due : (a b : Status) → IsInputDue rules records files a → IsInputDue rules records files b → a ≡ b
  one-due status.TooLong status.TooLong h k = refl
  one-due status.TooLong status.Rules (inl long) k = absurd (not_longer files rules most_bytes k long)
  one-due status.TooLong status.Rules (inr (survey, hr, long)) k = absurd (not_unread files rules survey hr k)
  one-due status.TooLong status.Records (inl long) (other, held, unread) = absurd (not_longer files rules most_bytes held long)
  one-due status.TooLong status.Records (inr (survey, hr, long)) (other, held, unread) = absurd (not_longer files records most_bytes unread long)
  one-due status.TooLong b h k = absurd k
  one-due status.Rules status.Rules h k = refl
  one-due status.Rules status.TooLong h (inl long) = absurd (not_longer files rules most_bytes h long)
  one-due status.Rules status.TooLong h (inr (survey, hr, long)) = absurd (not_unread files rules survey hr h)
  one-due status.Rules status.Records h (other, held, unread) = absurd (not_unread files rules other held h)
  one-due status.Rules b h k = absurd k
  one-due status.Records status.Records h k = refl
  one-due status.Records status.TooLong (other, held, unread) (inl long) = absurd (not_longer files rules most_bytes held long)
  one-due status.Records status.TooLong (other, held, unread) (inr (survey, hr, long)) = absurd (not_longer files records most_bytes unread long)
  one-due status.Records status.Rules (other, held, unread) k = absurd (not_unread files rules other held k)
  one-due status.Records b h k = absurd k
  one-due a b h k = absurd h

  answered : (a : Status) → IsInputDue rules records files a → AnswersDue IsDueOrRead a
  answered a here s (inl due) = inl (one-due a s here due)
  answered a here s (inr (survey, hr, (sheet, hs, done))) = absurd (read-not-due survey sheet hr hs a here)

  -- ---- refusals of the records

  module _ (survey : SurveyParts) (hr : HoldsRules (Some files) rules survey) where
    pub records-due : (f : Fault) → IsOfRecords records f → RefusesRecords records survey.fields (Some files) f → AnswersDue IsDueOrRead (fault_status f)
    records-due (fault.Records what) kind why = answered status.Records (survey, hr, weaker (Some files) records most_bytes (λ bytes no. no.unread) why)
    records-due (fault.Read name) kind why = λ s due. inr (inl refl)
    records-due (fault.TooLong name) kind why = answered status.TooLong (inr (survey, hr, subst (λ (n : List ℕ). IsLonger files n most_bytes) kind why))
    records-due fault.OutOfMemory kind why = λ s due. inr (inr refl)
    records-due f kind why = absurd kind

  -- files that were read are refused for no fault but one that says nothing of them
  pub read-beside : (f : Fault) (survey : SurveyParts) (s : SheetParts) → HoldsRules (Some files) rules survey
      → HoldsRecords (Some files) records survey.fields s → RefusesInput rules records (Some files) f → IsBeside f
  read-beside (fault.Rules line k) survey s hr hs why = not_unread files rules survey hr (weaker (Some files) rules most_bytes (λ bytes no. no.unread) why)
  read-beside (fault.Records what) survey s hr hs (other, held, unread) =
      not_unread_records files records survey other s (one_survey files rules survey other hr held) hs
      (weaker (Some files) records most_bytes (λ bytes none. none.unread) unread)
  read-beside (fault.TooLong name) survey s hr hs (inl same, long) = not_longer files rules most_bytes hr
      (subst (λ (n : List ℕ). IsLonger files n most_bytes) same long)
  read-beside (fault.TooLong name) survey s hr hs (inr (same, (other, held, done)), long) =
      not_longer files records most_bytes hs (subst (λ (n : List ℕ). IsLonger files n most_bytes) same long)
  read-beside (fault.Read name) survey s hr hs why = tt
  read-beside (fault.Write name) survey s hr hs why = tt
  read-beside fault.OutOfMemory survey s hr hs why = tt
  read-beside f survey s hr hs why = why

-- ---- refusals, of files that are told or not

module _ (rules records : List ℕ) (files : Option Files) where
  -- records are refused for what their reading says, where the rules were read
  pub records-refuse : (survey : SurveyParts) → HoldsRules files rules survey → (f : Fault) → IsOfRecords records f
      → RefusesRecords records survey.fields files f → RefusesInput rules records files f
  records-refuse survey hr (fault.Records what) kind why = (survey, hr, why)
  records-refuse survey hr (fault.Read name) kind why = inr (kind, (survey, hr, tt))
  records-refuse survey hr (fault.TooLong name) kind why = (inr (kind, (survey, hr, tt)), why)
  records-refuse survey hr fault.OutOfMemory kind why = tt
  records-refuse survey hr f kind why = absurd kind

  -- the rules are refused for what their reading says
  pub rules-refuse-input : (f : Fault) → IsOfRules rules f → RefusesRules rules files f → RefusesInput rules records files f
  rules-refuse-input (fault.Rules line k) kind why = why
  rules-refuse-input (fault.Read name) kind why = inl kind
  rules-refuse-input (fault.TooLong name) kind why = (inl kind, why)
  rules-refuse-input fault.OutOfMemory kind why = tt
  rules-refuse-input f kind why = absurd kind

  -- of rules and records that were read, no status is due
  pub told-read-due : (survey : SurveyParts) (s : SheetParts) → HoldsRules files rules survey → HoldsRecords files records survey.fields s
      → (answer : Status) → IfSome files (λ o. AnswersDue (IsInputDue rules records o) answer)
  told-read-due survey s hr hs answer =
      both-told files (λ o r t. read-due rules records o survey s r t answer)
      (where-told files (λ o. HoldsRules o rules survey) hr) (where-told files (λ o. HoldsRecords o records survey.fields s) hs)

  -- a fault of a store says nothing of the files
  pub stores-refuse : (f : Fault) → IsOfStores f → RefusesInput rules records files f
  stores-refuse (fault.Write name) kind = tt
  stores-refuse fault.OutOfMemory kind = tt
  stores-refuse f kind = absurd kind
