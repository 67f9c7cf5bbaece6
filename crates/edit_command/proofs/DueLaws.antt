-- No two statuses are due of the rules and the records of an edit, and none where they were read.
use Rattle.std.proofs.Common.{◌≡◌, ◌⊎◌, ℕ, List, Option, None, Some, inl, inr, refl, subst, sym}
use Rattle.std.specs.Prelude.{⊤}
use Rattle.edit_desk.specs.Desk.{Files, IsLonger}
use Rattle.edit_model.specs.Parts.{SurveyParts}
use Rattle.record_text.specs.Sheets.{IsSheet, SheetParts}
use Rattle.run_parts.specs.Faults.{fault_status}
use Rattle.run_parts.specs.Limits.{most_bytes}
use Rattle.run_parts.specs.Parts.{IsOfRecords, IsOfRules, RefusesRecords, RefusesRules}
use Rattle.run_parts.specs.Readings.{AnswersDue, HoldsRecords, HoldsRules, HoldsText, IsInputDue, WithRules}
use Rattle.run_parts.specs.declared.fault.Fault.{Fault}
use Rattle.run_parts.specs.declared.fault.Fault.TheVariants as fault
use Rattle.run_parts.specs.declared.status.Status.{Status}
use Rattle.run_parts.specs.declared.status.Status.TheVariants as status
use Rattle.run_parts.proofs.HeldLaws.{not_longer, not_unread, not_unread_records, one_survey, weaker}
use Rattle.edit_command.specs.ClassFields.{HasClass}
use Rattle.edit_command.specs.inner.EitherRun.{IsEitherDue, RefusesClass}

-- the survey has the class field that is asked for, if one is
abbrev pub HasAsked : Option (List ℕ) → SurveyParts → Type 0
HasAsked None survey = ⊤
HasAsked (Some class) survey = HasClass survey.fields class

module _ (rules records : List ℕ) (files : Files) where
  -- the rules have no reading
  abbrev RulesUnread : Type 0
  RulesUnread = IsInputDue rules records files status.Rules

  -- the records have none, by the fields of the survey
  abbrev RecordsUnread : SurveyParts → Type 0
  RecordsUnread survey = HoldsText (Some files) records (λ bytes. (sheet : SheetParts) → ¬ IsSheet survey.fields bytes sheet)

  module _ (class : Option (List ℕ)) where
    -- a status is due of rules that have to have the class field, before the records are looked at
    abbrev IsDueWith : Status → Type 0
    IsDueWith status.TooLong =
        IsLonger files rules most_bytes ⊎ WithRules (Some files) rules (λ survey. HasAsked class survey × IsLonger files records most_bytes)
    IsDueWith status.Rules = RulesUnread
    IsDueWith status.Class = WithRules (Some files) rules (λ survey. ¬ HasAsked class survey)
    IsDueWith status.Records = WithRules (Some files) rules (λ survey. HasAsked class survey × RecordsUnread survey)
    IsDueWith answer = ⊥

    -- one reading of the rules has the class field where another has
    both_have : (a b : SurveyParts) → HoldsRules (Some files) rules a → HoldsRules (Some files) rules b → HasAsked class a → HasAsked class b
    both_have a b ha hb has = subst (HasAsked class) (one_survey files rules a b ha hb) has

    -- ---- one status is due

    long_rules : IsDueWith status.TooLong → RulesUnread → ⊥
    long_rules (inl long) unread = not_longer files rules most_bytes unread long
    long_rules (inr (survey, hr, more)) unread = not_unread files rules survey hr unread

    long_class : IsDueWith status.TooLong → IsDueWith status.Class → ⊥
    long_class (inl long) (other, ho, lacks) = not_longer files rules most_bytes ho long
    long_class (inr (survey, hr, (has, long))) (other, ho, lacks) = lacks (both_have survey other hr ho has)

    long_records : IsDueWith status.TooLong → IsDueWith status.Records → ⊥
    long_records (inl long) (other, ho, more) = not_longer files rules most_bytes ho long
    long_records (inr (survey, hr, (has, long))) (other, ho, (had, unread)) = not_longer files records most_bytes unread long

    rules_class : RulesUnread → IsDueWith status.Class → ⊥
    rules_class unread (survey, hr, lacks) = not_unread files rules survey hr unread

    rules_records : RulesUnread → IsDueWith status.Records → ⊥
    rules_records unread (survey, hr, more) = not_unread files rules survey hr unread

    class_records : IsDueWith status.Class → IsDueWith status.Records → ⊥
    class_records (survey, hr, lacks) (other, ho, (has, unread)) = lacks (both_have other survey ho hr has)

    one_due : (a b : Status) → IsDueWith a → IsDueWith b → a ≡ b
    one_due status.TooLong status.TooLong h k = refl
    one_due status.TooLong status.Rules h k = absurd (long_rules h k)
    one_due status.TooLong status.Class h k = absurd (long_class h k)
    one_due status.TooLong status.Records h k = absurd (long_records h k)
    one_due status.TooLong b h k = absurd k
    one_due status.Rules status.Rules h k = refl
    one_due status.Rules status.TooLong h k = absurd (long_rules k h)
    one_due status.Rules status.Class h k = absurd (rules_class h k)
    one_due status.Rules status.Records h k = absurd (rules_records h k)
    one_due status.Rules b h k = absurd k
    one_due status.Class status.Class h k = refl
    one_due status.Class status.TooLong h k = absurd (long_class k h)
    one_due status.Class status.Rules h k = absurd (rules_class k h)
    one_due status.Class status.Records h k = absurd (class_records h k)
    one_due status.Class b h k = absurd k
    one_due status.Records status.Records h k = refl
    one_due status.Records status.TooLong h k = absurd (long_records k h)
    one_due status.Records status.Rules h k = absurd (rules_records k h)
    one_due status.Records status.Class h k = absurd (class_records k h)
    one_due status.Records b h k = absurd k
    one_due a b h k = absurd h

    -- ---- no status is due of what was read

    not_due : (survey : SurveyParts) (s : SheetParts) → HoldsRules (Some files) rules survey → HasAsked class survey
        → HoldsRecords (Some files) records survey.fields s → (due : Status) → IsDueWith due → ⊥
    not_due survey s hr has hs status.TooLong (inl long) = not_longer files rules most_bytes hr long
    not_due survey s hr has hs status.TooLong (inr (other, ho, (had, long))) = not_longer files records most_bytes hs long
    not_due survey s hr has hs status.Rules unread = not_unread files rules survey hr unread
    not_due survey s hr has hs status.Class (other, ho, lacks) = lacks (both_have survey other hr ho has)
    not_due survey s hr has hs status.Records (other, ho, (had, unread)) =
        not_unread_records files records survey other s (one_survey files rules survey other hr ho) hs unread
    not_due survey s hr has hs answer due = due

  -- what is due of an edit is due of such rules
  with_class : (class : Option (List ℕ)) (answer : Status) → IsEitherDue rules records class files answer → IsDueWith class answer
  with_class None status.TooLong (inl long) = inl long
  with_class None status.TooLong (inr (survey, hr, long)) = inr (survey, hr, (tt, long))
  with_class None status.Rules unread = unread
  with_class None status.Records (survey, hr, unread) = (survey, hr, (tt, unread))
  with_class None answer due = absurd due
  with_class (Some class) status.TooLong due = due
  with_class (Some class) status.Rules due = due
  with_class (Some class) status.Class due = due
  with_class (Some class) status.Records due = due
  with_class (Some class) answer due = absurd due

  module _ (class : Option (List ℕ)) where
    -- ---- answers

    -- a status that is due answers what is due
    answered : (answer : Status) → IsDueWith class answer → AnswersDue (IsEitherDue rules records class files) answer
    answered answer here s due = inl (one_due class answer s here (with_class class s due))

    -- so does that of a refusal of the rules
    pub rules_answer : (f : Fault) → IsOfRules rules f → RefusesRules rules (Some files) f
        → AnswersDue (IsEitherDue rules records class files) (fault_status f)
    rules_answer (fault.Rules line k) kind why = answered status.Rules (weaker (Some files) rules most_bytes (λ bytes none. none.unread) why)
    rules_answer (fault.Read name) kind why = λ s due. inr (inl refl)
    rules_answer (fault.TooLong name) kind why = answered status.TooLong (inl (subst (λ (n : List ℕ). IsLonger files n most_bytes) kind why))
    rules_answer fault.OutOfMemory kind why = λ s due. inr (inr refl)
    rules_answer f kind why = absurd kind

    module _ (survey : SurveyParts) (hr : HoldsRules (Some files) rules survey) where
      -- and of the class field
      pub class_answer : (f : Fault) → RefusesClass survey.fields class f → AnswersDue (IsEitherDue rules records class files) (fault_status f)
      class_answer (fault.Class name) (asked, lacks) =
          answered status.Class (survey, hr, subst (λ (c : Option (List ℕ)). ¬ HasAsked c survey) (sym asked) lacks)
      class_answer fault.OutOfMemory why = λ s due. inr (inr refl)
      class_answer f why = absurd why

      module _ (has : HasAsked class survey) where
        -- and of the records
        pub records_answer : (f : Fault) → IsOfRecords records f → RefusesRecords records survey.fields (Some files) f
            → AnswersDue (IsEitherDue rules records class files) (fault_status f)
        records_answer (fault.Records what) kind why =
            answered status.Records (survey, hr, (has, weaker (Some files) records most_bytes (λ bytes none. none.unread) why))
        records_answer (fault.Read name) kind why = λ s due. inr (inl refl)
        records_answer (fault.TooLong name) kind why =
            answered status.TooLong (inr (survey, hr, (has, subst (λ (n : List ℕ). IsLonger files n most_bytes) kind why)))
        records_answer fault.OutOfMemory kind why = λ s due. inr (inr refl)
        records_answer f kind why = absurd kind

        -- where both were read, any status answers what is due
        pub read_answer : (s : SheetParts) → HoldsRecords (Some files) records survey.fields s → (answer : Status)
            → AnswersDue (IsEitherDue rules records class files) answer
        read_answer s hs answer other due = absurd (not_due class survey s hr has hs other (with_class class other due))
