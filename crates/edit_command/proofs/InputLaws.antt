-- Refusals of the rules, of the class field and of the records, told or not: their kinds, the calls up to them, their causes, and what is due.
use Rattle.std.proofs.Common.{◌≡◌, ◌∷◌, [], ℕ, List, Option, None, Some, IfSome, inl, inr, refl, subst}
use Rattle.edit_desk.specs.Desk.{Asked, Files, IsLonger, fetched}
use Rattle.edit_model.specs.Parts.{SurveyParts}
use Rattle.edit_model.specs.declared.field.Field.{Field}
use Rattle.record_text.specs.Sheets.{SheetParts}
use Rattle.run_parts.specs.Faults.{IsOfStores, fault_status}
use Rattle.run_parts.specs.Limits.{most_bytes}
use Rattle.run_parts.specs.Parts.{IsOfRecords, IsOfRules, RefusesRecords, RefusesRules}
use Rattle.run_parts.specs.Readings.{AnswersDue, HoldsRecords, HoldsRules}
use Rattle.run_parts.specs.Run.{AreCallsTo, faults_by}
use Rattle.run_parts.specs.declared.fault.Fault.{Fault}
use Rattle.run_parts.specs.declared.fault.Fault.TheVariants as fault
use Rattle.run_parts.specs.declared.status.Status.{Status}
use Rattle.run_parts.specs.declared.status.Status.TheVariants as status
use Rattle.run_parts.proofs.CallLaws.{input-calls}
use Rattle.run_parts.proofs.HeldLaws.{not_longer, not_unread, not_unread_records, one_survey, weaker}
use Rattle.run_parts.proofs.InputLaws.{IsBeside, read-beside, records-refuse, rules-refuse-input, stores-refuse}
use Rattle.run_parts.proofs.ToldLaws.{both-told, each-told, where-told}
use Rattle.edit_command.specs.ClassFields.{HasClass, IsClassAsked}
use Rattle.edit_command.specs.inner.EitherRun.{HoldsEither, IsEitherDue, IsOfEither, IsOfEitherInput, RefusesClass, RefusesEither}
use Rattle.edit_command.proofs.DueLaws.{HasAsked, class_answer, read_answer, records_answer, rules_answer}

-- the survey has the class field that was found
pub has_asked : (survey : SurveyParts) (class : Option (List ℕ)) (class_field : Option ℕ) → IsClassAsked survey.fields class class_field
    → HasAsked class survey
has_asked survey None class_field is = tt
has_asked survey (Some name) None is = absurd is
has_asked survey (Some name) (Some number) is = (number, is)

-- ---- kinds

-- what the rules are refused for, both files are
pub of-rules : (class : Option (List ℕ)) (rules : List ℕ) (f : Fault) → IsOfRules rules f → IsOfEitherInput class f
of-rules class rules (fault.Rules line k) kind = tt
of-rules class rules (fault.Read n) kind = tt
of-rules class rules (fault.TooLong n) kind = tt
of-rules class rules fault.OutOfMemory kind = tt
of-rules class rules f kind = absurd kind

-- and the class field
pub of-class : (fields : List Field) (class : Option (List ℕ)) (f : Fault) → RefusesClass fields class f → IsOfEitherInput class f
of-class fields class (fault.Class name) (asked, lacks) = asked
of-class fields class fault.OutOfMemory why = tt
of-class fields class f why = absurd why

-- and the records
pub of-records : (class : Option (List ℕ)) (records : List ℕ) (f : Fault) → IsOfRecords records f → IsOfEitherInput class f
of-records class records (fault.Records what) kind = tt
of-records class records (fault.Read n) kind = tt
of-records class records (fault.TooLong n) kind = tt
of-records class records fault.OutOfMemory kind = tt
of-records class records f kind = absurd kind

-- what both files are refused for, a run is
pub of-either : (class : Option (List ℕ)) (f : Fault) → IsOfEitherInput class f → IsOfEither class f
of-either None (fault.Rules line k) kind = tt
of-either None (fault.Class name) kind = absurd (cc)
of-either None (fault.Records what) kind = tt
of-either None (fault.Read n) kind = tt
of-either None (fault.TooLong n) kind = tt
of-either None fault.OutOfMemory kind = tt
of-either None f kind = absurd kind
of-either (Some class) (fault.Rules line k) kind = tt
of-either (Some class) (fault.Class name) kind = tt
of-either (Some class) (fault.Records what) kind = tt
of-either (Some class) (fault.Read n) kind = tt
of-either (Some class) (fault.TooLong n) kind = tt
of-either (Some class) fault.OutOfMemory kind = tt
of-either (Some class) f kind = absurd kind

-- and what stores are refused for
pub stores-either : (class : Option (List ℕ)) (f : Fault) → IsOfStores f → IsOfEither class f
stores-either None (fault.Write n) kind = tt
stores-either None fault.OutOfMemory kind = tt
stores-either None f kind = absurd kind
stores-either (Some class) (fault.Write n) kind = tt
stores-either (Some class) fault.OutOfMemory kind = tt
stores-either (Some class) f kind = absurd kind

-- ---- calls

-- the calls by which both are read
abbrev pub reads_of : List ℕ → List ℕ → List Asked
reads_of rules records = fetched rules ∷ fetched records ∷ []

-- those up to a refusal, whatever is called behind them
pub either-calls : (class : Option (List ℕ)) (rules records : List ℕ) (rest calls : List Asked) (f : Fault) → IsOfEitherInput class f
    → AreCallsTo (reads_of rules records) f calls → AreCallsTo (fetched rules ∷ fetched records ∷ rest) f calls
either-calls class rules records rest calls (fault.Class name) kind h = h
either-calls class rules records rest calls (fault.Rules line k) kind h = h
either-calls class rules records rest calls (fault.Records what) kind h = h
either-calls class rules records rest calls (fault.Read n) kind h = input-calls rules records rest calls (fault.Read n) tt h
either-calls class rules records rest calls (fault.TooLong n) kind h = input-calls rules records rest calls (fault.TooLong n) tt h
either-calls class rules records rest calls fault.OutOfMemory kind h = input-calls rules records rest calls fault.OutOfMemory tt h
either-calls class rules records rest calls f kind h = absurd kind

-- those of the rules alone, where the class field is refused
pub class-calls : (fields : List Field) (class : Option (List ℕ)) (rules records : List ℕ) (f : Fault) → RefusesClass fields class f
    → AreCallsTo (reads_of rules records) f (fetched rules ∷ [])
class-calls fields class rules records (fault.Class name) why = refl
class-calls fields class rules records fault.OutOfMemory why = (1, refl)
class-calls fields class rules records f why = absurd why

-- the count of faults, which a refusal of the class field leaves as it was
pub class-faults : (fields : List Field) (class : Option (List ℕ)) (f : Fault) (before : ℕ) {now : ℕ} → now ≡ before → RefusesClass fields class f
    → now ≡ faults_by f before
class-faults fields class (fault.Class name) before same why = same
class-faults fields class fault.OutOfMemory before same why = same
class-faults fields class f before same why = absurd why

-- ---- causes

module _ (rules records : List ℕ) (files : Option Files) where
  -- the rules are refused for what their reading says
  pub rules-refuse : (class : Option (List ℕ)) (f : Fault) → IsOfRules rules f → RefusesRules rules files f → RefusesEither rules records class files f
  rules-refuse None f kind why = rules-refuse-input rules records files f kind why
  rules-refuse (Some class) (fault.Rules line k) kind why = why
  rules-refuse (Some class) (fault.Read name) kind why = inl kind
  rules-refuse (Some class) (fault.TooLong name) kind why = (inl kind, why)
  rules-refuse (Some class) fault.OutOfMemory kind why = tt
  rules-refuse (Some class) f kind why = absurd kind

  -- a fault of a store says nothing of the files
  pub stores-refuse-either : (class : Option (List ℕ)) (f : Fault) → IsOfStores f → RefusesEither rules records class files f
  stores-refuse-either None f kind = stores-refuse rules records files f kind
  stores-refuse-either (Some class) (fault.Write name) kind = tt
  stores-refuse-either (Some class) fault.OutOfMemory kind = tt
  stores-refuse-either (Some class) f kind = absurd kind

  module _ (survey : SurveyParts) (hr : HoldsRules files rules survey) where
    -- the class field is refused, where the rules were read
    pub class-refuse : (class : Option (List ℕ)) (f : Fault) → RefusesClass survey.fields class f → RefusesEither rules records class files f
    class-refuse None (fault.Class name) (asked, lacks) = absurd (cc)
    class-refuse (Some class) (fault.Class name) (asked, lacks) =
        let same : name ≡ class = cc in
        (same, (survey, hr, subst (λ (n : List ℕ). ¬ HasClass survey.fields n) same lacks))
    class-refuse None fault.OutOfMemory why = tt
    class-refuse (Some class) fault.OutOfMemory why = tt
    class-refuse class f why = absurd why

    -- and the records, where they have the class field
    pub records-refuse-either : (class : Option (List ℕ)) (class_field : Option ℕ) → IsClassAsked survey.fields class class_field
        → (f : Fault) → IsOfRecords records f → RefusesRecords records survey.fields files f → RefusesEither rules records class files f
    records-refuse-either None class_field is f kind why = records-refuse rules records files survey hr f kind why
    records-refuse-either (Some class) None is f kind why = absurd is
    records-refuse-either (Some class) (Some number) is (fault.Records what) kind why = (survey, hr, ((number, is), why))
    records-refuse-either (Some class) (Some number) is (fault.Read name) kind why = inr (kind, (survey, hr, ((number, is), tt)))
    records-refuse-either (Some class) (Some number) is (fault.TooLong name) kind why =
        (inr (kind, (survey, hr, ((number, is), tt))), why)
    records-refuse-either (Some class) (Some number) is fault.OutOfMemory kind why = tt
    records-refuse-either (Some class) (Some number) is f kind why = absurd kind

-- ---- what is due, of files that are told or not

module _ (rules records : List ℕ) (class : Option (List ℕ)) (files : Option Files) where
  pub told-rules-due : (f : Fault) → IsOfRules rules f → RefusesRules rules files f
      → IfSome files (λ o. AnswersDue (IsEitherDue rules records class o) (fault_status f))
  told-rules-due f kind why =
      each-told files (λ o because. rules_answer rules records o class f kind because) (where-told files (λ o. RefusesRules rules o f) why)

  -- where memory was refused, a status that is due need not be answered
  pub told-memory-due : IfSome files (λ o. AnswersDue (IsEitherDue rules records class o) status.OutOfMemory)
  told-memory-due = by files
    where
      by : (told : Option Files) → IfSome told (λ o. AnswersDue (IsEitherDue rules records class o) status.OutOfMemory)
      by None = tt
      by (Some o) = λ s due. inr (inr refl)

  module _ (survey : SurveyParts) (hr : HoldsRules files rules survey) where
    told-rules : IfSome files (λ o. HoldsRules (Some o) rules survey)
    told-rules = where-told files (λ o. HoldsRules o rules survey) hr

    pub told-class-due : (f : Fault) → RefusesClass survey.fields class f
        → IfSome files (λ o. AnswersDue (IsEitherDue rules records class o) (fault_status f))
    told-class-due f why = each-told files (λ o read. class_answer rules records o class survey read f why) told-rules

    module _ (class_field : Option ℕ) (is : IsClassAsked survey.fields class class_field) where
      pub told-records-due : (f : Fault) → IsOfRecords records f → RefusesRecords records survey.fields files f
          → IfSome files (λ o. AnswersDue (IsEitherDue rules records class o) (fault_status f))
      told-records-due f kind why =
          both-told files (λ o read because. records_answer rules records o class survey read (has_asked survey class class_field is) f kind because)
          told-rules (where-told files (λ o. RefusesRecords records survey.fields o f) why)

      -- of rules and records that were read, no status is due
      pub told-read-due : (s : SheetParts) → HoldsRecords files records survey.fields s → (answer : Status)
          → IfSome files (λ o. AnswersDue (IsEitherDue rules records class o) answer)
      told-read-due s hs answer =
          both-told files (λ o read sheet. read_answer rules records o class survey read (has_asked survey class class_field is) s sheet answer)
          told-rules (where-told files (λ o. HoldsRecords o records survey.fields s) hs)

-- ---- files that were read

-- they are refused for no fault but one that says nothing of them
pub either-beside : (rules records : List ℕ) (class : Option (List ℕ)) (files : Files) (survey : SurveyParts) (class_field : Option ℕ) (s : SheetParts)
    → HoldsEither (Some files) rules records class survey class_field s → (f : Fault) → RefusesEither rules records class (Some files) f → IsBeside f
either-beside rules records None files survey class_field s held f why = read-beside rules records files f survey s held.read_rules held.read_records why
either-beside rules records (Some class) files survey class_field s held (fault.Rules line k) why =
    not_unread files rules survey held.read_rules (weaker (Some files) rules most_bytes (λ bytes none. none.unread) why)
either-beside rules records (Some class) files survey class_field s held (fault.Class name) (same, (other, ho, lacks)) =
    lacks (subst (HasAsked (Some class)) (one_survey files rules survey other held.read_rules ho) (has_asked survey (Some class) class_field held.classes))
either-beside rules records (Some class) files survey class_field s held (fault.Records what) (other, ho, (has, unread)) =
    not_unread_records files records survey other s (one_survey files rules survey other held.read_rules ho) held.read_records
    (weaker (Some files) records most_bytes (λ bytes none. none.unread) unread)
either-beside rules records (Some class) files survey class_field s held (fault.TooLong name) (inl same, long) =
    not_longer files rules most_bytes held.read_rules (subst (λ (n : List ℕ). IsLonger files n most_bytes) same long)
either-beside rules records (Some class) files survey class_field s held (fault.TooLong name) (inr (same, more), long) =
    not_longer files records most_bytes held.read_records (subst (λ (n : List ℕ). IsLonger files n most_bytes) same long)
either-beside rules records (Some class) files survey class_field s held (fault.Read name) why = tt
either-beside rules records (Some class) files survey class_field s held (fault.Write name) why = tt
either-beside rules records (Some class) files survey class_field s held fault.OutOfMemory why = tt
either-beside rules records (Some class) files survey class_field s held f why = why
