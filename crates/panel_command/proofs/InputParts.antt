-- Refusals of the three files, told or not: their kinds, the calls up to them, their causes, and what is due.
use Rattle.std.proofs.Common.{◌≡◌, ◌⊎◌, ℕ, List, [], ◌∷◌, ◌++◌, Option, IfSome, inl, inr, subst, sym}
use Rattle.edit_desk.specs.Desk.{Asked, Files, PutsOnRecord, fetched}
use Rattle.edit_model.specs.Parts.{SurveyParts}
use Rattle.record_text.specs.Sheets.{SheetParts}
use Rattle.command_words.specs.Asked.{PanelAsked}
use Rattle.panel_files.specs.LastFields.{AreLastFields, last_fields, own_fields}
use Rattle.panel_release.specs.PanelReleases.{PanelCase}
use Rattle.run_parts.specs.Faults.{fault_status}
use Rattle.run_parts.specs.Parts.{IsOfLast, IsOfRecords, IsOfRules, RefusesRules}
use Rattle.run_parts.specs.Readings.{AnswersDue, HoldsRules}
use Rattle.run_parts.specs.Run.{AreCallsTo}
use Rattle.run_parts.specs.declared.fault.Fault.{Fault}
use Rattle.run_parts.specs.declared.fault.Fault.TheVariants as fault
use Rattle.run_parts.specs.declared.status.Status.{Status}
use Rattle.run_parts.proofs.CallLaws.{calls-between, less-calls}
use Rattle.run_parts.proofs.ToldLaws.{each-told, where-told}
use Rattle.panel_command.specs.PanelInput.{HoldsKeyed, HoldsPanel, IsOfPanelInput, IsPanelDue, RefusesPanel}
use Rattle.panel_command.specs.inner.KeyedRows.{RefusesLastRows, RefusesOwnRows}
use Rattle.panel_command.proofs.DueLaws.{panel_not_due, refused_answers}

-- ---- kinds

-- what the rules are refused for, the records, and the file of the last period, the three files are
pub of-rules : (name : List ℕ) (f : Fault) → IsOfRules name f → IsOfPanelInput f
of-rules name (fault.Rules line k) kind = tt
of-rules name (fault.Read n) kind = tt
of-rules name (fault.TooLong n) kind = tt
of-rules name fault.OutOfMemory kind = tt
of-rules name f kind = absurd kind

pub of-records : (name : List ℕ) (f : Fault) → IsOfRecords name f → IsOfPanelInput f
of-records name (fault.Records what) kind = tt
of-records name (fault.Read n) kind = tt
of-records name (fault.TooLong n) kind = tt
of-records name fault.OutOfMemory kind = tt
of-records name f kind = absurd kind

pub of-last : (name : List ℕ) (f : Fault) → IsOfLast name f → IsOfPanelInput f
of-last name (fault.Last what) kind = tt
of-last name (fault.Read n) kind = tt
of-last name (fault.TooLong n) kind = tt
of-last name fault.OutOfMemory kind = tt
of-last name f kind = absurd kind

-- ---- calls

-- the one call of a file that was read and refused for its key
module _ (a b : Option (List Asked)) (name : List ℕ) (fetches : PutsOnRecord a b (λ calls. calls ≡ fetched name ∷ [])) where
  pub key-calls : (g f : Fault) → AreCallsTo (fetched name ∷ []) g (fetched name ∷ []) → (f ≡ g) ⊎ (f ≡ fault.OutOfMemory)
      → PutsOnRecord a b (AreCallsTo (fetched name ∷ []) f)
  key-calls g f one (inl same) =
      less-calls a b (AreCallsTo (fetched name ∷ []) f)
      (λ calls is. subst (λ (l : List Asked). AreCallsTo (fetched name ∷ []) f l) (sym is)
      (subst (λ (h : Fault). AreCallsTo (fetched name ∷ []) h (fetched name ∷ [])) (sym same) one)) fetches
  key-calls g f one (inr same) =
      less-calls a b (AreCallsTo (fetched name ∷ []) f)
      (λ calls is. subst (λ (h : Fault). AreCallsTo (fetched name ∷ []) h calls) (sym same) (1, is)) fetches

-- the calls by which the three files are read
abbrev pub reads_of : PanelAsked → List Asked
reads_of asked = fetched asked.rules ∷ fetched asked.records ∷ fetched asked.last ∷ []

-- those up to a refusal, whatever is called behind them
pub panel-calls : (asked : PanelAsked) (rest calls : List Asked) (f : Fault) → IsOfPanelInput f → AreCallsTo (reads_of asked) f calls
    → AreCallsTo (reads_of asked ++ rest) f calls
panel-calls asked rest calls (fault.Rules line k) kind h = h
panel-calls asked rest calls (fault.Records what) kind h = h
panel-calls asked rest calls (fault.Last what) kind h = h
panel-calls asked rest calls (fault.Read n) kind h = calls-between [] (reads_of asked) rest calls (fault.Read n) tt h
panel-calls asked rest calls (fault.TooLong n) kind h = calls-between [] (reads_of asked) rest calls (fault.TooLong n) tt h
panel-calls asked rest calls fault.OutOfMemory kind h = calls-between [] (reads_of asked) rest calls fault.OutOfMemory tt h
panel-calls asked rest calls f kind h = absurd kind

-- ---- causes, and what is due

module _ (asked : PanelAsked) (files : Option Files) where
  -- the rules are refused for what their reading says
  pub rules-refuse : (f : Fault) → IsOfRules asked.rules f → RefusesRules asked.rules files f → RefusesPanel asked files f
  rules-refuse (fault.Rules line k) kind why = why
  rules-refuse (fault.Read name) kind why = inl kind
  rules-refuse (fault.TooLong name) kind why = (inl kind, why)
  rules-refuse fault.OutOfMemory kind why = tt
  rules-refuse f kind why = absurd kind

  module _ (survey : SurveyParts) (set : ℕ) (hr : HoldsRules files asked.rules survey) (are : AreLastFields survey.fields set) where
    -- the records are refused for what their reading says, where the rules were read
    pub own-refuse : (f : Fault) → IsOfRecords asked.records f
        → RefusesOwnRows asked.records (own_fields survey.fields set) asked.key files f → RefusesPanel asked files f
    own-refuse (fault.Records what) kind why = (survey, hr, (set, are, why))
    own-refuse (fault.Read name) kind why = inr (inl (kind, (survey, hr, tt)))
    own-refuse (fault.TooLong name) kind why = (inr (inl (kind, (survey, hr, tt))), why)
    own-refuse fault.OutOfMemory kind why = tt
    own-refuse f kind why = absurd kind

    -- and the file of the last period, where the records were read
    pub last-refuse : (own : SheetParts) (column : ℕ) → HoldsKeyed files asked.records (own_fields survey.fields set) asked.key own column
        → (f : Fault) → IsOfLast asked.last f → RefusesLastRows asked.last (last_fields survey.fields set) asked.key files f
        → RefusesPanel asked files f
    last-refuse own column keyed (fault.Last what) kind why = (survey, hr, (set, are, ((own, column, keyed), why)))
    last-refuse own column keyed (fault.Read name) kind why = inr (inr (kind, (survey, hr, (set, are, ((own, column, keyed), tt)))))
    last-refuse own column keyed (fault.TooLong name) kind why =
        (inr (inr (kind, (survey, hr, (set, are, ((own, column, keyed), tt))))), why)
    last-refuse own column keyed fault.OutOfMemory kind why = tt
    last-refuse own column keyed f kind why = absurd kind

  -- the status of a refusal answers what is due
  pub told-refused-due : (f : Fault) → IsOfPanelInput f → RefusesPanel asked files f
      → IfSome files (λ o. AnswersDue (IsPanelDue asked o) (fault_status f))
  told-refused-due f kind why =
      each-told files (λ o because. refused_answers asked o f kind because) (where-told files (λ o. RefusesPanel asked o f) why)

  -- of files that were read, no status is due
  pub told-panel-due : (panel : PanelCase) → HoldsPanel files asked panel → (answer : Status)
      → IfSome files (λ o. AnswersDue (IsPanelDue asked o) answer)
  told-panel-due panel held answer =
      each-told files (λ o read other due. absurd (panel_not_due asked o panel read other due))
      (where-told files (λ o. HoldsPanel o asked panel) held)
