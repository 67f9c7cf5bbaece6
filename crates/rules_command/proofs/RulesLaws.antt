-- What the file of the command `rules` shows, and which status is due of it.
use Rattle.std.proofs.Common.{ℕ, List, Option, Some, inl, inr, refl, subst}
use Rattle.edit_model.specs.Parts.{SurveyParts}
use Rattle.edit_desk.specs.Desk.{Files, IsLonger}
use Rattle.command_words.specs.Asked.{RulesAsked}
use Rattle.run_parts.specs.Faults.{IsOfRulesCommand, fault_status}
use Rattle.run_parts.specs.Readings.{AnswersDue, HoldsRules, IsRulesDue, RefusesRulesCommand}
use Rattle.run_parts.specs.Parts.{IsOfRules, RefusesRules}
use Rattle.run_parts.specs.declared.fault.Fault.{Fault}
use Rattle.run_parts.specs.declared.fault.Fault.TheVariants as fault
use Rattle.run_parts.specs.declared.status.Status.{Status}
use Rattle.run_parts.specs.declared.status.Status.TheVariants as status
use Rattle.run_parts.proofs.HeldLaws.{not_longer, not_unread, weaker}
use Rattle.run_parts.proofs.InputLaws.{IsBeside}
use Rattle.run_parts.specs.Limits.{most_bytes}

-- a refusal of the rules is one of the command
pub rules-kind : (name : List ℕ) (f : Fault) → IsOfRules name f → IsOfRulesCommand f
rules-kind name (fault.Rules line k) kind = tt
rules-kind name (fault.Read n) kind = tt
rules-kind name (fault.TooLong n) kind = tt
rules-kind name fault.OutOfMemory kind = tt
rules-kind name f kind = absurd kind

module _ (asked : RulesAsked) (files : Files) where
  -- ---- rules that were read

  module _ (survey : SurveyParts) (held : HoldsRules (Some files) asked.rules survey) where
    -- no status is due of them
    pub read-rules-due : (answer : Status) → AnswersDue (IsRulesDue asked files) answer
    read-rules-due answer status.TooLong due = absurd (not_longer files asked.rules most_bytes held due)
    read-rules-due answer status.Rules due = absurd (not_unread files asked.rules survey held due)
    read-rules-due answer s due = absurd due

    -- they are refused for no fault but one that says nothing of them
    pub rules-beside : (f : Fault) → RefusesRulesCommand asked (Some files) f → IsBeside f
    rules-beside (fault.Rules line k) why = not_unread files asked.rules survey held (weaker (Some files) asked.rules most_bytes (λ bytes no. no.unread) why)
    rules-beside (fault.TooLong name) (same, long) =
        not_longer files asked.rules most_bytes held (subst (λ (n : List ℕ). IsLonger files n most_bytes) same long)
    rules-beside (fault.Read name) why = tt
    rules-beside fault.OutOfMemory why = tt
    rules-beside f why = absurd why

  -- ---- rules that were not read

  long-due : IsLonger files asked.rules most_bytes → AnswersDue (IsRulesDue asked files) status.TooLong
  long-due long status.TooLong due = inl refl
  long-due long status.Rules due = absurd (not_longer files asked.rules most_bytes due long)
  long-due long s due = absurd due

  unread-due : IsRulesDue asked files status.Rules → AnswersDue (IsRulesDue asked files) status.Rules
  unread-due unread status.Rules due = inl refl
  unread-due unread status.TooLong due = absurd (not_longer files asked.rules most_bytes unread due)
  unread-due unread s due = absurd due

  pub rules-due : (f : Fault) → IsOfRules asked.rules f → RefusesRules asked.rules (Some files) f → AnswersDue (IsRulesDue asked files) (fault_status f)
  rules-due (fault.Rules line k) kind why = unread-due (weaker (Some files) asked.rules most_bytes (λ bytes no. no.unread) why)
  rules-due (fault.TooLong name) kind why = long-due (subst (λ (n : List ℕ). IsLonger files n most_bytes) kind why)
  rules-due (fault.Read name) kind why = λ s due. inr (inl refl)
  rules-due fault.OutOfMemory kind why = λ s due. inr (inr refl)
  rules-due f kind why = absurd kind

-- ---- refusals, of a file that is told or not

module _ (asked : RulesAsked) (files : Option Files) where
  pub rules-refuse : (f : Fault) → IsOfRules asked.rules f → RefusesRules asked.rules files f → RefusesRulesCommand asked files f
  rules-refuse (fault.Rules line k) kind why = why
  rules-refuse (fault.TooLong name) kind why = (kind, why)
  rules-refuse (fault.Read name) kind why = kind
  rules-refuse fault.OutOfMemory kind why = tt
  rules-refuse f kind why = absurd kind
