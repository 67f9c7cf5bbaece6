use Rattle.std.proofs.Common.{◌≡◌, ◌↔◌, ◌∙◌, ℕ, Bool, true, false, List, Some, inl, inr, length, refl, sym, subst}
use Rattle.edit_model.specs.Parts.{SurveyParts}
use Rattle.edit_model.specs.Surveys.{IsWellFormed}
use Rattle.edit_model.specs.declared.value.Value.{Value}
use Rattle.derivation.specs.Refutations.{trues}
use Rattle.bound_cert.specs.declared.cert.Cert.{Cert}
use Rattle.bound_cert.specs.declared.outcome.Outcome.{Outcome}
use Rattle.bound_cert.specs.declared.outcome.Outcome.TheVariants as outcome
use Rattle.edit_line.specs.EditSets.{EditsParts}
use Rattle.edit_paths.specs.Cases.{IsCase, case_of}
use Rattle.edit_paths.specs.Outcomes.{outcome_of}
use Rattle.edit_paths.proofs.CertificateTrees.{change-tree, contradiction-tree}
use Rattle.edit_paths.proofs.ChoiceLaws.{contradictory}
use Rattle.panel_link.specs.Answers.{FollowsOn, IsLinked, IsLinkedWith}
use Rattle.panel_link.specs.Laws.{IsShown, IsShownBy, Says}
use Rattle.panel_link.specs.LinkedCorrections.{lacks_value}
use Rattle.panel_link.specs.Pins.{linked_case, linked_edits, linked_lines}
use Rattle.panel_link.specs.declared.linked.Linked.{Linked}
use Rattle.panel_link.specs.declared.linked.Linked.TheVariants as linked
use Rattle.panel_link.specs.inner.Tellings.{TellLinked}
use Rattle.panel_link.proofs.GivenLaws.{corrected, least-stopped}
use Rattle.panel_link.proofs.PinLaws.{edits-tell}
use Rattle.panel_link.proofs.PlacedLines.{placed-usable}

-- What an answer says of the record, and what its certificate shows.

module _ (survey : SurveyParts) (row : List Value) (fixed budget : ℕ) (well : IsWellFormed survey) (is : IsCase (linked_case survey row fixed)) where
  abbrev Tells : Linked → Type 0
  Tells answer = Says survey row fixed answer × IsShown survey row fixed answer

  module _ (values : lacks_value survey row fixed ≡ false) where
    same : TellLinked survey (linked_edits survey row fixed) row fixed
    same = edits-tell survey row fixed is.row values well

    change-shown : (path : List Bool) (weight : ℕ) (cert : Cert) → outcome_of (linked_case survey row fixed) budget ≡ outcome.Change path weight cert
        → IsShownBy survey row fixed (Some weight) cert
    change-shown path weight cert e =
        change-tree (linked_case survey row fixed) is (linked_lines survey row fixed) (trues (length (linked_lines survey row fixed)))
        (placed-usable (linked_lines survey row fixed)) budget path weight cert e

    follows : (o : Outcome) → outcome_of (linked_case survey row fixed) budget ≡ o → (answer : Linked)
        → FollowsOn survey (linked_edits survey row fixed) row o answer → Tells answer
    follows (outcome.Change path weight cert) e answer (inl (gift, given, told)) =
        subst (λ (a : Linked). Tells a) (sym told) (
          let (p, completes) = given.completed in
              corrected survey (linked_edits survey row fixed) row fixed budget path weight cert is same e given.changed given.fields values gift.row
              given.imputed p completes,
          change-shown path weight cert e,
        )
    follows (outcome.Change path weight cert) e answer (inr (at, stops, told)) =
        subst (λ (a : Linked). Tells a) (sym told) (
          least-stopped survey (linked_edits survey row fixed) row fixed budget path weight cert is same e values,
          change-shown path weight cert e,
        )
    follows (outcome.Contradictory cert) e answer told =
        subst (λ (a : Linked). Tells a) (sym told) (
          λ p correction. contradictory (linked_case survey row fixed) is budget cert e p ((same p).1 correction),
          contradiction-tree (linked_case survey row fixed) is (linked_lines survey row fixed) (trues (length (linked_lines survey row fixed)))
              (placed-usable (linked_lines survey row fixed)) budget cert e,
        )
    follows (outcome.Budget path work) e answer told = subst (λ (a : Linked). Tells a) (sym told) (tt, tt)
    follows (outcome.Overflow path event) e answer told = subst (λ (a : Linked). Tells a) (sym told) (tt, tt)

  pub tells : (answer : Linked) → IsLinked survey row fixed budget answer → Says survey row fixed answer × IsShown survey row fixed answer
  tells answer told = by (lacks_value survey row fixed) refl told
    where
      by : (b : Bool) → lacks_value survey row fixed ≡ b → IsLinkedWith b survey row fixed budget answer → Tells answer
      by true lacks told = subst (λ (a : Linked). Tells a) (sym told) (lacks, tt)
      by false values told = follows values (outcome_of (linked_case survey row fixed) budget) refl answer told

-- what follows on the search by edits that are those with the pins
pub linked-answer : (survey : SurveyParts) (row : List Value) (fixed budget : ℕ) (edits : EditsParts) → edits ≡ linked_edits survey row fixed
    → lacks_value survey row fixed ≡ false → (answer : Linked)
    → FollowsOn survey edits row (outcome_of (case_of survey edits row) budget) answer → IsLinked survey row fixed budget answer
linked-answer survey row fixed budget edits same values answer follows =
    subst (λ (b : Bool). IsLinkedWith b survey row fixed budget answer) (sym values)
    (subst (λ (e : EditsParts). FollowsOn survey e row (outcome_of (case_of survey e row) budget) answer) same follows)

-- a record with a value at each fixed field is not without one
not-lacking : (survey : SurveyParts) (edits : EditsParts) (row : List Value) (o : Outcome) (answer : Linked) → FollowsOn survey edits row o answer
    → answer ≡ linked.NoLast → ⊥
not-lacking survey edits row (outcome.Change path weight cert) answer (inl (gift, given, told)) e = cc (sym told ∙ e)
not-lacking survey edits row (outcome.Change path weight cert) answer (inr (at, stops, told)) e = cc (sym told ∙ e)
not-lacking survey edits row (outcome.Contradictory cert) answer told e = cc (sym told ∙ e)
not-lacking survey edits row (outcome.Budget path work) answer told e = cc (sym told ∙ e)
not-lacking survey edits row (outcome.Overflow path event) answer told e = cc (sym told ∙ e)

-- one fixed field has no value exactly where the answer says so
pub no-last : (survey : SurveyParts) (row : List Value) (fixed budget : ℕ) (answer : Linked) → IsLinked survey row fixed budget answer
    → (answer ≡ linked.NoLast) ↔ (lacks_value survey row fixed ≡ true)
no-last survey row fixed budget answer = by (lacks_value survey row fixed)
  where
    by : (b : Bool) → IsLinkedWith b survey row fixed budget answer → (answer ≡ linked.NoLast) ↔ (b ≡ true)
    by true told = (λ _. refl, λ _. told)
    by false told = (
      λ e. absurd (not-lacking survey (linked_edits survey row fixed) row (outcome_of (linked_case survey row fixed) budget) answer told e),
      λ none. absurd (cc),
    )
