-- What becomes of a record that is linked to its values of the last period.
use Rattle.std.specs.Prelude.{◌≡◌, ◌⊎◌, ℕ, Bool, true, false, List, [], None, Some}
use Rattle.edit_model.specs.Parts.{SurveyParts}
use Rattle.edit_model.specs.Points.{Point}
use Rattle.edit_model.specs.declared.value.Value.{Value}
use Rattle.edit_line.specs.EditSets.{EditsParts}
use Rattle.bound_cert.specs.declared.outcome.GiftFault.{GiftFault}
use Rattle.bound_cert.specs.declared.outcome.GiftFault.TheVariants as stop
use Rattle.bound_cert.specs.declared.outcome.Outcome.{Outcome}
use Rattle.bound_cert.specs.declared.outcome.Outcome.TheVariants as outcome
use Rattle.edit_paths.specs.Outcomes.{outcome_of}
use Rattle.back_subst.specs.Allowed.{Completes}
use Rattle.back_subst.specs.Gifts.{hows_of, path_of}
use Rattle.back_subst.specs.GiveFaults.{AllHoldAt, AreAllComputed, StopsThere}
use Rattle.back_subst.specs.Given.{IsImputed}
use Rattle.back_subst.specs.declared.gift.Gift.{Gift}
use Rattle.back_subst.specs.declared.gift.GiveFault.{GiveFault}
use Rattle.back_subst.specs.declared.gift.GiveFault.TheVariants as fault
use Rattle.panel_link.specs.LinkedCorrections.{lacks_value}
use Rattle.panel_link.specs.Pins.{linked_case, linked_edits}
use Rattle.panel_link.specs.declared.linked.Linked.{Linked}
use Rattle.panel_link.specs.declared.linked.Linked.TheVariants as linked

-- the fields that the path changes are given values, for no donor, each number by the formulas; every rule holds at the record
-- that is given, which is consistent, and no number of its sums leaves the range
pub record IsGiftAlong (survey : SurveyParts) (edits : EditsParts) (row : List Value) (path : List Bool) (gift : Gift) : Type 0 where
  pub changed : ℕ
  pub fields : path_of survey.fields changed ≡ path
  pub imputed : IsImputed survey row changed None gift.row
  pub computed : AreAllComputed survey edits changed None gift.row
  pub how : gift.how ≡ hows_of survey changed None gift.row
  pub tested : AllHoldAt survey gift.row
  pub completed : (p : Point) × Completes survey gift.row [] p

-- the fault of the giving that is told of a record
abbrev pub fault_of : GiftFault → GiveFault
fault_of (stop.Bound field line) = fault.Bound field line
fault_of (stop.Test rule) = fault.Test rule

-- the fields that the path changes are given no values, since the giving stops at this fault
pub record StopsAlong (survey : SurveyParts) (edits : EditsParts) (row : List Value) (path : List Bool) (at : GiftFault) : Type 0 where
  pub changed : ℕ
  pub fields : path_of survey.fields changed ≡ path
  pub stops : StopsThere survey edits row changed None (fault_of at)

-- what follows on the outcome of the search: a change is given values, or the giving stops; where there is no correction, none
-- leaves the fixed fields alone; and any other outcome is told as it is
abbrev pub FollowsOn : SurveyParts → EditsParts → List Value → Outcome → Linked → Type 0
FollowsOn survey edits row (outcome.Change path weight cert) answer =
    ((gift : Gift) × IsGiftAlong survey edits row path gift × (answer ≡ linked.Change path weight cert gift))
    ⊎ ((at : GiftFault) × StopsAlong survey edits row path at
    × (answer ≡ linked.Stopped (record { outcome = outcome.Change path weight cert; gift = Some at })))
FollowsOn survey edits row (outcome.Contradictory cert) answer = answer ≡ linked.NoCorrection cert
FollowsOn survey edits row (outcome.Budget path work) answer =
    answer ≡ linked.Stopped (record { outcome = outcome.Budget path work; gift = None })
FollowsOn survey edits row (outcome.Overflow path event) answer =
    answer ≡ linked.Stopped (record { outcome = outcome.Overflow path event; gift = None })

-- the answer, by whether some fixed field has no value
abbrev pub IsLinkedWith : Bool → SurveyParts → List Value → ℕ → ℕ → Linked → Type 0
IsLinkedWith true survey row fixed budget answer = answer ≡ linked.NoLast
IsLinkedWith false survey row fixed budget answer =
    FollowsOn survey (linked_edits survey row fixed) row (outcome_of (linked_case survey row fixed) budget) answer

-- what becomes of the record: nothing is searched where some fixed field has no value
abbrev pub IsLinked : SurveyParts → List Value → ℕ → ℕ → Linked → Type 0
IsLinked survey row fixed budget answer = IsLinkedWith (lacks_value survey row fixed) survey row fixed budget answer

-- each answer that the definition allows for the record is this one
abbrev pub IsOnlyAnswer : SurveyParts → List Value → ℕ → ℕ → Linked → Type 0
IsOnlyAnswer survey row fixed budget answer = (due : Linked) → IsLinked survey row fixed budget due → answer ≡ due
