-- What an answer says of the record, in terms of corrections.
use Rattle.std.specs.Prelude.{◌≡◌, ◌↔◌, ⊤, ℕ, Bool, true, false, List, [], Option, None, Some, length}
use Rattle.edit_model.specs.Corrections.{change_weight, word_of}
use Rattle.edit_model.specs.FieldSets.{has_number}
use Rattle.edit_model.specs.Parts.{SurveyParts}
use Rattle.edit_model.specs.Points.{HasCodesFrom, Point}
use Rattle.edit_model.specs.Rows.{IsRow, value_of}
use Rattle.edit_model.specs.Surveys.{IsWellFormed}
use Rattle.edit_model.specs.declared.value.Value.{Value}
use Rattle.edit_line.specs.Lines.{AllHold}
use Rattle.derivation.specs.Refutations.{trues}
use Rattle.bound_cert.specs.ValidTrees.{IsValidTree, tree_case}
use Rattle.bound_cert.specs.declared.cert.Cert.{Cert}
use Rattle.bound_cert.specs.declared.outcome.Outcome.{Outcome}
use Rattle.bound_cert.specs.declared.outcome.Outcome.TheVariants as outcome
use Rattle.back_subst.specs.Allowed.{Completes}
use Rattle.panel_link.specs.Answers.{IsLinked}
use Rattle.panel_link.specs.LinkedCorrections.{IsFirstAmong, IsLeastAmong, IsLinkedCorrection, lacks_value}
use Rattle.panel_link.specs.Pins.{linked_lines}
use Rattle.panel_link.specs.declared.linked.Linked.{Linked}
use Rattle.panel_link.specs.declared.linked.Linked.TheVariants as linked

-- ---- what is said of corrections

-- with its new values the record is a correction; it keeps its values at the fixed fields; it differs from the record that was
-- read exactly at the fields of the path; these weigh no more than those of any correction that leaves the fixed fields alone
pub record IsCorrectedAmong (survey : SurveyParts) (row new : List Value) (fixed : ℕ) (path : List Bool) (weight : ℕ) : Type 0 where
  pub point : Point
  pub correction : Completes survey new [] point
  pub kept : (f : ℕ) → has_number fixed f ≡ true → value_of new f ≡ value_of row f
  pub differs : word_of survey row point ≡ path
  pub weighs : change_weight survey row point ≡ weight
  pub least : IsLeastAmong survey row fixed weight
  pub first : IsFirstAmong survey row fixed weight path

-- what an outcome that is told without values says: a change has the least weight all the same
abbrev pub StoppedSays : SurveyParts → List Value → ℕ → Outcome → Type 0
StoppedSays survey row fixed (outcome.Change path weight cert) =
    IsLeastAmong survey row fixed weight × IsFirstAmong survey row fixed weight path
StoppedSays survey row fixed (outcome.Budget path work) = ⊤
StoppedSays survey row fixed (outcome.Overflow path event) = ⊤
StoppedSays survey row fixed (outcome.Contradictory cert) = ⊥

-- what an answer says: a change makes a correction of the least weight among those that leave the fixed fields alone; and where
-- there is said to be no correction, none of all points is one that does
abbrev pub Says : SurveyParts → List Value → ℕ → Linked → Type 0
Says survey row fixed (linked.Change path weight cert gift) = IsCorrectedAmong survey row gift.row fixed path weight
Says survey row fixed linked.NoLast = lacks_value survey row fixed ≡ true
Says survey row fixed (linked.NoCorrection cert) = (p : Point) → ¬ IsLinkedCorrection survey row fixed p
Says survey row fixed (linked.Stopped proof) = StoppedSays survey row fixed proof.outcome

-- ---- what is shown

-- the tree is valid over the lines of the rules and the pins, with this weight, or without one
abbrev pub IsShownBy : SurveyParts → List Value → ℕ → Option ℕ → Cert → Type 0
IsShownBy survey row fixed weight cert =
    IsValidTree (tree_case survey (linked_lines survey row fixed) (trues (length (linked_lines survey row fixed))) row weight) cert.leaves

-- the certificate of an outcome that is told without values
abbrev pub IsStoppedShown : SurveyParts → List Value → ℕ → Outcome → Type 0
IsStoppedShown survey row fixed (outcome.Change path weight cert) = IsShownBy survey row fixed (Some weight) cert
IsStoppedShown survey row fixed (outcome.Contradictory cert) = IsShownBy survey row fixed None cert
IsStoppedShown survey row fixed (outcome.Budget path work) = ⊤
IsStoppedShown survey row fixed (outcome.Overflow path event) = ⊤

-- each certificate of an answer is a valid tree, with the weight of a change, and without one where there is no correction
abbrev pub IsShown : SurveyParts → List Value → ℕ → Linked → Type 0
IsShown survey row fixed (linked.Change path weight cert gift) = IsShownBy survey row fixed (Some weight) cert
IsShown survey row fixed linked.NoLast = ⊤
IsShown survey row fixed (linked.NoCorrection cert) = IsShownBy survey row fixed None cert
IsShown survey row fixed (linked.Stopped proof) = IsStoppedShown survey row fixed proof.outcome

-- ---- laws

-- where each fixed field has a value, a point with codes of the survey meets the lines and the pins exactly where it is a
-- correction that leaves the fixed fields alone
abbrev pub PinLaw : Type 0
PinLaw =
    (survey : SurveyParts) (row : List Value) (fixed : ℕ) (p : Point)
    → IsWellFormed survey → IsRow survey.fields row → lacks_value survey row fixed ≡ false
    → (HasCodesFrom 0 survey.fields p × AllHold (linked_lines survey row fixed) p) ↔ IsLinkedCorrection survey row fixed p

-- what an answer says of corrections, and what its certificate shows
abbrev pub LinkedLaw : Type 0
LinkedLaw =
    (survey : SurveyParts) (row : List Value) (fixed budget : ℕ) (answer : Linked)
    → IsWellFormed survey → IsRow survey.fields row → IsLinked survey row fixed budget answer
    → Says survey row fixed answer × IsShown survey row fixed answer

-- of a record, the definition allows one answer within a budget: any two are the same
abbrev pub OneAnswerLaw : Type 0
OneAnswerLaw =
    (survey : SurveyParts) (row : List Value) (fixed budget : ℕ) (answer other : Linked)
    → IsWellFormed survey → IsRow survey.fields row
    → IsLinked survey row fixed budget answer → IsLinked survey row fixed budget other → other ≡ answer
