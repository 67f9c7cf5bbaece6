use Rattle.std.specs.Prelude.{◌≡◌, ◌↔◌, ℕ, ◌<◌, ◌++◌, not, List, [], ◌∷◌, All, length, slice_set}
use Rattle.std.specs.List.{filter, fold}
use Rattle.edit_model.specs.Corrections.{path_order}
use Rattle.edit_model.specs.FieldSets.{set_of}
use Rattle.edit_model.specs.Parts.{SurveyParts}
use Rattle.edit_model.specs.Points.{HasCodesFrom, Point}
use Rattle.edit_model.specs.Rows.{IsRow, is_bad, value_of}
use Rattle.edit_model.specs.declared.field.Field.{Field}
use Rattle.edit_model.specs.declared.value.Value.{Value}
use Rattle.edit_model.specs.declared.value.Value.TheVariants.{Bad}
use Rattle.edit_line.specs.EditSets.{EditsParts, SayTheRules, lines_without}
use Rattle.edit_line.specs.Lines.{LineHolds, LineParts}
use Rattle.edit_line.specs.Reductions.{IsIn}
use Rattle.edit_line.specs.Shapes.{shape_of}
use Rattle.derivation.specs.Premises.{premises_of}
use Rattle.derivation.specs.Refutations.{trues}
use Rattle.derivation.specs.ValidSteps.{AreValidSteps}
use Rattle.derivation.specs.declared.proved.Proved.{Proved}
use Rattle.derivation.specs.declared.step.Step.{Step}
use Rattle.bound_cert.specs.ValidTrees.{Refutes}
use Rattle.edit_paths.specs.Cases.{IsCase, case_of}
use Rattle.deduce_fill.specs.Forced.{HasValue, IsCompletion, IsForced}
use Rattle.deduce_fill.specs.Filled.{IsFilled}
use Rattle.deduce_fill.specs.Tests.{ArePlacedFrom, test_lines}
use Rattle.deduce_fill.specs.declared.filled.Filled.{Filled}
use Rattle.deduce_fill.specs.declared.filled.Filled.TheVariants as filled
use Rattle.deduce_fill.specs.declared.filled.Forced.{Forced}

-- ---- what an answer says of the record

-- one of these is the value at the field
abbrev pub HasForced : List Forced → ℕ → Value → Type 0
HasForced forced f v = (e : Forced) × IsIn e forced × (e.field ≡ f) × (e.value ≡ v)

-- the record with these values
abbrev pub with_forced : List Value → List Forced → List Value
with_forced row forced = fold (λ (row : List Value) (e : Forced). slice_set row e.field e.value) row forced

-- just the values that are forced are filled in
abbrev pub FillsForced : SurveyParts → List Value → Filled → Type 0
FillsForced survey row answer =
    (new : List Value) (forced : List Forced) → answer ≡ filled.Done new forced
    → (new ≡ with_forced row forced) × ((f : ℕ) (v : Value) → HasForced forced f v ↔ IsForced survey row f v)

-- a blocked record has no completion
abbrev pub HasNoCompletion : SurveyParts → List Value → Filled → Type 0
HasNoCompletion survey row answer = (steps : List Step) → answer ≡ filled.Blocked steps → (p : Point) → ¬ IsCompletion survey row p

-- ---- what the steps show

-- the set of the fields at which the record has a value
abbrev pub known_set : List Field → List Value → ℕ
known_set fields row = set_of (filter (λ f. not (is_bad (value_of row f))) (path_order fields))

-- the steps are valid over these lines, with the record's values kept, and their last one proves what no point meets that has these
abbrev pub AreRefuting : SurveyParts → List LineParts → List Value → List Step → Type 0
AreRefuting survey given row steps = (proved : Proved)
    × AreValidSteps (premises_of (shape_of survey.fields) given (trues (length given)) row (known_set survey.fields row)) steps proved
    × Refutes (premises_of (shape_of survey.fields) given (trues (length given)) row (known_set survey.fields row)) proved

-- each list of steps refutes the edits with one of the lines
abbrev pub AreRefutingEach : SurveyParts → List LineParts → List Value → List LineParts → List (List Step) → Type 0
AreRefutingEach survey edits row [] [] = Unit {0}
AreRefutingEach survey edits row (line ∷ lines) (steps ∷ proofs) =
    AreRefuting survey (edits ++ line ∷ []) row steps × AreRefutingEach survey edits row lines proofs
AreRefutingEach survey edits row _ _ = ⊥

-- the proofs of each forced value refute that another value is there, and the steps of a blocked record refute the edits alone
pub record IsShown (survey : SurveyParts) (edits : List LineParts) (row : List Value) (answer : Filled) : Type 0 where
  pub forced : (new : List Value) (all : List Forced) → answer ≡ filled.Done new all → (e : Forced) → IsIn e all
      → AreRefutingEach survey edits row (test_lines (shape_of survey.fields) e.field e.value) e.proofs
  pub blocked : (steps : List Step) → answer ≡ filled.Blocked steps → AreRefuting survey edits row steps

-- ---- laws

-- the edits say what the rules say, are numbered by their places, and the record is one of the survey
pub record IsRuleCase (survey : SurveyParts) (edits : EditsParts) (row : List Value) : Type 0 where
  pub case : IsCase (case_of survey edits row)
  pub shape : edits.shape ≡ shape_of survey.fields
  pub rules : SayTheRules survey edits
  pub placed : ArePlacedFrom 0 edits.lines

-- an answer fills just what is forced, blocks only a record without completions, and is shown by its steps
abbrev pub FilledLaw : Type 0
FilledLaw =
    (survey : SurveyParts) (edits : EditsParts) (row : List Value) (budget : ℕ) (answer : Filled)
    → IsRuleCase survey edits row → IsFilled survey edits row budget answer
    → FillsForced survey row answer × HasNoCompletion survey row answer × IsShown survey (lines_without edits.lines) row answer

-- of a record, the definition allows one answer within a budget: any two are the same
abbrev pub OneAnswerLaw : Type 0
OneAnswerLaw =
    (survey : SurveyParts) (edits : EditsParts) (row : List Value) (budget : ℕ) (answer other : Filled)
    → IsRuleCase survey edits row → IsFilled survey edits row budget answer → IsFilled survey edits row budget other
    → other ≡ answer

-- a point has another value than v at a field exactly where one of the test lines holds
abbrev pub TestLineLaw : Type 0
TestLineLaw =
    (survey : SurveyParts) (row : List Value) (f : ℕ) (p : Point)
    → IsRow survey.fields row → f < length row → (value_of row f ≡ Bad → ⊥) → HasCodesFrom 0 survey.fields p
    → HasValue (value_of row f) p f ↔ All (λ line. ¬ LineHolds line p) (test_lines (shape_of survey.fields) f (value_of row f))
