use Rattle.std.specs.Prelude.{◌≡◌, ◌⊎◌, ℕ, suc, ◌++◌, List, [], ◌∷◌, None, slice_set}
use Rattle.edit_model.specs.Parts.{SurveyParts}
use Rattle.edit_model.specs.Points.{Point}
use Rattle.edit_model.specs.Rows.{value_of}
use Rattle.edit_model.specs.declared.value.Value.{Value}
use Rattle.edit_line.specs.EditSets.{EditsParts}
use Rattle.edit_line.specs.Lines.{LineParts}
use Rattle.edit_line.specs.Shapes.{shape_of}
use Rattle.derivation.specs.declared.step.Step.{Step}
use Rattle.edit_paths.specs.Cases.{SearchCase, case_of}
use Rattle.prefix_walk.specs.PathWalks.{walk_along}
use Rattle.prefix_walk.specs.declared.walk_end.WalkEnd.{WalkEnd}
use Rattle.prefix_walk.specs.declared.walk_end.WalkEnd.TheVariants as walk
use Rattle.back_subst.specs.Allowed.{Completes}
use Rattle.back_subst.specs.GiveFaults.{AreAllComputed, AllHoldAt, StopsThere}
use Rattle.back_subst.specs.Given.{IsImputed}
use Rattle.back_subst.specs.declared.gift.GiveFault.{GiveFault}
use Rattle.deduce_fill.specs.Tests.{bad_fields, bad_set, own_path, test_lines, with_line}
use Rattle.deduce_fill.specs.declared.filled.Filled.{Filled}
use Rattle.deduce_fill.specs.declared.filled.Filled.TheVariants as filled
use Rattle.deduce_fill.specs.declared.filled.Forced.{Forced}
use Rattle.deduce_fill.specs.declared.filled.Tested.{Tested}
use Rattle.deduce_fill.specs.declared.filled.Tested.TheVariants as tested

-- What becomes of a record: its path is walked over the edits; then a candidate is given, and each field is tested by whether
-- another value than the candidate's is possible there.

-- what a walk of this test tells; where it closes, the next test follows
abbrev pub tested_by : ℕ → WalkEnd → (List Step → ℕ → Tested) → Tested
tested_by test (walk.Closed steps work) next = next steps work
tested_by test (walk.Open work) next = tested.Free test work
tested_by test (walk.Budget work) next = tested.Stopped (filled.Budget work)
tested_by test walk.Overflow next = tested.Stopped (filled.Overflow test)

-- the walk along the record's path, over the edits and one line, after this work
abbrev pub walk_with : SearchCase → LineParts → ℕ → ℕ → WalkEnd
walk_with c line budget work = walk_along (with_line c line) (own_path c.survey.fields c.row) budget work

-- the tests of a field, one for each line, after this many tests and this work, and those that closed by these steps
abbrev pub tested_from : SearchCase → ℕ → ℕ → ℕ → List (List Step) → List LineParts → Tested
tested_from c budget tests work proofs [] = tested.Closed proofs tests work
tested_from c budget tests work proofs (line ∷ lines) =
    tested_by (suc tests) (walk_with c line budget work)
    (λ steps work. tested_from c budget (suc tests) work (proofs ++ steps ∷ []) lines)

-- the answer after the tests of a field: by whether all closed, so that it is forced, or one was free, or they stopped
abbrev pub filled_by : Tested → (List (List Step) → ℕ → ℕ → Filled) → (ℕ → ℕ → Filled) → Filled
filled_by (tested.Closed proofs tests work) closed free = closed proofs tests work
filled_by (tested.Free tests work) closed free = free tests work
filled_by (tested.Stopped answer) closed free = answer

-- the fields, one after the other, with the candidate's values; the record and the forced values so far
abbrev pub filled_from : SearchCase → List Value → ℕ → ℕ → ℕ → List Value → List Forced → List ℕ → Filled
filled_from c new budget tests work row forced [] = filled.Done row forced
filled_from c new budget tests work row forced (f ∷ fields) =
    filled_by (tested_from c budget tests work [] (test_lines (shape_of c.survey.fields) f (value_of new f)))
    (λ proofs tests work. filled_from c new budget tests work (slice_set row f (value_of new f))
    (forced ++ record { field = f; value = value_of new f; proofs = proofs } ∷ []) fields)
    (λ tests work. filled_from c new budget tests work row forced fields)

-- a candidate: the record with a value given at each field without one, for no donor; it is consistent
pub record IsCandidate (survey : SurveyParts) (edits : EditsParts) (row new : List Value) : Type 0 where
  pub imputed : IsImputed survey row (bad_set survey.fields row) None new
  pub computed : AreAllComputed survey edits (bad_set survey.fields row) None new
  pub tested : AllHoldAt survey new
  pub completed : (p : Point) × Completes survey new [] p

-- the answer after the walk over the edits: a candidate is given and tested, or its giving leaves the range
abbrev pub IsFilledAfter : SurveyParts → EditsParts → List Value → ℕ → WalkEnd → Filled → Type 0
IsFilledAfter survey edits row budget (walk.Open work) answer =
    ((new : List Value) × IsCandidate survey edits row new
    × (answer ≡ filled_from (case_of survey edits row) new budget 0 work row [] (bad_fields survey.fields row)))
    ⊎ ((fault : GiveFault) × StopsThere survey edits row (bad_set survey.fields row) None fault × (answer ≡ filled.Overflow 0))
IsFilledAfter survey edits row budget (walk.Closed steps work) answer = answer ≡ filled.Blocked steps
IsFilledAfter survey edits row budget (walk.Budget work) answer = answer ≡ filled.Budget work
IsFilledAfter survey edits row budget walk.Overflow answer = answer ≡ filled.Overflow 0

-- the answer, by the fields without a value: a record without such a field is done
abbrev pub IsFilledWith : SurveyParts → EditsParts → List Value → ℕ → List ℕ → Filled → Type 0
IsFilledWith survey edits row budget [] answer = answer ≡ filled.Done row []
IsFilledWith survey edits row budget (f ∷ fields) answer =
    IsFilledAfter survey edits row budget (walk_along (case_of survey edits row) (own_path survey.fields row) budget 0) answer

-- the answer for a record
abbrev pub IsFilled : SurveyParts → EditsParts → List Value → ℕ → Filled → Type 0
IsFilled survey edits row budget answer = IsFilledWith survey edits row budget (bad_fields survey.fields row) answer

-- each answer that the definition allows for the record is this one
abbrev pub IsOnlyAnswer : SurveyParts → EditsParts → List Value → ℕ → Filled → Type 0
IsOnlyAnswer survey edits row budget answer = (due : Filled) → IsFilled survey edits row budget due → answer ≡ due
