use Rattle.std.specs.Prelude.{◌≡◌, ◌≢◌, ◌↔◌, ℕ, zero, suc, ◌+◌, ◌++◌, Bool, true, false, List, [], ◌∷◌, Some, if◌then◌else◌, map, nat_lt, slice_get}
use Rattle.edit_model.specs.Parts.{SurveyParts}
use Rattle.edit_model.specs.declared.field.Field.{Field}
use Rattle.edit_line.specs.Lines.{LineParts, is_equal}
use Rattle.edit_line.specs.declared.relation.Relation.TheVariants.{Equal}
use Rattle.edit_line.specs.Shapes.{shape_of}
use Rattle.derivation.specs.Premises.{usable_lines}
use Rattle.derivation.specs.Refutations.{RefutedBy, given_lines, left_at, left_before, no_values, refutation_of, usable_flags}
use Rattle.derivation.specs.declared.step.Step.{Step}
use Rattle.edit_paths.specs.Cases.{SearchCase}
use Rattle.edit_paths.specs.Histories.{steps_to}
use Rattle.edit_paths.specs.PathHistories.{box_history, line_history}
use Rattle.edit_paths.specs.Paths.{field_count}
use Rattle.edit_paths.specs.States.{state_of}
use Rattle.edit_paths.specs.Works.{work_of}
use Rattle.edit_paths.specs.declared.state.PathState.{PathState}
use Rattle.edit_paths.specs.declared.state.PathState.TheVariants.{ClosedBad, ClosedBox, ClosedLine, Open, Overflows}
use Rattle.redundancy.specs.NeededLines.{CanFail}
use Rattle.redundancy.specs.declared.verdict.Verdict.{Verdict}
use Rattle.redundancy.specs.declared.verdict.Verdict.TheVariants.{Dropped, Kept}
use Rattle.redundancy.specs.declared.verdict.Why.TheVariants.{Budget, Equality, Needed, Overflow}

-- Which lines are dropped: those whose negation, with the lines that are left, no point meets, as far as the walk along the
-- path that changes every field finds it.

-- ---- the walk along the path that changes every field

-- the path that changes the first n fields
abbrev pub changing : ℕ → List Bool
changing zero = []
changing (suc n) = changing n ++ true ∷ []

-- what a path of the walk tells: a closed one drops the line with the steps that close it, an overflow keeps it, and after
-- an open one the walk goes on
abbrev pub verdict_by : SearchCase → List Bool → PathState → Verdict → Verdict
verdict_by c path (ClosedLine i) next = Dropped (steps_to (line_history c path) i)
verdict_by c path (ClosedBox i) next = Dropped (steps_to (box_history c path) i)
verdict_by c path (Overflows event) next = Kept Overflow
verdict_by c path ClosedBad next = next
verdict_by c path Open next = next

-- the verdict, unless the work passes the budget
abbrev pub within : ℕ → ℕ → Verdict → Verdict
within budget work verdict = if nat_lt budget work then Kept Budget else verdict

-- what the path of n fields tells
abbrev pub verdict_at : SearchCase → ℕ → Verdict → Verdict
verdict_at c n next = verdict_by c (changing n) (state_of c (changing n)) next

-- the verdict from the path of n fields on, after the work that was spent, where this many fields are left
abbrev pub verdict_from : SearchCase → ℕ → ℕ → ℕ → ℕ → Verdict
verdict_from c budget spent n zero = within budget (spent + work_of c (changing n)) (verdict_at c n (Kept Needed))
verdict_from c budget spent n (suc left) =
    let work = spent + work_of c (changing n) in
    within budget work (verdict_at c n (verdict_from c budget work (suc n) left))

-- the verdict of the walk from the empty path on
abbrev pub verdict_of : SearchCase → ℕ → Verdict
verdict_of c budget = verdict_from c budget 0 0 (field_count c)

-- ---- the verdicts on all lines

-- the line is kept
abbrev pub keeps_line : Verdict → Bool
keeps_line (Kept why) = true
keeps_line (Dropped steps) = false

-- the usable lines, each with its place among the given ones, from i on
abbrev pub usable_from : ℕ → List LineParts → List Bool → List (ℕ × LineParts)
usable_from i (line ∷ given) (true ∷ usable) = (i, line) ∷ usable_from (suc i) given usable
usable_from i (line ∷ given) (false ∷ usable) = usable_from (suc i) given usable
usable_from i _ _ = []

-- the lines that are left and then the line's negation, numbered after all lines
abbrev pub negation_lines : List LineParts → List Bool → LineParts → List (ℕ × LineParts)
negation_lines lines left line = usable_from 0 (given_lines lines line) (usable_flags left line)

-- the lines that are left and the line's negation, at the record without values
abbrev pub negation_case : SurveyParts → List LineParts → List Bool → LineParts → SearchCase
negation_case survey lines left line =
    record { survey = survey; edits = negation_lines lines left line; row = no_values survey.fields }

-- the verdict on a line, where these lines are left: an equality is kept, and of another line the walk tells
abbrev pub verdict_on : SurveyParts → List LineParts → ℕ → List Bool → LineParts → Verdict
verdict_on survey lines budget left line =
    if is_equal line.relation then Kept Equality else verdict_of (negation_case survey lines left line) budget

-- the verdicts on the lines from a place on: the last line is tried first
abbrev pub verdicts_from : SurveyParts → List LineParts → ℕ → ℕ → List LineParts → List Verdict
verdicts_from survey lines budget place [] = []
verdicts_from survey lines budget place (line ∷ later) =
    let verdicts = verdicts_from survey lines budget (suc place) later in
    verdict_on survey lines budget (left_before place (map keeps_line verdicts)) line ∷ verdicts

-- the verdicts on all lines
abbrev pub verdicts_of : SurveyParts → List LineParts → ℕ → List Verdict
verdicts_of survey lines budget = verdicts_from survey lines budget 0 lines

-- ---- what the verdicts say

-- a line that is kept as needed can fail where the lines hold that are left when it is tried
abbrev pub AreNeeded : List Field → List LineParts → List Verdict → Type 0
AreNeeded fields lines verdicts =
    (j : ℕ) (line : LineParts) → slice_get lines j ≡ Some line → slice_get verdicts j ≡ Some (Kept Needed)
    → CanFail fields (usable_lines lines (left_at (map keeps_line verdicts) j)) line

-- a line is kept as an equality exactly where it is one
abbrev pub AreEqualities : List LineParts → List Verdict → Type 0
AreEqualities lines verdicts =
    (j : ℕ) (line : LineParts) → slice_get lines j ≡ Some line → slice_get verdicts j ≡ Some (Kept Equality) ↔ line.relation ≡ Equal

-- a dropped line is no equality, and its steps refute its negation by the lines that are left when it is tried
abbrev pub AreRefuted : List Field → List LineParts → List Verdict → Type 0
AreRefuted fields lines verdicts =
    (j : ℕ) (line : LineParts) (steps : List Step) → slice_get lines j ≡ Some line → slice_get verdicts j ≡ Some (Dropped steps)
    → (line.relation ≢ Equal)
    × RefutedBy (refutation_of (shape_of fields) lines (left_at (map keeps_line verdicts) j) line (no_values fields)) steps
