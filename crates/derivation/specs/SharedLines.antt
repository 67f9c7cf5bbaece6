-- Steps whose lines are written once, in a table: a list of steps each of which gives a line. What a list of steps keeps of its own
-- names them there.
use Rattle.std.specs.Prelude.{◌≡◌, ℕ, ◌+◌, ◌==◌, ◌&&◌, Bool, true, false, if◌then◌else◌, List, [], ◌∷◌, ◌++◌, Option, Some, None, length, map, slice_index_or}
use Rattle.std.specs.List.{list_any, position_or_len}
use Rattle.std.specs.Ordering.{int_eq}
use Rattle.edit_line.specs.Lines.{AreOver, LineParts}
use Rattle.derivation.specs.LineLists.{AllFollowFrom, AreLinesOf}
use Rattle.derivation.specs.Premises.{Premises, premises_of}
use Rattle.derivation.specs.ValidSteps.{AreValidSteps}
use Rattle.derivation.specs.declared.proved.Proved.{Proved}
use Rattle.derivation.specs.declared.proved.Proved.TheVariants as proved
use Rattle.derivation.specs.declared.step.Step.{Step}
use Rattle.derivation.specs.declared.step.Step.TheVariants as step

-- ---- what lists of steps may build on that name lines of a table

-- the lines of a table stand behind the given ones, and may all be used
abbrev pub with_lines : Premises → List LineParts → Premises
with_lines p lines = premises_of p.shape (p.given ++ lines) (p.usable ++ map (λ line. true) lines) p.row p.kept

-- ---- the table

-- whether two steps that give a line are equal
abbrev pub is_same : Step → Step → Bool
is_same (step.Given i) (step.Given j) = i == j
is_same (step.Combine a m b n g) (step.Combine c k d l h) = a == c && (int_eq m k && (b == d && (int_eq n l && int_eq g h)))
is_same _ _ = false

-- the table with the step at its end, unless an equal one is there
abbrev pub with_step : List Step → Step → List Step
with_step table one = if list_any (is_same one) table then table else table ++ one ∷ []

-- the place that the step has there
abbrev pub place_in : List Step → Step → ℕ
place_in table one = position_or_len (is_same one) table

-- a step that gives a line, as it stands in the table: its parts are named by their places there, of which `places` has one for
-- each step before it
abbrev pub as_tabled : List ℕ → Step → Option Step
as_tabled places (step.Given place) = Some (step.Given place)
as_tabled places (step.Combine a m b n g) = Some (step.Combine (slice_index_or places a 0) m (slice_index_or places b 0) n g)
as_tabled places other = None

-- a table, and the place in it of each step of a list; 0 for one that gives no line
pub record Tabled : Type 0 where
  pub table : List Step
  pub places : List ℕ

abbrev pub tabled_of : List Step → List ℕ → Tabled
tabled_of table places = record { table = table; places = places }

-- the same, with one step more
abbrev pub with_tabled : Tabled → Option Step → Tabled
with_tabled t None = tabled_of t.table (t.places ++ 0 ∷ [])
with_tabled t (Some one) = tabled_of (with_step t.table one) (t.places ++ place_in t.table one ∷ [])

-- the same, with these steps more, one after the other
abbrev pub tabled_from : Tabled → List Step → Tabled
tabled_from t [] = t
tabled_from t (one ∷ steps) = tabled_from (with_tabled t (as_tabled t.places one)) steps

-- the table with the steps of a list, and their places there
abbrev pub tabled : List Step → List Step → Tabled
tabled table steps = tabled_from (tabled_of table []) steps

-- ---- what a list of steps keeps of its own

-- the step that names the line at a place of the table, behind this many given lines
abbrev pub shared_step : ℕ → ℕ → Step
shared_step given place = step.Given (given + place)

-- the last number, 0 where there is none
abbrev pub last_of : List ℕ → ℕ
last_of [] = 0
last_of (n ∷ []) = n
last_of (n ∷ next ∷ later) = last_of (next ∷ later)

-- what is kept of steps that prove a line: its name
abbrev pub shared_line : ℕ → List ℕ → List Step
shared_line given places = shared_step given (last_of places) ∷ []

-- whether this is a step that makes a box of the line of the step at the place
abbrev pub fails_at : ℕ → Step → Bool
fails_at place (step.Fail a) = a == place
fails_at place other = false

-- the line of the step at the place becomes a box
abbrev pub is_failed : List Step → ℕ → Bool
is_failed steps place = list_any (fails_at place) steps

-- what is kept of a step, if it is: the name of a line that becomes a box, or the step, with the new places of its parts; `new` has
-- that of each step before it
abbrev pub kept_step : ℕ → Bool → ℕ → List ℕ → Step → Option Step
kept_step given failed place new (step.Fail a) = Some (step.Fail (slice_index_or new a 0))
kept_step given failed place new (step.Cover field parts) = Some (step.Cover field (map (λ part. slice_index_or new part 0) parts))
kept_step given failed place new (step.Fix field part) = Some (step.Fix field (slice_index_or new part 0))
kept_step given failed place new line = if failed then Some (shared_step given place) else None

-- the steps with one more, if it is kept
abbrev pub and_kept : List Step → Option Step → List Step
and_kept kept None = kept
and_kept kept (Some one) = kept ++ one ∷ []

-- what is kept of these steps behind those before them, by which of all steps become boxes, and the places of their lines in the table
abbrev pub kept_from : ℕ → (ℕ → Bool) → List ℕ → List ℕ → List Step → List Step → List Step
kept_from given failed places new kept [] = kept
kept_from given failed places new kept (one ∷ steps) = kept_from given failed places
    (new ++ length kept ∷ [])
    (and_kept kept (kept_step given (failed (length new)) (slice_index_or places (length new) 0) new one))
    steps

-- what is kept of steps that prove a box: the boxes, and the names of the lines that become boxes, in order
abbrev pub shared_box : ℕ → List ℕ → List Step → List Step
shared_box given places steps = kept_from given (is_failed steps) places [] [] steps

-- what is kept of steps, by what they prove at last
abbrev pub shared_steps : ℕ → List ℕ → List Step → Proved → List Step
shared_steps given places steps (proved.Line line) = shared_line given places
shared_steps given places steps (proved.Box code_box) = shared_box given places steps

-- ---- what is shown of them

-- the steps prove the last line, or the last box, and so does what is kept of them, where the lines of the table may be named:
-- these stand behind those that the table had
abbrev pub SharingLaw : Type 0
SharingLaw = (p : Premises) (table : List Step) (lines : List LineParts) (steps : List Step) (last : Proved)
    → length p.given ≡ length p.usable → AreLinesOf p table lines → AreValidSteps p steps last
    → (more : List LineParts) × AreLinesOf p (tabled table steps).table (lines ++ more)
    × AreValidSteps (with_lines p (lines ++ more)) (shared_steps (length p.given) (tabled table steps).places steps last) last

-- and where the table grows
abbrev pub GrowingLaw : Type 0
GrowingLaw = (p : Premises) (lines more : List LineParts) (steps : List Step) (last : Proved)
    → AreValidSteps (with_lines p lines) steps last → AreValidSteps (with_lines p (lines ++ more)) steps last

-- the line of each step of a table follows from the usable lines
abbrev pub FollowLaw : Type 0
FollowLaw = (p : Premises) (steps : List Step) (lines : List LineParts)
    → AreOver p.shape p.given → AreLinesOf p steps lines → AllFollowFrom p lines × AreOver p.shape lines
