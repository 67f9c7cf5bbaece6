use Rattle.std.proofs.Common.{◌≡◌, ℕ, Bool, if◌then◌else◌, List, [], ◌∷◌, Some, None, Result, Ok, Err, map, slice_get, refl, sym, ap, ◌∙◌, subst}
use Rattle.foundation.specs.Results.{◌>>=◌, fault_as}
use Rattle.edit_line.specs.Combinations.{sum_of}
use Rattle.edit_line.specs.Divisors.{divided_by}
use Rattle.edit_line.specs.EditSets.{base_lines, edits_of}
use Rattle.edit_line.specs.Lines.{HaveShape, LineParts}
use Rattle.edit_line.specs.Reductions.{IsIn, lines_of, reduce_derived}
use Rattle.edit_line.specs.Shapes.{Domain, shape_of}
use Rattle.edit_line.specs.declared.derived.Derived.{Derived}
use Rattle.edit_line.specs.declared.derived.Origin.{Origin}
use Rattle.edit_line.specs.declared.derived.Origin.TheVariants as origin
use Rattle.edit_line.proofs.ListPlaces.{get-map, some_with}
use Rattle.edit_line.proofs.Members.{in-all}
use Rattle.linear_elim.specs.Origins.{ComesFrom, IsEdit, IsTakenSum}
use Rattle.linear_elim.specs.Steps.{StepOverflow, step_result}
use Rattle.linear_elim.specs.Systems.{fold_result, overflow_at, system_of}
use Rattle.linear_elim.proofs.MadeLaws.{start-edits}
use Rattle.linear_elim.proofs.OriginLaws.{origins-result}
use Rattle.linear_elim.proofs.ResultLaws.{HaveShape-result}
use Rattle.derivation.specs.Premises.{Premises}
use Rattle.derivation.specs.ValidSteps.{combined_line, given_line}
use Rattle.derivation.specs.declared.proved.Proved.{Proved}
use Rattle.derivation.specs.declared.proved.Proved.TheVariants as proved
use Rattle.edit_paths.specs.Cases.{SearchCase, IsCase}
use Rattle.edit_paths.specs.Histories.{History, line_by, with_lines}
use Rattle.edit_paths.specs.PathHistories.{and_next, line_history, lines_reached}
use Rattle.edit_paths.specs.Paths.{changed_numbers}
use Rattle.edit_paths.proofs.CaseSystems.{start_over}
use Rattle.edit_paths.proofs.StepsWritten.{Elements, IsMade, IsMadeBy, last_of, list-made}

-- The lines of a path's systems are made as their origins say.

-- the lines, as what steps prove
abbrev pub line_values : List Derived → List Proved
line_values lines = map (λ (d : Derived). proved.Line d.line) lines

-- each line is made from what was proved as its origin says
abbrev pub LinesMade : Premises → List Proved → List Derived → Type 0
LinesMade p before lines = (d : Derived) → IsIn d lines → IsMadeBy p before (proved.Line d.line) (line_by d.origin)

-- ---- one step

pub line-value : (lines : List Derived) (i : ℕ) (d : Derived) → slice_get lines i ≡ Some d → slice_get (line_values lines) i ≡ Some (proved.Line d.line)
line-value lines i d at = get-map (λ (d : Derived). proved.Line d.line) lines i d at

-- a line that comes from lines is made from them
comes-made : (p : Premises) (lines : List Derived) (line : LineParts) (o : Origin) → ComesFrom lines line o
    → IsMadeBy p (line_values lines) (proved.Line line) (line_by o)
comes-made p lines line (origin.Base number) comes = absurd comes
comes-made p lines line (origin.Same i) comes =
    let (s, at, same) = some_with (λ (s : Derived). line ≡ s.line) (slice_get lines i) comes in
    line-value lines i s at ∙ ap (λ (l : LineParts). Some (proved.Line l)) (sym same)
comes-made p lines line (origin.Pair i m j n g) comes =
    let (s, s_at, rest) = some_with _ (slice_get lines i) comes in
    let (t, t_at, sum) = some_with _ (slice_get lines j) rest in
    rw (line-value lines i s s_at, line-value lines j t t_at) (taken s.line t.line sum)
  where
    taken : (s t : LineParts) → IsTakenSum m n g s t line → combined_line m n g s t ≡ Some (proved.Line line)
    taken s t sum = ap (λ b. if b then Some (proved.Line (divided_by g (sum_of m n s t))) else None) sum.may
        ∙ ap (λ (l : LineParts). Some (proved.Line l)) (sym sum.line_is)

-- each line of a step is made from the lines as its origin says
step-made : (p : Premises) (shape : List Domain) (lines : List Derived) (f : ℕ) (ys : List Derived) → HaveShape shape (lines_of lines) → step_result lines f
    ≡ Ok ys → LinesMade p (line_values lines) ys
step-made p shape lines f ys over made d there = comes-made p lines d.line d.origin (in-all (λ (d : Derived). ComesFrom lines d.line d.origin) d ys
    (origins-result shape lines f over ys made) there)

-- ---- the histories of lines

-- the edits stand among the usable given lines, at their numbers
abbrev pub AreUsable : Premises → List (ℕ × LineParts) → Type 0
AreUsable p edits = (e : ℕ × LineParts) → IsIn e edits → given_line p e.0 ≡ Some (proved.Line e.1)

base-made : (c : SearchCase) → IsCase c → (p : Premises) → AreUsable p c.edits → LinesMade p [] (reduce_derived (base_lines c.edits))
base-made c is p usable d there =
    let (e, e_in, same) = in-all (IsEdit c.edits) d (reduce_derived (base_lines c.edits)) (start-edits (edits_of (shape_of c.survey.fields) c.edits)
    (reduce_derived (base_lines c.edits)) is.edits) there in
    subst (λ (x : Derived). IsMadeBy p [] (proved.Line x.line) (line_by x.origin)) (sym same) (usable e e_in)

lines-made : (p : Premises) (shape : List Domain) (history : History) (before : Elements) (lines : List Derived) (fields : List ℕ) (last : List Derived)
    → HaveShape shape (lines_of lines) → IsMade p history before → LinesMade p (last_of before) lines
    → fold_result lines fields ≡ Ok last → (values : Elements) × IsMade p (lines_reached history lines fields) values × (last_of values ≡ line_values last)
lines-made p shape history before lines [] last over made here e = (
  line_values lines ∷ before,
  (list-made p (last_of before) (λ (d : Derived). proved.Line d.line) (λ (d : Derived). line_by d.origin) lines here, made),
  ap (λ (ds : List Derived). line_values ds) (cc),
)
lines-made p shape history before lines (f ∷ fields) last over made here e =
    by (step_result lines f) refl e (λ next over_next made_next h.
    lines-made p shape (with_lines history lines) (line_values lines ∷ before) next fields last over_next
    (list-made p (last_of before) (λ (d : Derived). proved.Line d.line) (λ (d : Derived). line_by d.origin) lines here, made) made_next h)
  where
    by : (r : Result (List Derived) StepOverflow) → step_result lines f ≡ r → (fault_as (overflow_at f) r >>= (λ next. fold_result next fields)) ≡ Ok last
        → ((next : List Derived) → HaveShape shape (lines_of next) → LinesMade p (line_values lines) next → fold_result next fields ≡ Ok last
        → (values : Elements) × IsMade p (lines_reached (with_lines history lines) next fields) values × (last_of values ≡ line_values last))
        → (values : Elements) × IsMade p (and_next (with_lines history lines) r (λ next. lines_reached (with_lines history lines) next fields)) values
        × (last_of values ≡ line_values last)
    by (Ok next) is h rest = rest next (HaveShape-result shape lines f next is over) (step-made p shape lines f next over is) h
    by (Err fault) is h rest = absurd (cc)

-- the lines of a path's system are made as its history says
pub line-history-made : (c : SearchCase) (is : IsCase c) (path : List Bool) (p : Premises) (lines : List Derived) → AreUsable p c.edits
    → system_of c.edits (changed_numbers c path) ≡ Ok lines
    → (values : Elements) × IsMade p (line_history c path) values × (last_of values ≡ line_values lines)
line-history-made c is path p lines usable made =
    lines-made p (shape_of c.survey.fields) [] [] (reduce_derived (base_lines c.edits)) (changed_numbers c path) lines (start_over c is) tt
    (base-made c is p usable) made
