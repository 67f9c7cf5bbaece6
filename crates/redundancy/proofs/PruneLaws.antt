use Rattle.std.proofs.Common.{◌≡◌, ◌≢◌, ◌↔◌, ◌&&◌, ◌⊎◌, inl, inr, ℕ, zero, suc, ◌+◌, ◌<◌, Bool, true, false, not, if◌then◌else◌, nat_lt, List, [], ◌∷◌, ◌++◌}
use Rattle.std.proofs.Common.{All, IsTrue, Option, Some, None, Result, Ok, drop, length, map, slice_get, slice_index_or, refl, sym, ap, ◌∙◌, subst, arith}
use Rattle.std.specs.Bool.{Decides}
use Rattle.std.proofs.lemmas.List.{drop-map, length-map}
use Rattle.foundation.specs.Options.{◌>>?◌}
use Rattle.edit_model.specs.FieldSets.{has_number}
use Rattle.edit_model.specs.Parts.{SurveyParts}
use Rattle.edit_model.specs.Points.{HasCodesFrom, Point}
use Rattle.edit_model.specs.Surveys.{IsField}
use Rattle.edit_model.specs.declared.value.Value.{Value}
use Rattle.edit_model.proofs.FieldSetLaws.{has-none}
use Rattle.edit_line.specs.Boxes.{are_whole}
use Rattle.edit_line.specs.Lines.{AllHold, AreOver, Follows, IsLine, LineHolds, LineParts, is_equal}
use Rattle.edit_line.specs.declared.relation.Relation.TheVariants.{Equal}
use Rattle.edit_line.proofs.RelationLaws.{is_equal-Decides, not_equal}
use Rattle.edit_line.specs.Negations.{negation_of}
use Rattle.edit_line.specs.Reductions.{IsIn}
use Rattle.edit_line.specs.Shapes.{Domain, HasCodes, number_fields, shape_of}
use Rattle.edit_line.specs.Subsumption.{has_no_factor, is_enough, is_false}
use Rattle.edit_line.specs.Sums.{fails_at, stands_only}
use Rattle.edit_line.proofs.BoolLaws.{both_true, true-both}
use Rattle.edit_line.proofs.Members.{all-in, in-all, in-get, in-left, in-right}
use Rattle.edit_line.proofs.NegationLaws.{negation-fails}
use Rattle.edit_line.proofs.ShapeLaws.{HasCodes-shape}
use Rattle.derivation.specs.Premises.{Premises, usable_lines}
use Rattle.derivation.specs.Refutations.{RefutedBy, given_lines, is_absurd, left_before, no_values, refutation_of, usable_flags, left_at}
use Rattle.derivation.specs.ValidSteps.{AreValidSteps, given_line, steps_result}
use Rattle.derivation.specs.declared.proved.Proved.{Proved}
use Rattle.derivation.specs.declared.proved.Proved.TheVariants as proved
use Rattle.derivation.specs.declared.step.Step.{Step}
use Rattle.derivation.proofs.RefutationLaws.{get-below, kept-follow, length-left, row-no_values}
use Rattle.bound_cert.specs.Paths.{keeps}
use Rattle.edit_paths.specs.Cases.{SearchCase, IsCase}
use Rattle.edit_paths.specs.Histories.{steps_to}
use Rattle.edit_paths.specs.PathHistories.{box_history, line_history}
use Rattle.edit_paths.specs.Paths.{field_count}
use Rattle.edit_paths.specs.States.{state_of}
use Rattle.edit_paths.specs.Works.{work_of}
use Rattle.edit_paths.specs.declared.state.PathState.{PathState}
use Rattle.edit_paths.specs.declared.state.PathState.TheVariants.{ClosedBad, ClosedBox, ClosedLine, Open, Overflows}
use Rattle.edit_paths.proofs.BadFields.{is-bad}
use Rattle.edit_paths.proofs.ClosingSteps.{closing-box, closing-line}
use Rattle.edit_paths.proofs.LineHistories.{AreUsable}
use Rattle.edit_paths.proofs.OpenPaths.{open-point}
use Rattle.redundancy.specs.NeededLines.{CanFail}
use Rattle.redundancy.specs.Verdicts.{changing, keeps_line, negation_case, usable_from, verdict_by, verdict_from, verdict_of, verdict_on, verdicts_from, within}
use Rattle.redundancy.specs.declared.verdict.Verdict.{Verdict}
use Rattle.redundancy.specs.declared.verdict.Verdict.TheVariants.{Dropped, Kept}
use Rattle.redundancy.specs.declared.verdict.Why.TheVariants.{Budget, Equality, Needed}
use Rattle.redundancy.proofs.BaseLaws.{IsTried, line-is_case, verdicts-count, left_by}
use Rattle.redundancy.proofs.WalkPaths.{keeps-no_bad, keeps-none, length-changing, no-factor, stands-none}

-- What the verdicts show.

-- ---- where a verdict comes from

-- a path of the walk is closed, and its steps are these
abbrev pub IsClosedWith : SearchCase → List Step → ℕ → Type 0
IsClosedWith c steps n = (k : ℕ) × ((state_of c (changing n) ≡ ClosedLine k × (steps ≡ steps_to (line_history c (changing n)) k))
    ⊎ (state_of c (changing n) ≡ ClosedBox k × (steps ≡ steps_to (box_history c (changing n)) k)))

not-bad : (c : SearchCase) (n : ℕ) → state_of c (changing n) ≡ ClosedBad → ⊥
not-bad c n e = cc (sym (is-bad c (changing n) e) ∙ keeps-no_bad c n)

module _ (c : SearchCase) (budget : ℕ) where
  dropped-by : (steps : List Step) (n spent : ℕ) (next : Verdict) (Found : Type 0) → (IsClosedWith c steps n → Found) → (next ≡ Dropped steps → Found)
      → within budget spent (verdict_by c (changing n) (state_of c (changing n)) next) ≡ Dropped steps → Found
  dropped-by steps n spent next Found here later e = by (nat_lt budget spent) (state_of c (changing n)) refl e
    where
      by : (b : Bool) (s : PathState) → state_of c (changing n) ≡ s → (if b then Kept Budget else verdict_by c (changing n) s next) ≡ Dropped steps → Found
      by true s is h = absurd (cc)
      by false (ClosedLine k) is h = let same : steps_to (line_history c (changing n)) k ≡ steps = cc in here (k, inl (is, sym same))
      by false (ClosedBox k) is h = let same : steps_to (box_history c (changing n)) k ≡ steps = cc in here (k, inr (is, sym same))
      by false (Overflows event) is h = absurd (cc)
      by false ClosedBad is h = later h
      by false Open is h = later h

  dropped-from : (steps : List Step) (left n spent : ℕ) → verdict_from c budget spent n left ≡ Dropped steps → (m : ℕ) × IsClosedWith c steps m
  dropped-from steps zero n spent e = dropped-by steps n (spent + work_of c (changing n)) (Kept Needed) ((m : ℕ) × IsClosedWith c steps m)
      (λ closed. (n, closed)) (λ none. absurd (cc)) e
  dropped-from steps (suc left) n spent e =
      dropped-by steps n (spent + work_of c (changing n)) (verdict_from c budget (spent + work_of c (changing n)) (suc n) left)
      ((m : ℕ) × IsClosedWith c steps m) (λ closed. (n, closed)) (λ h. dropped-from steps left (suc n) (spent + work_of c (changing n)) h) e

  needed-last : (n spent : ℕ) → within budget spent (verdict_by c (changing n) (state_of c (changing n)) (Kept Needed)) ≡ Kept Needed → state_of c (changing n)
      ≡ Open
  needed-last n spent e = by (nat_lt budget spent) (state_of c (changing n)) refl e
    where
      by : (b : Bool) (s : PathState) → state_of c (changing n) ≡ s → (if b then Kept Budget else verdict_by c (changing n) s (Kept Needed)) ≡ Kept Needed
          → state_of c (changing n) ≡ Open
      by true s is h = absurd (cc)
      by false (ClosedLine k) is h = absurd (cc)
      by false (ClosedBox k) is h = absurd (cc)
      by false (Overflows event) is h = absurd (cc)
      by false ClosedBad is h = absurd (not-bad c n is)
      by false Open is h = is

  needed-step : (n spent : ℕ) (next : Verdict) → within budget spent (verdict_by c (changing n) (state_of c (changing n)) next) ≡ Kept Needed → next
      ≡ Kept Needed
  needed-step n spent next e = by (nat_lt budget spent) (state_of c (changing n)) e
    where
      by : (b : Bool) (s : PathState) → (if b then Kept Budget else verdict_by c (changing n) s next) ≡ Kept Needed → next ≡ Kept Needed
      by true s h = absurd (cc)
      by false (ClosedLine k) h = absurd (cc)
      by false (ClosedBox k) h = absurd (cc)
      by false (Overflows event) h = absurd (cc)
      by false ClosedBad h = h
      by false Open h = h

  nothing : (n : ℕ) → n + 0 ≡ n
  nothing n = omega arith

  shifted : (n left : ℕ) → n + suc left ≡ suc n + left
  shifted n left = omega arith

  needed-from : (left n spent : ℕ) → verdict_from c budget spent n left ≡ Kept Needed → state_of c (changing (n + left)) ≡ Open
  needed-from zero n spent e = ap (λ m. state_of c (changing m)) (nothing n) ∙ needed-last n (spent + work_of c (changing n)) e
  needed-from (suc left) n spent e =
      ap (λ m. state_of c (changing m)) (shifted n left) ∙ needed-from left (suc n) (spent + work_of c (changing n))
      (needed-step n (spent + work_of c (changing n)) (verdict_from c budget (spent + work_of c (changing n)) (suc n) left) e)

  -- no verdict of the walk is that of an equality
  never-by : (n spent : ℕ) (next : Verdict) → (next ≡ Kept Equality → ⊥) → within budget spent (verdict_by c (changing n) (state_of c (changing n)) next)
      ≡ Kept Equality → ⊥
  never-by n spent next later e = by (nat_lt budget spent) (state_of c (changing n)) e
    where
      by : (b : Bool) (s : PathState) → (if b then Kept Budget else verdict_by c (changing n) s next) ≡ Kept Equality → ⊥
      by true s h = cc
      by false (ClosedLine k) h = cc
      by false (ClosedBox k) h = cc
      by false (Overflows event) h = cc
      by false ClosedBad h = later h
      by false Open h = later h

  never-from : (left n spent : ℕ) → verdict_from c budget spent n left ≡ Kept Equality → ⊥
  never-from zero n spent e = never-by n (spent + work_of c (changing n)) (Kept Needed) (λ h. cc) e
  never-from (suc left) n spent e =
      never-by n (spent + work_of c (changing n)) (verdict_from c budget (spent + work_of c (changing n)) (suc n) left)
      (λ h. never-from left (suc n) (spent + work_of c (changing n)) h) e

-- what the walk tells, it tells of a line that is no equality
walked : (survey : SurveyParts) (lines : List LineParts) (budget : ℕ) (left : List Bool) (line : LineParts) (v : Verdict) → (Kept Equality ≡ v → ⊥)
    → verdict_on survey lines budget left line ≡ v
    → (line.relation ≢ Equal) × (verdict_of (negation_case survey lines left line) budget ≡ v)
walked survey lines budget left line v other e = by (is_equal line.relation) refl e
  where
    by : (b : Bool) → is_equal line.relation ≡ b → (if b then Kept Equality else verdict_of (negation_case survey lines left line) budget) ≡ v
        → (line.relation ≢ Equal) × (verdict_of (negation_case survey lines left line) budget ≡ v)
    by true is h = absurd (other h)
    by false is h = (not_equal line.relation is, h)

needed_apart : Kept Equality ≡ Kept Needed → ⊥
needed_apart e = cc

dropped_apart : (steps : List Step) → Kept Equality ≡ Dropped steps → ⊥
dropped_apart steps e = cc

-- ---- the premises

-- a line without factors that fails is false
false-line : (l : LineParts) (row : List Value) → has_no_factor l ≡ true → fails_at l row ≡ Ok true → IsTrue (is_false l)
false-line l row none fails = ap (λ b. b && not (is_enough l.relation l.constant)) none ∙ inside (not (is_enough l.relation l.constant))
    (sym (no-factor l row none) ∙ fails)
  where
    inside : (b : Bool) → (let answer : Result Bool ℕ = Ok b in answer ≡ Ok true) → b ≡ true
    inside b e = cc

pub usable-place : (i : ℕ) (given : List LineParts) (usable : List Bool) (e : ℕ × LineParts) → IsIn e (usable_from i given usable) → (k : ℕ) × (e.0 ≡ i + k)
    × (slice_get given k ≡ Some e.1) × (slice_index_or usable k false ≡ true)
usable-place i [] usable e there = absurd there
usable-place i (l ∷ given) [] e there = absurd there
usable-place i (l ∷ given) (true ∷ usable) e (inl is) = (
  0,
  ap (λ (e : ℕ × LineParts). e.0) is ∙ omega arith,
  ap (λ (e : ℕ × LineParts). Some e.1) (sym is),
  refl,
)
usable-place i (l ∷ given) (true ∷ usable) e (inr there) = let (k, number, at, used) = usable-place (suc i) given usable e there in
    (suc k, number ∙ omega arith, at, used)
usable-place i (l ∷ given) (false ∷ usable) e there = let (k, number, at, used) = usable-place (suc i) given usable e there in
    (suc k, number ∙ omega arith, at, used)

pub usable-plain : (i : ℕ) (given : List LineParts) (usable : List Bool) → map (λ (e : ℕ × LineParts). e.1) (usable_from i given usable)
    ≡ usable_lines given usable
usable-plain i [] usable = refl
usable-plain i (l ∷ given) [] = refl
usable-plain i (l ∷ given) (true ∷ usable) = ap (λ (ls : List LineParts). l ∷ ls) (usable-plain (suc i) given usable)
usable-plain i (l ∷ given) (false ∷ usable) = usable-plain (suc i) given usable

module _ (survey : SurveyParts) (lines : List LineParts) (left : List Bool) (line : LineParts) (is : IsCase (negation_case survey lines left line)) where
  abbrev c : SearchCase
  c = negation_case survey lines left line

  abbrev p : Premises
  p = refutation_of (shape_of survey.fields) lines left line (no_values survey.fields)

  are_usable : AreUsable p c.edits
  are_usable e there =
      let (k, number, at, used) = usable-place 0 (given_lines lines line) (usable_flags left line) e there in
      let same : e.0 ≡ k = number ∙ omega arith in
      ap (λ n. given_line p n) same ∙ ap (λ b. if b then (slice_get p.given k >>? (λ l. Some (proved.Line l))) else None) used
      ∙ ap (λ (o : Option LineParts). (o >>? (λ l. Some (proved.Line l)))) at

  none_kept : (n f : ℕ) → has_number 0 f ≡ keeps c.survey.fields (changing n) f
  none_kept n f = has-none f ∙ sym (keeps-none c n f)

  -- the steps of a line that is dropped prove something absurd
  pub dropped-steps : (budget : ℕ) (steps : List Step) → verdict_of c budget ≡ Dropped steps → (x : Proved) × AreValidSteps p steps x
      × IsTrue (is_absurd (shape_of survey.fields) x)
  dropped-steps budget steps e = by (dropped-from c budget steps (field_count c) 0 0 e)
    where
      by : (m : ℕ) × IsClosedWith c steps m → (x : Proved) × AreValidSteps p steps x × IsTrue (is_absurd (shape_of survey.fields) x)
      by (n, (k, inl (state, same))) =
          let (l, closing) = closing-line c is (changing n) (keeps-no_bad c n) (given_lines lines line) (usable_flags left line) 0 (λ f there. none_kept n f)
          are_usable k state in
          let (whole, stands) = both_true (are_whole (shape_of c.survey.fields) l.sets) (stands_only (keeps c.survey.fields (changing n))
          (number_fields l.shape) l.factors) closing.asks in
          let none : has_no_factor l ≡ true =
          sym (stands-none c n (number_fields l.shape) l.factors (closing.over.factors
          ∙ ap (λ (s : List Domain). length (number_fields s)) (sym closing.over.same))) ∙ stands in (
            proved.Line l,
            ap (λ (s : List Step). steps_result p s) same ∙ closing.valid,
            true-both (are_whole (shape_of survey.fields) l.sets) (is_false l) whole (false-line l (no_values survey.fields) none closing.fails),
          )
      by (n, (k, inr (state, same))) =
          let (b, closing) = closing-box c is (changing n) (keeps-no_bad c n) (given_lines lines line) (usable_flags left line) 0 (λ f there. none_kept n f)
          are_usable k state in
          (proved.Box b.code_box, ap (λ (s : List Step). steps_result p s) same ∙ closing.valid, closing.whole)

  nothing-first : (n : ℕ) → 0 + n ≡ n
  nothing-first n = omega arith

  -- a line that is needed fails at a point at which the lines that are left hold
  pub needed-point : (budget : ℕ) → IsLine line → line.shape ≡ shape_of survey.fields → verdict_of c budget ≡ Kept Needed → (q : Point)
      × HasCodesFrom 0 survey.fields q × AllHold (usable_lines (given_lines lines line) (usable_flags left line)) q
  needed-point budget is_line over e =
      let (q, meets, agrees) = open-point c is (changing (field_count c)) (length-changing (field_count c))
      (ap (λ m. state_of c (changing m)) (sym (nothing-first (field_count c))) ∙ needed-from c budget (field_count c) 0 0 e) in
      (q, meets.codes, subst (λ (ls : List LineParts). AllHold ls q) (usable-plain 0 (given_lines lines line) (usable_flags left line)) meets.edits)

-- ---- the verdicts on all lines

usable-join : (lines more : List LineParts) (left flags : List Bool) → length left ≡ length lines → usable_lines (lines ++ more) (left ++ flags)
    ≡ usable_lines lines left ++ usable_lines more flags
usable-join [] more [] flags same = refl
usable-join [] more (b ∷ left) flags same = absurd (omega (arith, same))
usable-join (l ∷ lines) more [] flags same = absurd (omega (arith, same))
usable-join (l ∷ lines) more (true ∷ left) flags same = ap (λ (ls : List LineParts). l ∷ ls) (usable-join lines more left flags (omega (arith, same)))
usable-join (l ∷ lines) more (false ∷ left) flags same = usable-join lines more left flags (omega (arith, same))

usable-all : (lines : List LineParts) → usable_lines lines (map (λ l. true) lines) ≡ lines
usable-all [] = refl
usable-all (l ∷ lines) = ap (λ (ls : List LineParts). l ∷ ls) (usable-all lines)

-- a line is kept, or dropped with steps
kept-or : (verdicts : List Verdict) (place : ℕ) → place < length verdicts → (slice_index_or (map keeps_line verdicts) place false ≡ true)
    ⊎ ((steps : List Step) × (slice_get verdicts place ≡ Some (Dropped steps)))
kept-or [] place below = absurd (omega arith)
kept-or (Dropped steps ∷ verdicts) zero below = inr (steps, refl)
kept-or (Kept why ∷ verdicts) zero below = inl refl
kept-or (v ∷ verdicts) (suc place) below = kept-or verdicts place (omega arith)

module _ (survey : SurveyParts) (are_fields : All IsField survey.fields) (lines : List LineParts) (over : AreOver (shape_of survey.fields) lines)
    (are : All IsLine lines) (budget : ℕ) where
  abbrev verdicts : List Verdict
  verdicts = verdicts_from survey lines budget 0 lines

  verdict-from : (place : ℕ) (later : List LineParts) (k : ℕ) (line : LineParts) → slice_get later k ≡ Some line
      → slice_get (verdicts_from survey lines budget place later) k
      ≡ Some (verdict_on survey lines budget (left_by (place + k) (drop (suc k) (verdicts_from survey lines budget place later))) line)
  verdict-from place [] k line at = absurd (cc)
  verdict-from place (l ∷ later) zero line at =
      let same : l ≡ line = cc in
      ap (λ (m : LineParts). Some (verdict_on survey lines budget (left_by place (verdicts_from survey lines budget (suc place) later)) m)) same
      ∙ ap (λ n. Some (verdict_on survey lines budget (left_by n (verdicts_from survey lines budget (suc place) later)) line)) (number place)
    where
      number : (n : ℕ) → n ≡ n + 0
      number n = omega arith
  verdict-from place (l ∷ later) (suc k) line at =
      verdict-from (suc place) later k line at
      ∙ ap (λ n. Some (verdict_on survey lines budget (left_by n (drop (suc k) (verdicts_from survey lines budget (suc place) later))) line)) (number place k)
    where
      number : (n k : ℕ) → suc n + k ≡ n + suc k
      number n k = omega arith

  module _ (j : ℕ) (line : LineParts) (at : slice_get lines j ≡ Some line) where
    abbrev left : List Bool
    left = left_by j (drop (suc j) verdicts)

    verdict-at : (v : Verdict) → slice_get verdicts j ≡ Some v → verdict_on survey lines budget left line ≡ v
    verdict-at v told =
        ap (λ n. verdict_on survey lines budget (left_by n (drop (suc j) verdicts)) line) (number j)
        ∙ inside (verdict_on survey lines budget (left_by (0 + j) (drop (suc j) verdicts)) line) v (sym (verdict-from 0 lines j line at) ∙ told)
      where
        number : (n : ℕ) → n ≡ 0 + n
        number n = omega arith

        inside : (a b : Verdict) → Some a ≡ Some b → a ≡ b
        inside a b e = cc

    case_is : IsCase (negation_case survey lines left line)
    case_is = line-is_case survey are_fields lines over are left line (in-get line lines j at)

    size : length left ≡ length lines
    size =
        ap (λ (bs : List Bool). length (left_before j bs)) (sym (drop-map keeps_line (suc j) verdicts))
        ∙ length-left j (map keeps_line verdicts)
        (omega (arith, get-below lines j line at, verdicts-count survey lines budget 0 lines, length-map verdicts keeps_line))
        ∙ length-map verdicts keeps_line
        ∙ verdicts-count survey lines budget 0 lines

    own : IsLine line
    own = in-all IsLine line lines are (in-get line lines j at)

    own_shape : line.shape ≡ shape_of survey.fields
    own_shape = in-all (λ (l : LineParts). l.shape ≡ shape_of survey.fields) line lines over (in-get line lines j at)

    -- some point meets the lines that are left when a needed line is tried, and not this one
    pub needed-fails : slice_get verdicts j ≡ Some (Kept Needed) → CanFail survey.fields (usable_lines lines (left_by j (drop (suc j) verdicts))) line
    needed-fails told =
        let (apart, walk) = walked survey lines budget left line (Kept Needed) needed_apart (verdict-at (Kept Needed) told) in
        let (q, codes, holds) = needed-point survey lines left line case_is budget own own_shape walk in
        let both : AllHold (usable_lines lines left ++ negation_of line) q =
        subst (λ (ls : List LineParts). AllHold ls q) (usable-join lines (negation_of line) left (map (λ l. true) (negation_of line)) size
        ∙ ap (λ (ls : List LineParts). usable_lines lines left ++ ls) (usable-all (negation_of line))) holds in (
          q,
          codes,
          all-in (λ l. LineHolds l q) (usable_lines lines left) (λ l there. in-all (λ m. LineHolds m q) l (usable_lines lines left ++ negation_of line) both
              (in-left l (usable_lines lines left) (negation_of line) there)),
          λ held. negation-fails line q own apart (subst (λ (s : List Domain). HasCodes 0 s q) (sym own_shape) (HasCodes-shape 0 survey.fields q codes))
              (all-in (λ l. LineHolds l q) (negation_of line) (λ l there. in-all (λ m. LineHolds m q) l (usable_lines lines left ++ negation_of line) both
              (in-right l (usable_lines lines left) (negation_of line) there))) held,
        )

    -- a dropped line is no equality; its steps are valid, and prove something absurd
    pub dropped-valid : (steps : List Step) → slice_get verdicts j ≡ Some (Dropped steps)
        → (line.relation ≢ Equal) × RefutedBy (refutation_of (shape_of survey.fields) lines (left_at (map keeps_line verdicts) j) line
        (no_values survey.fields)) steps
    dropped-valid steps told =
        let (apart, walk) = walked survey lines budget left line (Dropped steps) (dropped_apart steps) (verdict-at (Dropped steps) told) in
        let (x, valid, absurd_is) = dropped-steps survey lines left line case_is budget steps walk in (
          apart,
          subst (λ (bs : List Bool). RefutedBy (refutation_of (shape_of survey.fields) lines (left_before j bs) line (no_values survey.fields)) steps)
              (sym (drop-map keeps_line (suc j) verdicts)) (x, valid, absurd_is),
        )

    -- a line is kept as an equality exactly where it is one
    pub equality-is : slice_get verdicts j ≡ Some (Kept Equality) ↔ line.relation ≡ Equal
    equality-is = (
      λ told. by (is_equal line.relation) (is_equal-Decides line.relation) (verdict-at (Kept Equality) told),
      λ same.
          verdict-from 0 lines j line at
          ∙ ap (λ (b : Bool). Some (if b then Kept Equality else verdict_of (negation_case survey lines (left_by (0 + j) (drop (suc j) verdicts)) line) budget))
          ((is_equal-Decides line.relation).1 same),
    )
      where
        by : (b : Bool) → Decides b (line.relation ≡ Equal) → (if b then Kept Equality else verdict_of (negation_case survey lines left line) budget)
            ≡ Kept Equality → line.relation ≡ Equal
        by true is e = is.0 refl
        by false is e = absurd (never-from (negation_case survey lines left line) budget (field_count (negation_case survey lines left line)) 0 0 e)

  -- each line follows from the kept ones
  pub lines-follow : (line : LineParts) → IsIn line lines → Follows (usable_lines lines (map keeps_line verdicts)) line
  lines-follow line there =
      kept-follow survey.fields lines (map keeps_line verdicts) (no_values survey.fields) (row-no_values survey.fields)
      (sym (verdicts-count survey lines budget 0 lines) ∙ sym (length-map verdicts keeps_line)) over are refuted line there
    where
      refuted : (j : ℕ) (l : LineParts) → slice_get lines j ≡ Some l → slice_index_or (map keeps_line verdicts) j false ≡ false
          → (l.relation ≢ Equal) × (steps : List Step)
          × RefutedBy (refutation_of (shape_of survey.fields) lines (left_before j (drop (suc j) (map keeps_line verdicts))) l (no_values survey.fields))
          steps
      refuted j l at flag = elim (kept-or verdicts j (omega (arith, get-below lines j l at, verdicts-count survey lines budget 0 lines))) [
        | inl kept ↦ absurd (cc (sym kept ∙ flag))
        | inr gone ↦ (let (apart, refuted) = dropped-valid j l at gone.0 gone.1 in (apart, gone.0, refuted))
      ]

-- ---- what the call tells

module _ (survey : SurveyParts) (lines : List LineParts) (budget place : ℕ) (left : List Bool) (told : List Verdict)
    (is : IsTried survey lines budget place left told) (done : place ≡ 0) where
  pub told-all : told ≡ verdicts_from survey lines budget 0 lines
  told-all = is.verdicts_are ∙ ap (λ n. verdicts_from survey lines budget n (drop n lines)) done

  module _ (are_fields : All IsField survey.fields) (over : AreOver (shape_of survey.fields) lines) (are : All IsLine lines) where
    pub told-needed : (j : ℕ) (line : LineParts) → slice_get lines j ≡ Some line → slice_get told j ≡ Some (Kept Needed)
        → CanFail survey.fields (usable_lines lines (left_at (map keeps_line told) j)) line
    told-needed j line at verdict =
        subst (λ (vs : List Verdict). CanFail survey.fields (usable_lines lines (left_at (map keeps_line vs) j)) line) (sym told-all)
        (subst (λ (bs : List Bool). CanFail survey.fields (usable_lines lines (left_before j bs)) line)
        (sym (drop-map keeps_line (suc j) (verdicts_from survey lines budget 0 lines)))
        (needed-fails survey are_fields lines over are budget j line at (ap (λ (vs : List Verdict). slice_get vs j) (sym told-all) ∙ verdict)))

    pub told-steps : (j : ℕ) (line : LineParts) (steps : List Step) → slice_get lines j ≡ Some line → slice_get told j ≡ Some (Dropped steps)
        → (line.relation ≢ Equal) × RefutedBy (refutation_of (shape_of survey.fields) lines (left_at (map keeps_line told) j) line (no_values survey.fields))
        steps
    told-steps j line steps at verdict =
        subst (λ (vs : List Verdict). (line.relation ≢ Equal)
        × RefutedBy (refutation_of (shape_of survey.fields) lines (left_at (map keeps_line vs) j) line (no_values survey.fields)) steps) (sym told-all)
        (dropped-valid survey are_fields lines over are budget j line at steps (ap (λ (vs : List Verdict). slice_get vs j) (sym told-all) ∙ verdict))

    pub told-equalities : (j : ℕ) (line : LineParts) → slice_get lines j ≡ Some line → slice_get told j ≡ Some (Kept Equality) ↔ line.relation ≡ Equal
    told-equalities j line at =
        subst (λ (vs : List Verdict). slice_get vs j ≡ Some (Kept Equality) ↔ line.relation ≡ Equal) (sym told-all)
        (equality-is survey are_fields lines over are budget j line at)

    pub told-follow : (line : LineParts) → IsIn line lines → Follows (usable_lines lines (map keeps_line told)) line
    told-follow line there = subst (λ (vs : List Verdict). Follows (usable_lines lines (map keeps_line vs)) line) (sym told-all)
        (lines-follow survey are_fields lines over are budget line there)
