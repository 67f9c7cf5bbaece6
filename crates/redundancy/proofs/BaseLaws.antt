use Rattle.std.proofs.Common.{◌≡◌, inl, inr, ℕ, zero, suc, ◌+◌, ◌<◌, ◌≤◌, Bool, true, false, if◌then◌else◌, List, [], ◌∷◌, ◌++◌, All, Some, get_or, slice_get}
use Rattle.std.proofs.Common.{slice_set, drop, length, map, take, append-nil, append_assoc, length-append, refl, sym, ap, ◌∙◌, subst, arith}
use Rattle.std.proofs.Math.ListN.{replicate}
use Rattle.std.specs.List.Sorted.{IsStrictlyIncreasing}
use Rattle.std.proofs.lemmas.List.{length-drop, length-map, take_more}
use Rattle.edit_model.specs.Parts.{SurveyParts}
use Rattle.edit_model.specs.Surveys.{IsField}
use Rattle.edit_line.specs.EditSets.{base_lines}
use Rattle.edit_line.specs.Lines.{AreOver, HaveShape, IsLine, LineParts}
use Rattle.edit_line.specs.Negations.{negation_of}
use Rattle.edit_line.specs.Reductions.{IsIn, lines_of, reduce_derived}
use Rattle.edit_line.specs.Shapes.{shape_of}
use Rattle.edit_line.specs.declared.derived.Derived.{Derived}
use Rattle.edit_line.specs.declared.derived.Origin.TheVariants.{Base}
use Rattle.edit_line.proofs.Members.{all-in, in-all, in-either, in-map-out}
use Rattle.edit_line.proofs.NegationLines.{negation-lines}
use Rattle.edit_line.proofs.ReductionLaws.{all-reduced}
use Rattle.linear_elim.proofs.ResultLaws.{base-plain}
use Rattle.linear_elim.proofs.ShapeLaws.{HaveShape-lines}
use Rattle.derivation.specs.Refutations.{given_lines, no_values, trues, usable_flags, left_before}
use Rattle.derivation.proofs.RefutationLaws.{given-over, row-no_values}
use Rattle.edit_paths.specs.Cases.{IsCase}
use Rattle.redundancy.specs.Verdicts.{keeps_line, negation_case, usable_from, verdict_of, verdict_on, verdicts_from}
use Rattle.redundancy.specs.declared.verdict.Verdict.{Verdict}
use Rattle.redundancy.specs.inner.Turns.{lines_verdict}
use Rattle.redundancy.proofs.WalkLaws.{verdict-walk}

-- which lines are left for the one at a place, by the verdicts on the later ones
abbrev pub left_by : ℕ → List Verdict → List Bool
left_by place later = left_before place (map keeps_line later)

-- The lines that the walk of a line's negation begins with.

-- ---- usable lines with their numbers

pub usable-join : (i : ℕ) (lines more : List LineParts) (left flags : List Bool) → length left ≡ length lines → usable_from i (lines ++ more) (left ++ flags)
    ≡ usable_from i lines left ++ usable_from (i + length lines) more flags
usable-join i [] more [] flags same = ap (λ n. usable_from n more flags) (omega arith)
usable-join i [] more (b ∷ left) flags same = absurd (omega (arith, same))
usable-join i (l ∷ lines) more [] flags same = absurd (omega (arith, same))
usable-join i (l ∷ lines) more (true ∷ left) flags same = ap (λ (es : List (ℕ × LineParts)). (i, l) ∷ es)
    (usable-join (suc i) lines more left flags (omega (arith, same)) ∙ ap (λ n. usable_from (suc i) lines left ++ usable_from n more flags) (omega arith))
usable-join i (l ∷ lines) more (false ∷ left) flags same = usable-join (suc i) lines more left flags (omega (arith, same))
    ∙ ap (λ n. usable_from (suc i) lines left ++ usable_from n more flags) (omega arith)

base-join : (first second : List (ℕ × LineParts)) → base_lines (first ++ second) ≡ base_lines first ++ base_lines second
base-join [] second = refl
base-join (e ∷ first) second = ap (λ (ds : List Derived). record { line = e.1; origin = Base e.0 } ∷ ds) (base-join first second)

-- one line more
pub usable-more : (first i : ℕ) (lines : List LineParts) (usable : List Bool) (line : LineParts) → i < length lines → length usable ≡ length lines
    → get_or lines i line ≡ line
    → usable_from first (take (i + 1) lines) (take (i + 1) usable) ≡ usable_from first (take i lines) (take i usable)
    ++ (if get_or usable i false then (first + i, line) ∷ [] else [])
usable-more first i lines usable line below same is =
    ap (λ (ls : List LineParts). usable_from first ls (take (i + 1) usable)) (take_more lines i line below ∙ ap (λ l. take i lines ++ l ∷ []) is)
    ∙ ap (λ (bs : List Bool). usable_from first (take i lines ++ line ∷ []) bs) (take_more usable i false (omega (arith, below, same)))
    ∙ usable-join first (take i lines) (line ∷ []) (take i usable) (get_or usable i false ∷ []) (length-first i usable (omega (arith, below, same))
    ∙ sym (length-first i lines (omega (arith, below))))
    ∙ ap (λ (es : List (ℕ × LineParts)). usable_from first (take i lines) (take i usable) ++ es)
    (by (get_or usable i false) ∙ ap (λ n. if get_or usable i false then (n, line) ∷ [] else [])
    (ap (λ n. first + n) (length-first i lines (omega (arith, below)))))
  where
    length-first : {X : Type 0} (i : ℕ) (xs : List X) → i ≤ length xs → length (take i xs) ≡ i
    length-first zero xs below = refl
    length-first (suc i) [] below = absurd (omega arith)
    length-first (suc i) (x ∷ xs) below = ap suc (length-first i xs (omega arith))

    by : (b : Bool) → usable_from (first + length (take i lines)) (line ∷ []) (b ∷ []) ≡ (if b then (first + length (take i lines), line) ∷ [] else [])
    by true = refl
    by false = refl

-- the same of the lines that elimination begins with
pub base-more : (before items : List Derived) (first i : ℕ) (lines : List LineParts) (usable : List Bool) (line : LineParts) → i < length lines → length usable
    ≡ length lines → get_or lines i line ≡ line
    → items ≡ before ++ base_lines (usable_from first (take i lines) (take i usable)) → (after : List Derived) → after ≡ items
    ++ base_lines (if get_or usable i false then (first + i, line) ∷ [] else [])
    → after ≡ before ++ base_lines (usable_from first (take (i + 1) lines) (take (i + 1) usable))
base-more before items first i lines usable line below same is so_far after more =
    more ∙ ap (λ (ds : List Derived). ds ++ base_lines (if get_or usable i false then (first + i, line) ∷ [] else [])) so_far ∙ append_assoc before _ _
    ∙ ap (λ (ds : List Derived). before ++ ds)
    (sym (base-join (usable_from first (take i lines) (take i usable)) (if get_or usable i false then (first + i, line) ∷ [] else []))
    ∙ ap (λ es. base_lines es) (sym (usable-more first i lines usable line below same is)))

pub trues-are : (n : ℕ) → replicate n true ≡ trues n
trues-are zero = refl
trues-are (suc n) = ap (λ (bs : List Bool). true ∷ bs) (trues-are n)

pub flags-are : (lines : List LineParts) → replicate (length lines) true ≡ map (λ l. true) lines
flags-are [] = refl
flags-are (l ∷ lines) = ap (λ (bs : List Bool). true ∷ bs) (flags-are lines)

pub verdicts-count : (survey : SurveyParts) (lines : List LineParts) (budget place : ℕ) (later : List LineParts)
    → length (verdicts_from survey lines budget place later) ≡ length later
verdicts-count survey lines budget place [] = refl
verdicts-count survey lines budget place (l ∷ later) = ap suc (verdicts-count survey lines budget (suc place) later)

length-trues : (n : ℕ) → length (trues n) ≡ n
length-trues zero = refl
length-trues (suc n) = ap suc (length-trues n)

-- one line more is in form
pub lines-more : (lines : List LineParts) (i : ℕ) (line : LineParts) → i < length lines → line ≡ get_or lines i line → IsLine line → All IsLine (take i lines)
    → All IsLine (take (i + 1) lines)
lines-more lines i line below at is before =
    subst (λ (ls : List LineParts). All IsLine ls) (sym (take_more lines i line below)) (all-in IsLine (take i lines ++ get_or lines i line ∷ [])
    (λ l there. elim (in-either l (take i lines) (get_or lines i line ∷ []) there) [
      | inl old ↦ in-all IsLine l (take i lines) before old
      | inr new ↦ last l new
    ]))
  where
    last : (l : LineParts) → IsIn l (get_or lines i line ∷ []) → IsLine l
    last l (inl same) = subst (λ (m : LineParts). IsLine m) (at ∙ sym same) is
    last l (inr none) = absurd none

-- ---- the case of a line's negation

-- each usable line is a given one, with a number from i on
pub usable-given : (i : ℕ) (given : List LineParts) (usable : List Bool) (e : ℕ × LineParts) → IsIn e (usable_from i given usable) → IsIn e.1 given × (i ≤ e.0)
usable-given i [] usable e there = absurd there
usable-given i (l ∷ given) [] e there = absurd there
usable-given i (l ∷ given) (true ∷ usable) e (inl is) = (inl (ap (λ (e : ℕ × LineParts). e.1) is), omega (arith, ap (λ (e : ℕ × LineParts). e.0) is))
usable-given i (l ∷ given) (true ∷ usable) e (inr there) = let (at, late) = usable-given (suc i) given usable e there in (inr at, omega (arith, late))
usable-given i (l ∷ given) (false ∷ usable) e there = let (at, late) = usable-given (suc i) given usable e there in (inr at, omega (arith, late))

rising_cons : (i : ℕ) (ns : List ℕ) → All (λ n. suc i ≤ n) ns → IsStrictlyIncreasing ns → IsStrictlyIncreasing (i ∷ ns)
rising_cons i [] late rising k below = absurd (omega (arith, below))
rising_cons i (n ∷ ns) late rising zero below = late 0 n (omega arith)
rising_cons i (n ∷ ns) late rising (suc k) below = let next : suc k + 1 ≡ suc (k + 1) = omega arith in rw next (rising k (omega (arith, below)))

pub usable-rising : (i : ℕ) (given : List LineParts) (usable : List Bool) → IsStrictlyIncreasing (map (λ (e : ℕ × LineParts). e.0) (usable_from i given usable))
usable-rising i [] usable = λ k below. absurd (omega (arith, below))
usable-rising i (l ∷ given) [] = λ k below. absurd (omega (arith, below))
usable-rising i (l ∷ given) (true ∷ usable) =
    rising_cons i (map (λ (e : ℕ × LineParts). e.0) (usable_from (suc i) given usable))
    (all-in (λ n. suc i ≤ n) (map (λ (e : ℕ × LineParts). e.0) (usable_from (suc i) given usable)) (λ n there.
    let (e, at, is) = in-map-out (λ (e : ℕ × LineParts). e.0) n (usable_from (suc i) given usable) there in
    omega (arith, is, (usable-given (suc i) given usable e at).1))) (usable-rising (suc i) given usable)
usable-rising i (l ∷ given) (false ∷ usable) = usable-rising (suc i) given usable

module _ (survey : SurveyParts) (are_fields : All IsField survey.fields) (lines : List LineParts) (over : AreOver (shape_of survey.fields) lines)
    (left : List Bool) (line : LineParts) (at : IsIn line lines) where
  abbrev edits : List (ℕ × LineParts)
  edits = usable_from 0 (given_lines lines line) (usable_flags left line)

  edits-over : (e : ℕ × LineParts) → IsIn e edits → e.1.shape ≡ shape_of survey.fields
  edits-over e there =
      in-all (λ (l : LineParts). l.shape ≡ shape_of survey.fields) e.1 (given_lines lines line) (given-over survey.fields lines line over at)
      (usable-given 0 (given_lines lines line) (usable_flags left line) e there).0

  module _ (base : List Derived) (is : base ≡ base_lines edits) (are : All IsLine (lines_of base)) where
    pub base-shape : HaveShape (shape_of survey.fields) (lines_of base)
    base-shape = HaveShape-lines (shape_of survey.fields) (lines_of base) are (all-in (λ (l : LineParts). l.shape ≡ shape_of survey.fields) (lines_of base)
        (λ l there.
        let (e, was, same) = in-map-out (λ (e : ℕ × LineParts). e.1) l edits (subst (λ (ls : List LineParts). IsIn l ls)
        (ap (λ (ds : List Derived). lines_of ds) is ∙ base-plain edits) there) in
        ap (λ (m : LineParts). m.shape) same ∙ edits-over e was))

    pub negation-is_case : IsCase (negation_case survey lines left line)
    negation-is_case = record {
      fields = are_fields;
      row = row-no_values survey.fields;
      edits = record {
        edits = record {
          over = all-in (λ (e : ℕ × LineParts). e.1.shape ≡ shape_of survey.fields) edits edits-over;
          rising =
              usable-rising 0 (given_lines lines line) (usable_flags left line);
        };
        lines_are = refl;
        are_lines = all-reduced IsLine (base_lines edits) (reduce_derived (base_lines edits)) refl
            (subst (λ (ds : List Derived). All IsLine (lines_of ds)) is are);
      };
    }

    pub negation-verdict : (budget : ℕ) → lines_verdict (shape_of survey.fields) (no_values survey.fields) budget (reduce_derived base)
        ≡ verdict_of (negation_case survey lines left line) budget
    negation-verdict budget = ap (λ (ds : List Derived). lines_verdict (shape_of survey.fields) (no_values survey.fields) budget (reduce_derived ds)) is
        ∙ sym (verdict-walk (negation_case survey lines left line) negation-is_case budget)

-- ---- from the last line to the first

pub set-left : (place : ℕ) (kept : List Bool) (b : Bool) → slice_set (trues (suc place) ++ kept) place b ≡ trues place ++ b ∷ kept
set-left zero kept b = refl
set-left (suc place) kept b = ap (λ (bs : List Bool). true ∷ bs) (set-left place kept b)

pub record IsTried (survey : SurveyParts) (lines : List LineParts) (budget place : ℕ) (left : List Bool) (verdicts : List Verdict) : Type 0 where
  pub within : place ≤ length lines
  pub verdicts_are : verdicts ≡ verdicts_from survey lines budget place (drop place lines)
  pub left_are : left ≡ trues place ++ map keeps_line verdicts

module _ (survey : SurveyParts) (lines : List LineParts) (budget : ℕ) where
  pub tried-start : (left : List Bool) (verdicts : List Verdict) (place : ℕ) → place ≡ length lines → left ≡ trues place → verdicts ≡ []
      → IsTried survey lines budget place left verdicts
  tried-start left verdicts place all are none = record {
    within = omega (arith, all);
    verdicts_are = none ∙ ap (λ (ls : List LineParts). verdicts_from survey lines budget place ls) (sym (gone place lines (omega (arith, all))));
    left_are = are ∙ sym (append-nil (trues place)) ∙ ap (λ (vs : List Verdict). trues place ++ map keeps_line vs) (sym none);
  }
    where
      gone : (i : ℕ) (ls : List LineParts) → length ls ≤ i → drop i ls ≡ []
      gone zero [] all = refl
      gone (suc i) [] all = refl
      gone zero (l ∷ ls) all = absurd (omega arith)
      gone (suc i) (l ∷ ls) all = gone i ls (omega arith)

  pub tried-count : (place : ℕ) (left : List Bool) (verdicts : List Verdict) → IsTried survey lines budget place left verdicts → length left ≡ length lines
  tried-count place left verdicts is =
      ap (λ (bs : List Bool). length bs) is.left_are ∙ length-append (trues place) (map keeps_line verdicts)
      ∙ omega (
        arith,
        is.within,
        length-trues place,
        length-map verdicts keeps_line,
        ap (λ (vs : List Verdict). length vs) is.verdicts_are,
        verdicts-count survey lines budget place (drop place lines),
        length-drop place lines,
      )

  pub tried-over : (left : List Bool) (verdicts : List Verdict) → IsTried survey lines budget 0 left verdicts → verdicts
      ≡ verdicts_from survey lines budget 0 lines
  tried-over left verdicts is = is.verdicts_are

  module _ (place : ℕ) (left : List Bool) (verdicts : List Verdict) (before : IsTried survey lines budget (suc place) left verdicts) (line : LineParts)
      (at : slice_get lines place ≡ Some line) where
    here : slice_set left place false ≡ left_by place verdicts
    here = ap (λ (bs : List Bool). slice_set bs place false) before.left_are ∙ set-left place (map keeps_line verdicts) false

    get-drop : (i : ℕ) (ls : List LineParts) (l : LineParts) → slice_get ls i ≡ Some l → drop i ls ≡ l ∷ drop (suc i) ls
    get-drop i [] l e = absurd (cc)
    get-drop zero (k ∷ ls) l e = let same : k ≡ l = cc in ap (λ m. m ∷ ls) same
    get-drop (suc i) (k ∷ ls) l e = get-drop i ls l e

    pub tried-turn : (v : Verdict) (after : List Bool) (more : List Verdict) → v ≡ verdict_on survey lines budget (slice_set left place false) line → after
        ≡ slice_set left place (keeps_line v) → more ≡ v ∷ verdicts → IsTried survey lines budget place after more
    tried-turn v after more v_is after_is more_is = record {
      within = omega (arith, before.within);
      verdicts_are =
          more_is ∙ ap (λ w. w ∷ verdicts) (v_is ∙ ap (λ (bs : List Bool). verdict_on survey lines budget bs line) here)
          ∙ ap (λ (vs : List Verdict). verdict_on survey lines budget (left_by place vs) line ∷ vs) before.verdicts_are
          ∙ ap (λ (ls : List LineParts). verdicts_from survey lines budget place ls) (sym (get-drop place lines line at));
      left_are = after_is ∙ ap (λ (bs : List Bool). slice_set bs place (keeps_line v)) before.left_are ∙ set-left place (map keeps_line verdicts) (keeps_line v)
          ∙ ap (λ (vs : List Verdict). trues place ++ map keeps_line vs) (sym more_is);
    }

pub get-at : (place : ℕ) (lines : List LineParts) → place < length lines → (line : LineParts) × (slice_get lines place ≡ Some line)
get-at place [] below = absurd (omega arith)
get-at zero (l ∷ lines) below = (l, refl)
get-at (suc place) (l ∷ lines) below = get-at place lines (omega arith)

pub set-twice : (flags : List Bool) (place : ℕ) (a b : Bool) → slice_set (slice_set flags place a) place b ≡ slice_set flags place b
set-twice [] zero a b = refl
set-twice [] (suc place) a b = refl
set-twice (f ∷ flags) zero a b = refl
set-twice (f ∷ flags) (suc place) a b = ap (λ (bs : List Bool). f ∷ bs) (set-twice flags place a b)

-- both lists of usable lines, one after the other
pub base-both : (lines : List LineParts) (left : List Bool) (line : LineParts) → length left ≡ length lines → (none first all : List Derived) → none ≡ []
    → first ≡ none ++ base_lines (usable_from 0 lines left)
    → (negation : List LineParts) (flags : List Bool) → negation ≡ negation_of line → flags ≡ replicate (length (negation_of line)) true → all ≡ first
    ++ base_lines (usable_from (length lines) negation flags)
    → all ≡ base_lines (usable_from 0 (given_lines lines line) (usable_flags left line))
base-both lines left line same none first all none_is first_is negation flags negation_is flags_are all_is =
    all_is
    ∙ ap (λ (ds : List Derived). ds ++ base_lines (usable_from (length lines) negation flags))
    (first_is ∙ ap (λ (ds : List Derived). ds ++ base_lines (usable_from 0 lines left)) none_is)
    ∙ ap (λ (ls : List LineParts). base_lines (usable_from 0 lines left) ++ base_lines (usable_from (length lines) ls flags)) negation_is
    ∙ ap (λ (bs : List Bool). base_lines (usable_from 0 lines left) ++ base_lines (usable_from (length lines) (negation_of line) bs))
    (flags_are ∙ flags-are (negation_of line))
    ∙ ap (λ n. base_lines (usable_from 0 lines left) ++ base_lines (usable_from n (negation_of line) (map (λ l. true) (negation_of line)))) (omega arith)
    ∙ sym (base-join (usable_from 0 lines left) (usable_from (0 + length lines) (negation_of line) (map (λ l. true) (negation_of line))))
    ∙ ap (λ es. base_lines es) (sym (usable-join 0 lines (negation_of line) left (map (λ l. true) (negation_of line)) same))

pub in-lines : (lines : List LineParts) (place : ℕ) (line : LineParts) → place < length lines → line ≡ get_or lines place line → IsIn line lines
in-lines [] place line below is = absurd (omega arith)
in-lines (l ∷ lines) zero line below is = inl is
in-lines (l ∷ lines) (suc place) line below is = inr (in-lines lines place line (omega arith) is)

pub same-line : (lines : List LineParts) (place : ℕ) (line other : LineParts) → line ≡ get_or lines place line → slice_get lines place ≡ Some other → line
    ≡ other
same-line [] place line other is at = absurd (cc)
same-line (l ∷ lines) zero line other is at = cc
same-line (l ∷ lines) (suc place) line other is at = same-line lines place line other is at

-- the same for lines alone
pub line-is_case : (survey : SurveyParts) → All IsField survey.fields → (lines : List LineParts) → AreOver (shape_of survey.fields) lines → All IsLine lines
    → (left : List Bool) (line : LineParts) → IsIn line lines → IsCase (negation_case survey lines left line)
line-is_case survey are_fields lines over are left line at =
    negation-is_case survey are_fields lines over left line at (base_lines (usable_from 0 (given_lines lines line) (usable_flags left line))) refl
    (subst (λ (ls : List LineParts). All IsLine ls) (sym (base-plain (usable_from 0 (given_lines lines line) (usable_flags left line))))
    (all-in IsLine (map (λ (e : ℕ × LineParts). e.1) (usable_from 0 (given_lines lines line) (usable_flags left line))) (λ l there.
    let (e, was, same) = in-map-out (λ (e : ℕ × LineParts). e.1) l (usable_from 0 (given_lines lines line) (usable_flags left line)) there in
    subst (λ (m : LineParts). IsLine m) (sym same)
    (elim (in-either e.1 lines (negation_of line) (usable-given 0 (given_lines lines line) (usable_flags left line) e was).0) [
      | inl given ↦ in-all IsLine e.1 lines are given
      | inr negated ↦ negation-lines line e.1 (in-all IsLine line lines are at) negated
    ]))))
