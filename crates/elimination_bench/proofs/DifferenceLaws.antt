use Rattle.std.proofs.Common.{◌≡◌, ℕ, zero, suc, ◌+◌, ◌<◌, ◌≤◌, ◌||◌, ◌⊎◌, ◌==◌, Bool, true, false, List, [], ◌∷◌, ◌++◌, All, map, replicate, refl, inl, inr}
use Rattle.std.proofs.Common.{sym, ap, ◌∙◌, subst, add-one, arith}
use Rattle.std.specs.Bool.{Decides}
use Rattle.std.proofs.lemmas.Bool.{cases_lt}
use Rattle.std.proofs.lemmas.Bool.Decides.{Decides-eqb}
use Rattle.std.proofs.lemmas.List.{map-append, replicate_more}
use Rattle.std.proofs.lemmas.List.FromFn.{get_or-range_with_len, length-range_with_len, map-range_with_len_more}
use Rattle.std.specs.List.{range_with_len}
use Rattle.std.specs.List.Sorted.{IsStrictlyIncreasing}
use Rattle.edit_model.specs.FieldSets.{has_number}
use Rattle.edit_model.specs.declared.field.Field.{Field}
use Rattle.edit_line.specs.EditSets.{AreEdits, EditsParts, edits_of}
use Rattle.edit_line.specs.Lines.{LineParts}
use Rattle.edit_line.specs.Shapes.{Categorical, Domain, Numerical, domain_of, has_field, numbers_from, shape_of}
use Rattle.linear_elim.specs.Systems.{AreNumerical}
use Rattle.elimination_bench.specs.inner.Differences.{count_of, difference_line, differences, draw_at, next_draw, numbered_line, numbers_of, shape_with}
use Rattle.elimination_bench.specs.declared.differences.Differences.{Differences}
use Rattle.elimination_bench.specs.declared.differences.Differences.TheVariants.{Coded, Plain}

-- ---- the fields

-- a numerical field more
pub number-more : (i : ℕ) (before after : List Field) (field : Field) → after ≡ before ++ field ∷ [] → domain_of field.kind ≡ Numerical → shape_of before
    ≡ replicate i Numerical → shape_of after ≡ replicate (i + 1) Numerical
number-more i before after field items kind numbers =
    ap shape_of items ∙ map-append (λ (f : Field). domain_of f.kind) before (field ∷ []) ∙ ap (λ (s : List Domain). s ++ domain_of field.kind ∷ []) numbers
    ∙ ap (λ (d : Domain). replicate i Numerical ++ d ∷ []) kind ∙ replicate_more i Numerical

with-codes : (n : ℕ) → replicate n Numerical ++ Categorical 8 ∷ [] ≡ shape_with n
with-codes zero = refl
with-codes (suc n) = ap (λ (s : List Domain). Numerical ∷ s) (with-codes n)

-- the field of codes, last
pub codes-last : (n i : ℕ) (before after : List Field) (field : Field) → after ≡ before ++ field ∷ [] → domain_of field.kind ≡ Categorical 8 → shape_of before
    ≡ replicate i Numerical → i ≡ n → shape_of after ≡ shape_with n
codes-last n i before after field items kind numbers all =
    ap shape_of items ∙ map-append (λ (f : Field). domain_of f.kind) before (field ∷ []) ∙ ap (λ (s : List Domain). s ++ domain_of field.kind ∷ []) numbers
    ∙ ap (λ (d : Domain). replicate i Numerical ++ d ∷ []) kind ∙ with-codes i ∙ ap shape_with all

below_next : (i f : ℕ) → i ≤ f → (i ≡ f → suc i ≤ f) → suc i ≤ f
below_next i f from here = by (cases_lt i f)
  where
    by : ((i < f) ⊎ (f ≤ i)) → suc i ≤ f
    by (inl less) = omega (arith, less)
    by (inr least) = here (omega (arith, from, least))

has-below : (i n f : ℕ) → i ≤ f → f < i + n → has_field (numbers_from i (shape_with n)) f ≡ true
has-below i zero f from below = absurd (omega (arith, from, below))
has-below i (suc n) f from below = by (i == f) (Decides-eqb i f) (λ after. has-below (suc i) n f after (omega (arith, below)))
  where
    by : (b : Bool) → Decides b (i ≡ f) → (suc i ≤ f → has_field (numbers_from (suc i) (shape_with n)) f ≡ true)
        → (b || has_field (numbers_from (suc i) (shape_with n)) f) ≡ true
    by true same later = refl
    by false same later = later (below_next i f from (λ here. absurd (cc (same.1 here))))

-- each of the first fields is numerical
pub first-numerical : (n count bits : ℕ) → ((f : ℕ) → has_number bits f ≡ true → f < count) → count ≤ n → AreNumerical (shape_with n) bits
first-numerical n count bits first few f has = has-below 0 n f (omega arith) (omega (arith, first f has, few))

-- ---- the lines

-- a line more
pub differences-more : (system : Differences) (place draw : ℕ) (before after : List (ℕ × LineParts)) (line : LineParts) → after ≡ before ++ (place, line) ∷ []
    → before ≡ differences system place → draw ≡ draw_at place → line ≡ difference_line system place draw → after ≡ differences system (place + 1)
differences-more system place draw before after line items lines drawn is =
    items ∙ ap (λ (es : List (ℕ × LineParts)). es ++ (place, line) ∷ []) lines ∙ ap (λ (l : LineParts). differences system place ++ (place, l) ∷ [])
    (is ∙ ap (λ n. difference_line system place n) drawn)
    ∙ sym (map-range_with_len_more (λ p. numbered_line system p) 0 place place (omega arith))

-- a number more
pub draw-more : (place draw next : ℕ) → draw ≡ draw_at place → next ≡ next_draw draw → next ≡ draw_at (place + 1)
draw-more place draw next drawn is = rw add-one (is ∙ ap next_draw drawn)

-- the lines are numbered by their places
places : (system : Differences) (from count : ℕ) → map (λ (e : ℕ × LineParts). e.0) (map (λ p. numbered_line system p) (range_with_len from count))
    ≡ range_with_len from count
places system from zero = refl
places system from (suc n) = ap (λ (ns : List ℕ). from ∷ ns) (places system (from + 1) n)

pub range-rising : (count : ℕ) → IsStrictlyIncreasing (range_with_len 0 count)
range-rising count k below =
    let long = length-range_with_len 0 count in
    let here = get_or-range_with_len 0 count k 0 (omega (arith, long, below)) in
    let next = get_or-range_with_len 0 count (k + 1) 0 (omega (arith, long, below)) in
    omega (arith, here, next)

over : (system : Differences) (from count : ℕ) → All (λ (e : ℕ × LineParts). e.1.shape ≡ shape_with (numbers_of system))
    (map (λ p. numbered_line system p) (range_with_len from count))
over system from zero k d below = absurd (omega arith)
over system from (suc n) zero d below = refl
over system from (suc n) (suc k) d below = over system (from + 1) n k d (omega arith)

-- the lines are edits
pub are-edits : (system : Differences) (count : ℕ) (shape : List Domain) (lines : List (ℕ × LineParts)) → shape ≡ shape_with (numbers_of system) → lines
    ≡ differences system count → AreEdits shape lines
are-edits system count shape lines shape_is lines_are =
    subst (λ (s : List Domain). AreEdits s lines) (sym shape_is) (
    subst (λ (es : List (ℕ × LineParts)). AreEdits (shape_with (numbers_of system)) es) (sym lines_are) (record {
      over = over system 0 count;
      rising = subst (λ (ns : List ℕ). IsStrictlyIncreasing ns) (sym (places system 0 count)) (range-rising count);
    })
    )

-- ---- the edits

-- all lines, over the fields of the system, are its edits
pub all-edits : (system : Differences) (place : ℕ) (shape : List Domain) (lines : List (ℕ × LineParts)) → shape ≡ shape_with (numbers_of system) → lines
    ≡ differences system place → place ≡ count_of system
    → edits_of shape lines ≡ edits_of (shape_with (numbers_of system)) (differences system (count_of system))
all-edits system place shape lines shape_is lines_are all =
    ap (λ (s : List Domain). edits_of s lines) shape_is ∙ ap (λ (es : List (ℕ × LineParts)). edits_of (shape_with (numbers_of system)) es)
    (lines_are ∙ ap (λ n. differences system n) all)

pub few-numbers : (system : Differences) → numbers_of system ≤ 32
few-numbers Plain = omega arith
few-numbers Coded = omega arith

-- the first fields of the generated edits are numerical
pub generated-numerical : (system : Differences) (count bits : ℕ) (edits : EditsParts) → edits
    ≡ edits_of (shape_with (numbers_of system)) (differences system (count_of system)) → ((f : ℕ) → has_number bits f ≡ true → f < count)
    → count ≤ numbers_of system → AreNumerical edits.shape bits
generated-numerical system count bits edits is first few = subst (λ (e : EditsParts). AreNumerical e.shape bits) (sym is)
    (first-numerical (numbers_of system) count bits first few)
