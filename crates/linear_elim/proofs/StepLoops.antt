use Rattle.std.proofs.Common.{◌≡◌, ℕ, suc, ◌+◌, ◌<◌, ◌≤◌, Bool, true, false, if◌then◌else◌, List, [], ◌∷◌, ◌++◌, get_or, length, drop, filter, fold}
use Rattle.std.proofs.Common.{Result, Ok, Err, IfSome, IsErrAnd, Option, Some, None, refl, sym, ap, ◌∙◌, arith, add-one}
use Rattle.std.proofs.Math.Seq.{drop-cons}
use Rattle.std.proofs.lemmas.List.{drop_all}
use Rattle.std.proofs.lemmas.List.Sums.{fold-append}
use Rattle.edit_line.specs.Reductions.{reduce_derived, with_derived}
use Rattle.edit_line.specs.declared.derived.Derived.{Derived}
use Rattle.edit_line.specs.declared.derived.Origin.TheVariants.{Same}
use Rattle.linear_elim.specs.Combinations.{is_flat}
use Rattle.linear_elim.specs.Steps.{StepOverflow, collect, flat_from, followed_by, made_result, reduced_result, row_count, rows_count, step_result}
use Rattle.linear_elim.specs.Steps.{substituted_count, substitutes, with_more}
use Rattle.linear_elim.specs.inner.Taken.{TakesIn, taken_in}

-- Loops over the lines of a step: what is done, and what is left, give the whole.

-- a list from one place on
pub drop-at : {X : Type 0} (xs : List X) (i : ℕ) (x : X) → i < length xs → x ≡ get_or xs i x → drop i xs ≡ x ∷ drop (i + 1) xs
drop-at xs i x below at = rw (add-one) (drop-cons xs i x below ∙ ap (λ y. y ∷ drop (suc i) xs) (sym at))

-- what follows from each fault that is told
pub if_told : {F : Type 0} {P Q : F → Type 0} (o : Option F) → ((f : F) → P f → Q f) → IfSome o P → IfSome o Q
if_told None follows told = tt
if_told (Some f) follows told = follows f told

-- a fault that is handed on tells what it told
pub handed-on : {A E F : Type 0} (told : E → Option F) (old new : List Derived) (e : E) (r : Result A E) (answer : Result (List Derived) F)
    → IsErrAnd r (λ x. x ≡ e) → IfSome (told e) (λ f. answer ≡ Err f) → TakesIn told old new r answer
handed-on told old new e (Ok done) answer is tells = absurd is
handed-on told old new e (Err x) answer is tells = rw is tells

-- ---- lists or the first fault

module _ {F : Type 0} where
  -- lines that are taken in one list after the other
  taken-more : (kept more : List Derived) (rest : Result (List Derived) F) → taken_in kept (with_more more rest) ≡ taken_in (fold with_derived kept more) rest
  taken-more kept more (Ok last) = ap (λ xs. Ok xs) (fold-append with_derived kept more last)
  taken-more kept more (Err f) = refl

  taken-err : (kept : List Derived) (rest : Result (List Derived) F) (f : F) → taken_in kept rest ≡ Err f → rest ≡ Err f
  taken-err kept (Ok rest) f is = absurd (cc)
  taken-err kept (Err g) f is = ap (λ h. Err h) (cc)

  pub taken-joined : (kept new : List Derived) (here rest : Result (List Derived) F) → taken_in kept here ≡ Ok new
      → taken_in kept (followed_by here rest) ≡ taken_in new rest
  taken-joined kept new (Ok more) rest is = taken-more kept more rest ∙ ap (λ xs. taken_in xs rest) (cc)
  taken-joined kept new (Err f) rest is = absurd (cc)

module _ {X F : Type 0} (each : ℕ → X → Result (List Derived) F) (xs : List X) (whole : Result (List Derived) F) where
  -- with what one more element gives
  pub collect-more : (i : ℕ) (x : X) (kept new : List Derived) → i < length xs → x ≡ get_or xs i x → taken_in kept (collect each i (drop i xs)) ≡ whole
      → taken_in kept (each i x) ≡ Ok new
      → taken_in new (collect each (i + 1) (drop (i + 1) xs)) ≡ whole
  collect-more i x kept new below at before is =
      rw (add-one) (sym (taken-joined kept new (each i x) (collect each (suc i) (drop (suc i) xs)) is)
      ∙ ap (λ ys. taken_in kept (collect each i ys)) (sym (drop-at-suc)) ∙ before)
    where
      drop-at-suc : drop i xs ≡ x ∷ drop (suc i) xs
      drop-at-suc = drop-cons xs i x below ∙ ap (λ y. y ∷ drop (suc i) xs) (sym at)

  -- a fault of one element is the fault of all
  pub collect-fault : (i : ℕ) (x : X) (kept : List Derived) (f : F) → i < length xs → x ≡ get_or xs i x
      → taken_in kept (collect each i (drop i xs)) ≡ whole → each i x ≡ Err f → whole ≡ Err f
  collect-fault i x kept f below at before is =
      sym before ∙ ap (λ ys. taken_in kept (collect each i ys)) (drop-cons xs i x below ∙ ap (λ y. y ∷ drop (suc i) xs) (sym at))
      ∙ ap (λ r. taken_in kept (followed_by r (collect each (suc i) (drop (suc i) xs)))) is

  -- past the last element all is taken in
  pub collect-end : (i : ℕ) (kept : List Derived) → length xs ≤ i → taken_in kept (collect each i (drop i xs)) ≡ whole → whole ≡ Ok kept
  collect-end i kept past before = sym before ∙ ap (λ ys. taken_in kept (collect each i ys)) (drop_all i xs past)

-- what is taken in adds no fault
pub fault-of-rest : {F : Type 0} (kept : List Derived) (rest : Result (List Derived) F) (f : F) → taken_in kept rest ≡ Err f → rest ≡ Err f
fault-of-rest kept rest f is = taken-err kept rest f is

-- a step takes the lines that it makes in among its reduced flat lines
pub step-taken : (lines : List Derived) (f : ℕ) → taken_in (reduce_derived (flat_from f 0 lines)) (made_result lines f) ≡ step_result lines f
step-taken lines f = by (made_result lines f)
  where
    by : (rest : Result (List Derived) StepOverflow) → taken_in (reduce_derived (flat_from f 0 lines)) rest
        ≡ reduced_result (with_more (flat_from f 0 lines) rest)
    by (Ok more) = ap (λ xs. Ok xs) (sym (fold-append with_derived [] (flat_from f 0 lines) more))
    by (Err fault) = refl

-- ---- counts

module _ {X : Type 0} (p : X → Bool) (xs : List X) where
  -- the number of elements from one place on
  pub count-at : (i : ℕ) (x : X) → i < length xs → x ≡ get_or xs i x
      → length (filter p (drop i xs)) ≡ (if p x then 1 else 0) + length (filter p (drop (i + 1) xs))
  count-at i x below at = ap (λ ys. length (filter p ys)) (drop-at xs i x below at) ∙ by (p x)
    where
      by : (b : Bool) → length (if b then x ∷ filter p (drop (i + 1) xs) else filter p (drop (i + 1) xs))
          ≡ (if b then 1 else 0) + length (filter p (drop (i + 1) xs))
      by true = omega arith
      by false = omega arith

  pub count-end : (i : ℕ) → length xs ≤ i → length (filter p (drop i xs)) ≡ 0
  count-end i past = ap (λ ys. length (filter p ys)) (drop_all i xs past)

module _ (f : ℕ) (lines rows : List Derived) where
  pub rows-at : (i : ℕ) (s : Derived) → i < length rows → s ≡ get_or rows i s
      → rows_count f lines (drop i rows) ≡ row_count f lines s + rows_count f lines (drop (i + 1) rows)
  rows-at i s below at = ap (λ ys. rows_count f lines ys) (drop-at rows i s below at)

  pub rows-end : (i : ℕ) → length rows ≤ i → rows_count f lines (drop i rows) ≡ 0
  rows-end i past = ap (λ ys. rows_count f lines ys) (drop_all i rows past)

module _ (f k : ℕ) (lines : List Derived) where
  -- the number of substitutions from one place on
  pub substituted-at : (i : ℕ) (t : Derived) → i < length lines → t ≡ get_or lines i t
      → substituted_count f k i (drop i lines) ≡ (if substitutes f k i t.line then 1 else 0) + substituted_count f k (i + 1) (drop (i + 1) lines)
  substituted-at i t below at = rw (add-one) (ap (λ ys. substituted_count f k i ys) (drop-cons lines i t below ∙ ap (λ y. y ∷ drop (suc i) lines) (sym at)))

  pub substituted-end : (i : ℕ) → length lines ≤ i → substituted_count f k i (drop i lines) ≡ 0
  substituted-end i past = ap (λ ys. substituted_count f k i ys) (drop_all i lines past)

-- ---- the lines without the field

module _ (f : ℕ) (lines : List Derived) where
  flat-at : (i : ℕ) (s : Derived) (rest : List Derived) → flat_from f i (s ∷ rest) ≡ flat_from f i (s ∷ []) ++ flat_from f (suc i) rest
  flat-at i s rest = by (is_flat f s.line)
    where
      by : (b : Bool) → (if b then record { line = s.line; origin = Same i } ∷ flat_from f (suc i) rest else flat_from f (suc i) rest)
          ≡ (if b then record { line = s.line; origin = Same i } ∷ [] else []) ++ flat_from f (suc i) rest
      by true = refl
      by false = refl

  pub flat-more : (i : ℕ) (s : Derived) (kept new : List Derived) → i < length lines → s ≡ get_or lines i s
      → fold with_derived kept (flat_from f i (drop i lines)) ≡ reduce_derived (flat_from f 0 lines)
      → new ≡ fold with_derived kept (flat_from f i (s ∷ []))
      → fold with_derived new (flat_from f (i + 1) (drop (i + 1) lines)) ≡ reduce_derived (flat_from f 0 lines)
  flat-more i s kept new below at before is =
      rw (add-one) (ap (λ ys. fold with_derived ys (flat_from f (suc i) (drop (suc i) lines))) is
      ∙ sym (fold-append with_derived kept (flat_from f i (s ∷ [])) (flat_from f (suc i) (drop (suc i) lines)))
      ∙ ap (λ ys. fold with_derived kept ys) (sym (flat-at i s (drop (suc i) lines))) ∙ ap (λ ys. fold with_derived kept (flat_from f i ys)) (sym here)
      ∙ before)
    where
      here : drop i lines ≡ s ∷ drop (suc i) lines
      here = drop-cons lines i s below ∙ ap (λ y. y ∷ drop (suc i) lines) (sym at)

  pub flat-end : (i : ℕ) → length lines ≤ i → flat_from f i (drop i lines) ≡ []
  flat-end i past = ap (λ ys. flat_from f i ys) (drop_all i lines past)
