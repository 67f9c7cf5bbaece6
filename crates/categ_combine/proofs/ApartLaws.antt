use Rattle.std.proofs.Common.{◌≡◌, ℕ, zero, suc, ◌+◌, ◌-◌, ◌<◌, ◌^◌, ◌%◌, ◌&&◌, ◌||◌, ◌++◌, inl, inr, Bool, true, false, not, if◌then◌else◌, nat_eq}
use Rattle.std.proofs.Common.{bit_and, List, [], ◌∷◌, All, drop, get_or, length, IfOk, OnOk, Result, Ok, Err, slice_index_or, slice_set, add-one}
use Rattle.std.proofs.Common.{append-nil, append_assoc, refl, sym, ap, ◌∙◌, subst, arith}
use Rattle.std.specs.List.{filter, fold, list_any}
use Rattle.std.proofs.Math.Seq.{drop-cons}
use Rattle.std.proofs.lemmas.Bool.Decides.{Decides-eqb}
use Rattle.std.proofs.lemmas.List.{map-append, set-get_or}
use Rattle.std.proofs.lemmas.Nat.{and_mask, pow_pos}
use Rattle.foundation.specs.Results.{◌>>=◌, fault_as}
use Rattle.edit_model.specs.declared.value.Value.{Value}
use Rattle.edit_line.specs.Reductions.{IsIn}
use Rattle.edit_line.specs.Sets.{AreSets, are_subsets}
use Rattle.edit_line.specs.Shapes.{Categorical, Domain, Numerical, whole_sets}
use Rattle.edit_line.specs.Sums.{fails_at}
use Rattle.edit_line.specs.CodeFields.{codes_of, has_code_at, place_of, whole_of}
use Rattle.edit_line.specs.declared.derived.Derived.{Derived}
use Rattle.edit_line.proofs.BoolLaws.{both_true, false-both}
use Rattle.edit_line.proofs.Members.{all-in, in-all, in-taken}
use Rattle.categ_combine.specs.Apart.{AllApart, AreApart, IsApart, LieApart}
use Rattle.categ_combine.specs.BoxLists.{reduce_from, sets_of, with_box, with_from}
use Rattle.categ_combine.specs.Covers.{IsElimination, covered_from, covers_from, from_of, is_whole_at, unchanged_one}
use Rattle.categ_combine.specs.Each.{each_from}
use Rattle.categ_combine.specs.FailingBoxes.{failing_from, line_fault, taken}
use Rattle.categ_combine.specs.Fixing.{fix_origin, fixed_from, fixed_one}
use Rattle.categ_combine.specs.Steps.{IsDone}
use Rattle.categ_combine.specs.declared.box_from.BoxFrom.{BoxFrom}
use Rattle.categ_combine.specs.declared.box_from.BoxOrigin.TheVariants.{Failing, Fixed, Unchanged}
use Rattle.categ_combine.specs.declared.covered.Covered.{Covered}
use Rattle.categ_combine.specs.declared.covered.Covered.TheVariants.{Done, Passed}
use Rattle.categ_combine.specs.inner.Clear.{AllClear, IsClear, is_compared, is_within_at, was_fixed}
use Rattle.categ_combine.specs.inner.Spots.{IsSpot}
use Rattle.categ_combine.proofs.ReducedBoxes.{sets-reduce, sets-with_from}

-- Boxes of which none lies inside another.

-- ---- reduced boxes are such boxes

apart-filter : (test : List ℕ → Bool) (a : List ℕ) (boxes : List (List ℕ)) → IsApart a boxes → IsApart a (filter test boxes)
apart-filter test a [] apart = tt
apart-filter test a (b ∷ boxes) (here, rest) = by (test b) (apart-filter test a boxes rest)
  where
    by : (t : Bool) → IsApart a (filter test boxes) → IsApart a (if t then b ∷ filter test boxes else filter test boxes)
    by true more = (here, more)
    by false more = more

all-filter : (test : List ℕ → Bool) (boxes : List (List ℕ)) → AllApart boxes → AllApart (filter test boxes)
all-filter test [] all = tt
all-filter test (a ∷ boxes) (apart, rest) = by (test a) (all-filter test boxes rest)
  where
    by : (t : Bool) → AllApart (filter test boxes) → AllApart (if t then a ∷ filter test boxes else filter test boxes)
    by true more = (apart-filter test a boxes apart, more)
    by false more = more

apart-last : (a new : List ℕ) (boxes : List (List ℕ)) → IsApart a boxes → AreApart a new → IsApart a (boxes ++ new ∷ [])
apart-last a new [] apart last = (last, tt)
apart-last a new (b ∷ boxes) (here, rest) last = (here, apart-last a new boxes rest last)

-- the new box is apart from each of the others
abbrev AllBeside : List ℕ → List (List ℕ) → Type 0
AllBeside new [] = Unit {0}
AllBeside new (a ∷ boxes) = AreApart a new × AllBeside new boxes

all-last : (new : List ℕ) (boxes : List (List ℕ)) → AllApart boxes → AllBeside new boxes → AllApart (boxes ++ new ∷ [])
all-last new [] all beside = (tt, tt)
all-last new (a ∷ boxes) (apart, rest) (here, beside) = (apart-last a new boxes apart here, all-last new boxes rest beside)

left-beside : (new : List ℕ) (boxes : List (List ℕ)) → list_any (λ b. are_subsets new b) boxes ≡ false
    → AllBeside new (filter (λ b. not (are_subsets b new)) boxes)
left-beside new [] none = tt
left-beside new (a ∷ boxes) none = by (are_subsets a new) refl (left-beside new boxes (false-both _ _ none).1)
  where
    by : (t : Bool) → are_subsets a new ≡ t → AllBeside new (filter (λ b. not (are_subsets b new)) boxes)
        → AllBeside new (if not t then a ∷ filter (λ b. not (are_subsets b new)) boxes else filter (λ b. not (are_subsets b new)) boxes)
    by true test more = more
    by false test more = ((test, (false-both _ _ none).0), more)

all-with : (kept : List (List ℕ)) (new : List ℕ) → AllApart kept → AllApart (with_box kept new)
all-with kept new all = by (list_any (λ b. are_subsets new b) kept) refl
  where
    by : (t : Bool) → list_any (λ b. are_subsets new b) kept ≡ t → AllApart (if t then kept else filter (λ b. not (are_subsets b new)) kept ++ new ∷ [])
    by true none = all
    by false none = all-last new (filter (λ b. not (are_subsets b new)) kept) (all-filter (λ b. not (are_subsets b new)) kept all) (left-beside new kept none)

all-fold : (kept boxes : List (List ℕ)) → AllApart kept → AllApart (fold with_box kept boxes)
all-fold kept [] all = all
all-fold kept (new ∷ boxes) all = all-fold (with_box kept new) boxes (all-with kept new all)

-- one box more
pub apart-with : (kept : List BoxFrom) (new : BoxFrom) → LieApart kept → LieApart (with_from kept new)
apart-with kept new all = subst (λ (bs : List (List ℕ)). AllApart bs) (sym (sets-with_from kept new)) (all-with (sets_of kept) new.code_box.sets all)

pub apart-reduced : (boxes : List BoxFrom) → LieApart (reduce_from boxes)
apart-reduced boxes = subst (λ (bs : List (List ℕ)). AllApart bs) (sym (sets-reduce boxes)) (all-fold [] (sets_of boxes) tt)

-- and so are those after a field that is kept, or changed
pub apart-fixed : (shape : List Domain) (boxes : List BoxFrom) (f code : ℕ) → LieApart (fixed_from shape boxes f code)
apart-fixed shape boxes f code = apart-reduced (each_from (fixed_one (place_of shape f) (whole_of shape f) code) 0 boxes)

pub apart-covered : (shape : List Domain) (boxes : List BoxFrom) (f : ℕ) → LieApart (covered_from shape boxes f)
apart-covered shape boxes f =
    apart-reduced (each_from (unchanged_one (place_of shape f) (whole_of shape f)) 0 boxes ++ covers_from shape boxes f (codes_of shape f))

-- the boxes of a record are
pub apart-failing : (i : ℕ) (lines : List Derived) (row : List Value) (kept boxes : List BoxFrom) → LieApart kept
    → failing_from i lines row kept ≡ Ok boxes → LieApart boxes
apart-failing i [] row kept boxes all made = subst (λ (bs : List BoxFrom). LieApart bs) (cc) all
apart-failing i (d ∷ lines) row kept boxes all made =
    by (fails_at d.line row) made (λ fails. apart-failing (suc i) lines row (taken kept i d.line fails) boxes (one fails))
  where
    one : (fails : Bool) → LieApart (taken kept i d.line fails)
    one true = apart-with kept (from_of d.line.shape d.line.sets (Failing i)) all
    one false = all

    by : (r : Result Bool ℕ) → (fault_as (line_fault i) r >>= (λ fails. failing_from (suc i) lines row (taken kept i d.line fails))) ≡ Ok boxes
        → ((fails : Bool) → failing_from (suc i) lines row (taken kept i d.line fails) ≡ Ok boxes → LieApart boxes) → LieApart boxes
    by (Ok fails) is rest = rest fails is
    by (Err f) is rest = absurd (cc)

-- ---- boxes made whole at a place

-- the set at the place has none but the field's codes
within-from : (shape : List Domain) (sets : List ℕ) (place : ℕ) → AreSets sets (whole_sets shape) → place < length (whole_sets shape)
    → is_within_at place (slice_index_or (whole_sets shape) place 0) sets ≡ true
within-from [] sets place are below = absurd (omega (arith, below))
within-from (Numerical ∷ shape) sets place are below = within-from shape sets place are below
within-from (Categorical k ∷ shape) [] place are below = absurd are
within-from (Categorical k ∷ shape) (s ∷ sets) zero (some, few, are) below =
    (Decides-eqb (bit_and s (2 ^ k - 1)) s).1 (and_mask s k ∙ small s (2 ^ k) (omega (arith, few, pow_pos k)))
  where
    small : (n m : ℕ) → n < m → n % m ≡ n
    small n m below = grind (arith, below)
within-from (Categorical k ∷ shape) (s ∷ sets) (suc place) (some, few, are) below = within-from shape sets place are (omega (arith, below))

pub within-spot : (shape own : List Domain) (sets : List ℕ) (place whole : ℕ) → IsSpot shape place whole → own ≡ shape → AreSets sets (whole_sets own)
    → is_within_at place whole sets ≡ true
within-spot shape own sets place whole is over are =
    subst (λ (w : ℕ). is_within_at place w sets ≡ true) (sym is.whole_is)
    (within-from shape sets place (subst (λ (s : List Domain). AreSets sets (whole_sets s)) over are) is.within)

-- a box that lies inside one that is whole at the place where it is made whole there, lies inside it before
widened-inside : (place whole : ℕ) (sets other : List ℕ) → is_within_at place whole sets ≡ true → is_whole_at place whole other ≡ true → 0 < whole
    → are_subsets (slice_set sets place whole) other ≡ true → are_subsets sets other ≡ true
widened-inside place whole sets [] fits is some h = none sets
  where
    none : (ss : List ℕ) → are_subsets ss [] ≡ true
    none [] = refl
    none (s ∷ ss) = refl
widened-inside place whole [] (t ∷ other) fits is some h = h
widened-inside zero whole (s ∷ sets) (t ∷ other) fits is some h =
    ap (λ n. nat_eq (bit_and s n) s && are_subsets sets other) ((Decides-eqb t whole).0 is) ∙ ap (λ b. b && are_subsets sets other) fits
    ∙ (both_true (nat_eq (bit_and whole t) whole) (are_subsets sets other) h).1
widened-inside (suc place) whole (s ∷ sets) (t ∷ other) fits is some h =
    ap (λ b. b && are_subsets sets other) (both_true (nat_eq (bit_and s t) s) (are_subsets (slice_set sets place whole) other) h).0
    ∙ widened-inside place whole sets other fits is some (both_true (nat_eq (bit_and s t) s) (are_subsets (slice_set sets place whole) other) h).1

-- so it does not, where it did not
widened-apart : (place whole : ℕ) (sets other : List ℕ) → is_within_at place whole sets ≡ true → is_whole_at place whole other ≡ true → 0 < whole
    → are_subsets sets other ≡ false → are_subsets (slice_set sets place whole) other ≡ false
widened-apart place whole sets other fits is some apart = by (are_subsets (slice_set sets place whole) other) refl
  where
    by : (b : Bool) → are_subsets (slice_set sets place whole) other ≡ b → b ≡ false
    by false e = refl
    by true e = absurd (cc (sym apart ∙ widened-inside place whole sets other fits is some e))

-- a box that is whole there stays as it was
pub whole-same : (place whole : ℕ) (sets : List ℕ) → is_whole_at place whole sets ≡ true → slice_set sets place whole ≡ sets
whole-same place whole sets is = ap (λ n. slice_set sets place n) (sym ((Decides-eqb (slice_index_or sets place 0) whole).0 is)) ∙ set-get_or sets place 0

-- ---- what need not be compared

module _ (place whole : ℕ) (sets : List ℕ) where
  -- the box can lie inside those alone that were made whole
  any-fixed : (kept : List BoxFrom) → is_within_at place whole sets ≡ true → All (λ (k : BoxFrom). IsClear place whole k sets) kept
      → list_any (λ (b : BoxFrom). was_fixed b.origin && are_subsets (slice_set sets place whole) b.code_box.sets) kept
      ≡ list_any (λ (b : BoxFrom). are_subsets (slice_set sets place whole) b.code_box.sets) kept
  any-fixed [] fits clear = refl
  any-fixed (k ∷ kept) fits clear =
      ap (λ b. b || list_any (λ (b : BoxFrom). was_fixed b.origin && are_subsets (slice_set sets place whole) b.code_box.sets) kept)
      (by (was_fixed k.origin) refl)
      ∙ ap (λ b. are_subsets (slice_set sets place whole) k.code_box.sets || b) (any-fixed kept fits (λ j d below. clear (suc j) d (omega (arith, below))))
    where
      by : (f : Bool) → was_fixed k.origin ≡ f → (f && are_subsets (slice_set sets place whole) k.code_box.sets)
          ≡ are_subsets (slice_set sets place whole) k.code_box.sets
      by true e = refl
      by false e = sym ((clear 0 k (omega arith)).unchanged e fits)

  -- so it lies inside one with which it is compared where it lies inside any
  pub any-compared : (apart : Bool) (kept : List BoxFrom) → is_within_at place whole sets ≡ true
      → (apart ≡ true → All (λ (k : BoxFrom). IsClear place whole k sets) kept)
      → list_any (λ (b : BoxFrom). is_compared apart b.origin && are_subsets (slice_set sets place whole) b.code_box.sets) kept
      ≡ list_any (λ (b : BoxFrom). are_subsets (slice_set sets place whole) b.code_box.sets) kept
  any-compared true kept fits clear = any-fixed kept fits (clear refl)
  any-compared false kept fits clear = refl

  -- and none lies inside it, where it is whole
  pub none-inside : (kept : List BoxFrom) → is_whole_at place whole sets ≡ true → All (λ (k : BoxFrom). IsClear place whole k sets) kept
      → filter (λ (b : BoxFrom). not (are_subsets b.code_box.sets sets)) kept ≡ kept
  none-inside [] is clear = refl
  none-inside (k ∷ kept) is clear =
      ap (λ b. if not b then k ∷ filter (λ (b : BoxFrom). not (are_subsets b.code_box.sets sets)) kept else filter
      (λ (b : BoxFrom). not (are_subsets b.code_box.sets sets)) kept) ((clear 0 k (omega arith)).outside is)
      ∙ ap (λ (ks : List BoxFrom). k ∷ ks) (none-inside kept is (λ j d below. clear (suc j) d (omega (arith, below))))

-- ---- the boxes that are taken in, one after the other

-- a box that was taken is clear of a later one, from which it was apart
clear-new : (place whole i : ℕ) (first sets : List ℕ) (k : BoxFrom) → 0 < whole → is_within_at place whole first ≡ true → AreApart first sets
    → k.code_box.sets ≡ slice_set first place whole → k.origin ≡ fix_origin place whole i first → IsClear place whole k sets
clear-new place whole i first sets k some fits apart own from = record {
  unchanged =
      λ old within. ap (λ ss. are_subsets (slice_set sets place whole) ss) own ∙ by (is_whole_at place whole first) refl (sym (ap was_fixed from) ∙ old) within;
  outside = λ is. ap (λ ss. are_subsets ss sets) own ∙ widened-apart place whole first sets fits is some apart.0;
}
  where
    by : (t : Bool) → is_whole_at place whole first ≡ t → was_fixed (if t then Unchanged i else Fixed i) ≡ false → is_within_at place whole sets ≡ true
        → are_subsets (slice_set sets place whole) (slice_set first place whole) ≡ false
    by true is old within =
        ap (λ ss. are_subsets (slice_set sets place whole) ss) (whole-same place whole first is) ∙ widened-apart place whole sets first within is some apart.1
    by false is old within = absurd (cc old)

-- a box is apart from those that stand behind it
apart-later : (boxes : List BoxFrom) (i : ℕ) (d b : BoxFrom) → LieApart boxes → i < length boxes → IsIn b (drop (suc i) boxes)
    → AreApart (get_or boxes i d).code_box.sets b.code_box.sets
apart-later [] i d b all below there = absurd (omega (arith, below))
apart-later (a ∷ boxes) zero d b all below there = first boxes all.0 there
  where
    first : (rest : List BoxFrom) → IsApart a.code_box.sets (sets_of rest) → IsIn b rest → AreApart a.code_box.sets b.code_box.sets
    first [] apart at = absurd at
    first (x ∷ rest) apart (inl same) = subst (λ (y : BoxFrom). AreApart a.code_box.sets y.code_box.sets) (sym same) apart.0
    first (x ∷ rest) apart (inr at) = first rest apart.1 at
apart-later (a ∷ boxes) (suc i) d b all below there = apart-later boxes i d b all.1 (omega (arith, below)) there

-- one box more is taken
pub clear-more : (place whole code : ℕ) (boxes kept : List BoxFrom) (i : ℕ) (d : BoxFrom) → LieApart boxes → i < length boxes
    → 0 < whole → is_within_at place whole (get_or boxes i d).code_box.sets ≡ true
    → AllClear place whole kept (drop i boxes) → AllClear place whole (fold with_from kept (fixed_one place whole code i (get_or boxes i d)))
    (drop (i + 1) boxes)
clear-more place whole code boxes kept i d apart below some fits clear b there =
    by (has_code_at place code (get_or boxes i d).code_box.sets)
  where
    later : IsIn b (drop (suc i) boxes)
    later = subst (λ n. IsIn b (drop n boxes)) (add-one i) there

    old : All (λ (k : BoxFrom). IsClear place whole k b.code_box.sets) kept
    old = clear b (subst (λ (bs : List BoxFrom). IsIn b bs) (sym (drop-cons boxes i d below)) (inr later))

    new : BoxFrom
    new =
        from_of (get_or boxes i d).code_box.shape (slice_set (get_or boxes i d).code_box.sets place whole)
        (fix_origin place whole i (get_or boxes i d).code_box.sets)

    new-clear : IsClear place whole new b.code_box.sets
    new-clear =
        clear-new place whole i (get_or boxes i d).code_box.sets b.code_box.sets new some fits
        (apart-later boxes i d b apart below later) refl refl

    taken : All (λ (k : BoxFrom). IsClear place whole k b.code_box.sets) (with_from kept new)
    taken = all-in (λ (k : BoxFrom). IsClear place whole k b.code_box.sets) (with_from kept new) (λ k at.
        elim (in-taken (list_any (λ (x : BoxFrom). are_subsets new.code_box.sets x.code_box.sets) kept)
        (λ (x : BoxFrom). not (are_subsets x.code_box.sets new.code_box.sets)) k new kept at) [
          | inl was ↦ in-all (λ (k : BoxFrom). IsClear place whole k b.code_box.sets) k kept old was
          | inr same ↦ subst (λ (x : BoxFrom). IsClear place whole x b.code_box.sets) (sym same) new-clear
        ])

    by : (t : Bool) → All (λ (k : BoxFrom). IsClear place whole k b.code_box.sets) (fold with_from kept (if t then new ∷ [] else []))
    by true = taken
    by false = old

-- ---- what the calls take in

-- a box that is made whole there
pub takes-widened : (place whole : ℕ) (sets : List ℕ) (apart : Bool) (kept : List BoxFrom) (new : BoxFrom) → is_within_at place whole sets ≡ true
    → (apart ≡ true → All (λ (k : BoxFrom). IsClear place whole k sets) kept) → new.code_box.sets ≡ slice_set sets place whole
    → with_from kept new
    ≡ (if list_any (λ (b : BoxFrom). is_compared apart b.origin && are_subsets new.code_box.sets b.code_box.sets) kept then kept else filter
    (λ (b : BoxFrom). not (are_subsets b.code_box.sets new.code_box.sets)) kept ++ new ∷ [])
takes-widened place whole sets apart kept new fits clear own =
    ap (λ t. if t then kept else filter (λ (b : BoxFrom). not (are_subsets b.code_box.sets new.code_box.sets)) kept ++ new ∷ [])
    (ap (λ ss. list_any (λ (b : BoxFrom). are_subsets ss b.code_box.sets) kept) own ∙ sym (any-compared place whole sets apart kept fits clear)
    ∙ ap (λ ss. list_any (λ (b : BoxFrom). is_compared apart b.origin && are_subsets ss b.code_box.sets) kept) (sym own))

-- a box that is whole there, told by these sets among the boxes that are seen
module _ (place whole : ℕ) (sets told : List ℕ) (apart : Bool) (kept seen : List BoxFrom) (new : BoxFrom) (found : Bool) (seen_are : seen ≡ kept)
    (told_are : told ≡ sets)
    (found_is : found ≡ list_any (λ (b : BoxFrom). is_compared apart b.origin && are_subsets told b.code_box.sets) seen) (own : new.code_box.sets ≡ sets)
    (is : is_whole_at place whole sets ≡ true) (fits : is_within_at place whole sets ≡ true)
    (clear : apart ≡ true → All (λ (k : BoxFrom). IsClear place whole k sets) kept) where
  taken-so : with_from kept new ≡ (if found then kept else filter (λ (b : BoxFrom). not (are_subsets b.code_box.sets new.code_box.sets)) kept ++ new ∷ [])
  taken-so =
      takes-widened place whole sets apart kept new fits clear (own ∙ sym (whole-same place whole sets is))
      ∙ ap (λ t. if t then kept else filter (λ (b : BoxFrom). not (are_subsets b.code_box.sets new.code_box.sets)) kept ++ new ∷ []) (
      ap (λ ss. list_any (λ (b : BoxFrom). is_compared apart b.origin && are_subsets ss b.code_box.sets) kept) (own ∙ sym told_are)
      ∙ ap (λ (bs : List BoxFrom). list_any (λ (b : BoxFrom). is_compared apart b.origin && are_subsets told b.code_box.sets) bs) (sym seen_are) ∙ sym found_is
      )

  -- it lies inside one of them
  pub takes-none : found ≡ true → with_from kept new ≡ kept
  takes-none e = taken-so ∙ ap (λ t. if t then kept else filter (λ (b : BoxFrom). not (are_subsets b.code_box.sets new.code_box.sets)) kept ++ new ∷ []) e

  -- or those that lie inside it are left out
  pub takes-unchanged : found ≡ false → with_from kept new ≡ filter (λ (b : BoxFrom). not (are_subsets b.code_box.sets new.code_box.sets)) kept ++ new ∷ []
  takes-unchanged e = taken-so ∙ ap (λ t. if t then kept else filter (λ (b : BoxFrom). not (are_subsets b.code_box.sets new.code_box.sets)) kept ++ new ∷ []) e

  -- and there is none, where the boxes lie apart
  pub takes-last : found ≡ false → apart ≡ true → with_from kept new ≡ kept ++ new ∷ []
  takes-last e known =
      takes-unchanged e ∙ ap (λ ss. filter (λ (b : BoxFrom). not (are_subsets b.code_box.sets ss)) kept ++ new ∷ []) own
      ∙ ap (λ (ks : List BoxFrom). ks ++ new ∷ []) (none-inside place whole sets kept is (clear known))

-- ---- an answer that is Ok

pub ok-same : {T E : Type 0} (r : Result T E) (xs ys zs : List BoxFrom) → ys ≡ zs → OnOk r (xs ≡ ys) → OnOk r (xs ≡ zs)
ok-same (Ok t) xs ys zs same is = is ∙ same
ok-same (Err e) xs ys zs same is = tt

pub ok-so : {X E : Type 0} (P Q : X → Type 0) (r : Result X E) → ((x : X) → P x → Q x) → IfOk r P → IfOk r Q
ok-so P Q (Ok x) so is = so x is
ok-so P Q (Err e) so is = tt

-- what a field that is changed leaves
pub done-apart : (shape : List Domain) (boxes : List BoxFrom) (f : ℕ) (told : Covered) → IsDone told (IsElimination shape boxes f)
    → IsDone told (λ left pairs. LieApart left)
done-apart shape boxes f (Done left pairs) are = subst (λ (bs : List BoxFrom). LieApart bs) (sym are.0) (apart-covered shape boxes f)
done-apart shape boxes f Passed are = tt

-- ---- boxes that are whole at a field, unchanged

-- a box that is apart from all comes last
apart-there : (a : List ℕ) (before : List (List ℕ)) (b : List ℕ) (after : List (List ℕ)) → IsApart a (before ++ b ∷ after) → AreApart a b
apart-there a [] b after (here, rest) = here
apart-there a (x ∷ before) b after (here, rest) = apart-there a before b after rest

beside-there : (before : List (List ℕ)) (b : List ℕ) (after : List (List ℕ)) → AllApart (before ++ b ∷ after) → AllBeside b before
beside-there [] b after all = tt
beside-there (a ∷ before) b after (apart, rest) = (apart-there a before b after apart, beside-there before b after rest)

with-apart : (kept : List BoxFrom) (new : BoxFrom) → AllBeside new.code_box.sets (sets_of kept) → with_from kept new ≡ kept ++ new ∷ []
with-apart kept new beside =
    ap (λ t. if t then kept else filter (λ (b : BoxFrom). not (are_subsets b.code_box.sets new.code_box.sets)) kept ++ new ∷ []) (none kept beside)
    ∙ ap (λ (bs : List BoxFrom). bs ++ new ∷ []) (all kept beside)
  where
    none : (bs : List BoxFrom) → AllBeside new.code_box.sets (sets_of bs) → list_any (λ (b : BoxFrom). are_subsets new.code_box.sets b.code_box.sets) bs ≡ false
    none [] beside = refl
    none (b ∷ bs) ((first, second), rest) = ap (λ t. t || list_any (λ (b : BoxFrom). are_subsets new.code_box.sets b.code_box.sets) bs) second ∙ none bs rest

    all : (bs : List BoxFrom) → AllBeside new.code_box.sets (sets_of bs) → filter (λ (b : BoxFrom). not (are_subsets b.code_box.sets new.code_box.sets)) bs ≡ bs
    all [] beside = refl
    all (b ∷ bs) ((first, second), rest) =
        ap (λ t. if not t then b ∷ filter (λ (b : BoxFrom). not (are_subsets b.code_box.sets new.code_box.sets)) bs else filter
        (λ (b : BoxFrom). not (are_subsets b.code_box.sets new.code_box.sets)) bs) first
        ∙ ap (λ (xs : List BoxFrom). b ∷ xs) (all bs rest)

folded-apart : (kept boxes : List BoxFrom) → AllApart (sets_of kept ++ sets_of boxes) → fold with_from kept boxes ≡ kept ++ boxes
folded-apart kept [] all = sym (append-nil kept)
folded-apart kept (new ∷ boxes) all =
    ap (λ (bs : List BoxFrom). fold with_from bs boxes) (with-apart kept new (beside-there (sets_of kept) new.code_box.sets (sets_of boxes) all))
    ∙ folded-apart (kept ++ new ∷ []) boxes more ∙ append_assoc kept (new ∷ []) boxes
  where
    more : AllApart (sets_of (kept ++ new ∷ []) ++ sets_of boxes)
    more =
        subst (λ (bs : List (List ℕ)). AllApart bs)
        (sym (ap (λ (bs : List (List ℕ)). bs ++ sets_of boxes) (map-append (λ (b : BoxFrom). b.code_box.sets) kept (new ∷ []))
        ∙ append_assoc (sets_of kept) (new.code_box.sets ∷ []) (sets_of boxes))) all

-- boxes of which none lies inside another stay as they are
reduce-apart : (boxes : List BoxFrom) → LieApart boxes → reduce_from boxes ≡ boxes
reduce-apart boxes all = folded-apart [] boxes all

-- and so do those of them that are whole at a field
pub unchanged-apart : (place whole : ℕ) (boxes : List BoxFrom) → LieApart boxes
    → reduce_from (each_from (unchanged_one place whole) 0 boxes) ≡ each_from (unchanged_one place whole) 0 boxes
unchanged-apart place whole boxes all =
    reduce-apart (each_from (unchanged_one place whole) 0 boxes)
    (subst (λ (bs : List (List ℕ)). AllApart bs) (sym (sets-whole 0 boxes)) (all-filter (is_whole_at place whole) (sets_of boxes) all))
  where
    sets-whole : (i : ℕ) (bs : List BoxFrom) → sets_of (each_from (unchanged_one place whole) i bs) ≡ filter (is_whole_at place whole) (sets_of bs)
    sets-whole i [] = refl
    sets-whole i (b ∷ bs) = by (is_whole_at place whole b.code_box.sets) (sets-whole (suc i) bs)
      where
        by : (t : Bool) → sets_of (each_from (unchanged_one place whole) (suc i) bs) ≡ filter (is_whole_at place whole) (sets_of bs)
            → sets_of ((if t then from_of b.code_box.shape b.code_box.sets (Unchanged i) ∷ [] else []) ++ each_from (unchanged_one place whole) (suc i) bs)
            ≡ (if t then b.code_box.sets ∷ filter (is_whole_at place whole) (sets_of bs) else filter (is_whole_at place whole) (sets_of bs))
        by true rest = ap (λ (ss : List (List ℕ)). b.code_box.sets ∷ ss) rest
        by false rest = rest
