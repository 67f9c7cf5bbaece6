use Rattle.std.proofs.Common.{◌≡◌, ◌⊎◌, inl, inr, ℕ, zero, suc, ◌+◌, ◌<◌, Bool, true, false, not, if◌then◌else◌, List, [], ◌∷◌, ◌++◌, Option, Some}
use Rattle.std.proofs.Common.{None, IsSomeAnd, Result, Ok, Err, bit_and, length, slice_get, slice_index_or, slice_set, length-append, refl, sym, ap}
use Rattle.std.proofs.Common.{◌∙◌, subst, arith}
use Rattle.std.specs.List.{fold, list_any}
use Rattle.std.proofs.lemmas.Bool.Decides.{Decides-eqb}
use Rattle.foundation.specs.Results.{◌>>=◌, fault_as}
use Rattle.edit_model.specs.Points.{has_code}
use Rattle.edit_model.specs.declared.value.Value.{Value}
use Rattle.edit_line.specs.Boxes.{BoxParts, box_of}
use Rattle.edit_line.specs.CodeFields.{TakesCodes, codes_of, codes_up, place_of, size_of, whole_of}
use Rattle.edit_line.specs.Combinations.{in_both}
use Rattle.edit_line.specs.Reductions.{IsIn}
use Rattle.edit_line.specs.Sets.{are_subsets, none_is_empty}
use Rattle.edit_line.specs.Shapes.{Domain, whole_sets}
use Rattle.edit_line.specs.Sums.{fails_at}
use Rattle.edit_line.specs.declared.derived.Derived.{Derived}
use Rattle.edit_line.proofs.ListPlaces.{StandsAt, first-at, later-at, whole-at}
use Rattle.edit_line.proofs.Members.{all-in, in-all, in-either, in-flat_map-out, in-get, in-taken}
use Rattle.edit_line.proofs.OtherFields.{set-set, set-whole}
use Rattle.edit_line.proofs.BoolLaws.{both_true}
use Rattle.categ_combine.specs.BoxLists.{AreBoxesOver}
use Rattle.categ_combine.specs.Covers.{IsElimination, covered_from, covers_from, first_cover, from_of, is_whole_at, joined, joined_for, meets_but}
use Rattle.categ_combine.specs.Covers.{cover_parts, row_of, takes_part, unchanged_one, with_code_from}
use Rattle.categ_combine.specs.Each.{each_from}
use Rattle.categ_combine.specs.FailingBoxes.{failing_from, line_fault, taken}
use Rattle.categ_combine.specs.Fixing.{fixed_from, fixed_one}
use Rattle.categ_combine.specs.Origins.{AllCome, ComesFromCover, ComesFromFix, ComesFromLine, HaveInCommon, IsUnchanged, whole_box}
use Rattle.categ_combine.specs.Steps.{IsDone}
use Rattle.categ_combine.specs.declared.box_from.BoxFrom.{BoxFrom}
use Rattle.categ_combine.specs.declared.box_from.BoxOrigin.{BoxOrigin}
use Rattle.categ_combine.specs.declared.box_from.BoxOrigin.TheVariants.{Cover, Failing, Fixed, Unchanged}
use Rattle.categ_combine.specs.declared.covered.Covered.{Covered}
use Rattle.categ_combine.specs.declared.covered.Covered.TheVariants.{Done, Passed}
use Rattle.categ_combine.proofs.ReducedBoxes.{in-reduce_from}

-- The boxes come from what their origins name.

some_at : {X : Type 0} (P : X → Type 0) (o : Option X) (x : X) → o ≡ Some x → P x → IsSomeAnd o P
some_at P o x e h = subst (λ o. IsSomeAnd o P) (sym e) h

-- ---- elements with their places

-- what each element with its place gives
in-each : {X A : Type 0} (give : ℕ → X → List A) (whole : List X) (i : ℕ) (xs : List X) (a : A) → StandsAt whole i xs → IsIn a (each_from give i xs)
    → (j : ℕ) × (x : X) × (slice_get whole j ≡ Some x) × IsIn a (give j x)
in-each give whole i [] a at there = absurd there
in-each give whole i (x ∷ xs) a at there = elim (in-either a (give i x) (each_from give (suc i) xs) there) [
  | inl here ↦ (i, x, first-at whole i x xs at, here)
  | inr later ↦ in-each give whole (suc i) xs a (later-at whole i x xs at) later
]

-- ---- the boxes of failing lines

module _ (lines : List Derived) (row : List Value) where
  abbrev FromLine : BoxFrom → Type 0
  FromLine b = ComesFromLine lines row b.code_box b.origin

  from-failing : (i : ℕ) (rest : List Derived) (kept boxes : List BoxFrom) → StandsAt lines i rest → ((b : BoxFrom) → IsIn b kept → FromLine b)
      → failing_from i rest row kept ≡ Ok boxes → (b : BoxFrom) → IsIn b boxes → FromLine b
  from-failing i [] kept boxes at before told b there = before b (subst (λ (bs : List BoxFrom). IsIn b bs) (sym (cc)) there)
  from-failing i (d ∷ rest) kept boxes at before told b there =
      by (fails_at d.line row) refl told (λ fails more h. from-failing (suc i) rest (taken kept i d.line fails) boxes (later-at lines i d rest at) more h b
      there)
    where
      more : (fails : Bool) → fails_at d.line row ≡ Ok fails → (e : BoxFrom) → IsIn e (taken kept i d.line fails) → FromLine e
      more false is e in_taken = before e in_taken
      more true is e in_taken =
          elim (in-taken (list_any (λ (b : BoxFrom). are_subsets d.line.sets b.code_box.sets) kept)
          (λ (b : BoxFrom). not (are_subsets b.code_box.sets d.line.sets)) e (from_of d.line.shape d.line.sets (Failing i)) kept in_taken) [
            | inl old ↦ before e old
            | inr same ↦
                subst (λ (b : BoxFrom). FromLine b) (sym same)
                (some_at (λ (x : Derived). (fails_at x.line row ≡ Ok true) × (box_of d.line.shape d.line.sets ≡ box_of x.line.shape x.line.sets))
                (slice_get lines i) d (first-at lines i d rest at) (is, refl))
          ]

      by : (r : Result Bool ℕ) → fails_at d.line row ≡ r
          → (fault_as (line_fault i) r >>= (λ fails. failing_from (suc i) rest row (taken kept i d.line fails))) ≡ Ok boxes
          → ((fails : Bool) → ((e : BoxFrom) → IsIn e (taken kept i d.line fails) → FromLine e)
          → failing_from (suc i) rest row (taken kept i d.line fails) ≡ Ok boxes → FromLine b) → FromLine b
      by (Ok fails) is h next = next fails (more fails is) h
      by (Err f) is h next = absurd (cc)

  -- each box of a record comes from a line that fails there
  pub failing-comes : (boxes : List BoxFrom) → failing_from 0 lines row [] ≡ Ok boxes → AllCome (ComesFromLine lines row) boxes
  failing-comes boxes told = all-in FromLine boxes (λ b there. from-failing 0 lines [] boxes (whole-at lines) (λ e none. absurd none) told b there)

module _ (shape : List Domain) (boxes : List BoxFrom) (f : ℕ) (over : AreBoxesOver shape boxes) where
  abbrev place : ℕ
  place = place_of shape f

  abbrev whole : ℕ
  whole = whole_of shape f

  over-at : (i : ℕ) (x : BoxFrom) → slice_get boxes i ≡ Some x → x.code_box.shape ≡ shape
  over-at i x at = in-all (λ (b : BoxFrom). b.code_box.shape ≡ shape) x boxes over (in-get x boxes i at)

  -- the box at a place, as it was
  unchanged-at : (i : ℕ) (x : BoxFrom) (box : BoxParts) → slice_get boxes i ≡ Some x
      → is_whole_at (place_of shape f) (whole_of shape f) x.code_box.sets ≡ true → box ≡ x.code_box → IsUnchanged shape boxes f i box
  unchanged-at i x box at is same =
      some_at (λ (b : BoxFrom). (is_whole_at (place_of shape f) (whole_of shape f) b.code_box.sets ≡ true) × (box ≡ b.code_box)) (slice_get boxes i) x at
      (is, same)

  -- ---- fixed boxes

  abbrev FromFix : ℕ → BoxFrom → Type 0
  FromFix code b = ComesFromFix shape boxes f code b.code_box b.origin

  from-fixed : (code i : ℕ) (x b : BoxFrom) → slice_get boxes i ≡ Some x → IsIn b (fixed_one (place_of shape f) (whole_of shape f) code i x) → FromFix code b
  from-fixed code i x b at made = by (has_code (slice_index_or x.code_box.sets place 0) code) refl made
    where
      by : (h : Bool) → has_code (slice_index_or x.code_box.sets (place_of shape f) 0) code ≡ h
          → IsIn b (if h then from_of x.code_box.shape (slice_set x.code_box.sets (place_of shape f) (whole_of shape f))
          (if is_whole_at (place_of shape f) (whole_of shape f) x.code_box.sets then Unchanged i else Fixed i) ∷ [] else []) → FromFix code b
      by false e none = absurd none
      by true e (inr none) = absurd none
      by true e (inl same) = subst (λ (y : BoxFrom). FromFix code y) (sym same) (one (is_whole_at place whole x.code_box.sets) refl)
        where
          one : (t : Bool) → is_whole_at (place_of shape f) (whole_of shape f) x.code_box.sets ≡ t
              → ComesFromFix shape boxes f code (box_of x.code_box.shape (slice_set x.code_box.sets (place_of shape f) (whole_of shape f)))
              (if t then Unchanged i else Fixed i)
          one true is = unchanged-at i x _ at is (ap (λ (s : List ℕ). box_of x.code_box.shape s)
              (set-whole place whole x.code_box.sets ((Decides-eqb _ _).0 is)))
          one false is =
              some_at (λ (y : BoxFrom). (has_code (slice_index_or y.code_box.sets (place_of shape f) 0) code ≡ true)
              × (box_of x.code_box.shape (slice_set x.code_box.sets (place_of shape f) (whole_of shape f)) ≡ whole_box shape f y.code_box.sets))
              (slice_get boxes i) x at
              (e, ap (λ (s : List Domain). box_of s (slice_set x.code_box.sets (place_of shape f) (whole_of shape f))) (over-at i x at))

  -- each box that a code leaves comes from one that has the code
  pub fixed-comes : (code : ℕ) → AllCome (ComesFromFix shape boxes f code) (fixed_from shape boxes f code)
  fixed-comes code = all-in (FromFix code) (fixed_from shape boxes f code) (λ b there.
      let (i, x, at, made) = in-each (fixed_one place whole code) boxes 0 boxes b (whole-at boxes) (in-reduce_from b _ there) in
      from-fixed code i x b at made)

  -- ---- covers

  -- the sets of a cover are what its parts have in common on the other fields
  meets-set : (k w : ℕ) (x y : List ℕ) → slice_set (in_both (slice_set x k w) y) k w ≡ slice_set (in_both x y) k w
  meets-set k w [] y = refl
  meets-set zero w (s ∷ x) [] = refl
  meets-set (suc k) w (s ∷ x) [] = ap (λ (ss : List ℕ). s ∷ ss) (set-set k w x)
  meets-set zero w (s ∷ x) (t ∷ y) = refl
  meets-set (suc k) w (s ∷ x) (t ∷ y) = ap (λ (ss : List ℕ). bit_and s t ∷ ss) (meets-set k w x y)

  -- with one part more
  common-more : (code : ℕ) (parts : List ℕ) (i : ℕ) (x : BoxFrom) (sets common : List ℕ) → slice_get boxes i ≡ Some x
      → has_code (slice_index_or x.code_box.sets (place_of shape f) 0) (code + length parts) ≡ true
      → HaveInCommon boxes (place_of shape f) code parts sets common
      → HaveInCommon boxes (place_of shape f) code (parts ++ i ∷ []) sets (in_both common x.code_box.sets)
  common-more code [] i x sets common at has same =
      some_at (λ (b : BoxFrom). (has_code (slice_index_or b.code_box.sets (place_of shape f) 0) code ≡ true)
      × (in_both common x.code_box.sets ≡ in_both sets b.code_box.sets)) (slice_get boxes i) x at
      (ap (λ n. has_code (slice_index_or x.code_box.sets (place_of shape f) 0) n) (omega arith) ∙ has, ap (λ (s : List ℕ). in_both s x.code_box.sets) same)
  common-more code (a ∷ parts) i x sets common at has are =
      by (slice_get boxes a) are (λ b told. common-more (suc code) parts i x (in_both sets b.code_box.sets) common at
      (ap (λ n. has_code (slice_index_or x.code_box.sets place 0) n) (omega arith) ∙ has) told)
    where
      by : (o : Option BoxFrom) → IsSomeAnd o (λ (b : BoxFrom). (has_code (slice_index_or b.code_box.sets (place_of shape f) 0) code ≡ true)
          × HaveInCommon boxes (place_of shape f) (suc code) parts (in_both sets b.code_box.sets) common)
          → ((b : BoxFrom) → HaveInCommon boxes (place_of shape f) (suc code) parts (in_both sets b.code_box.sets) common
          → HaveInCommon boxes (place_of shape f) (suc code) (parts ++ i ∷ []) (in_both sets b.code_box.sets) (in_both common x.code_box.sets))
          → IsSomeAnd o (λ (b : BoxFrom). (has_code (slice_index_or b.code_box.sets (place_of shape f) 0) code ≡ true)
          × HaveInCommon boxes (place_of shape f) (suc code) (parts ++ i ∷ []) (in_both sets b.code_box.sets) (in_both common x.code_box.sets))
      by None none rest = absurd none
      by (Some b) told rest = (told.0, rest b told.1)

  -- a cover of the first codes, so many
  record IsPart (many : ℕ) (b : BoxFrom) : Type 0 where
    parts : List ℕ
    origin_is : b.origin ≡ Cover parts
    many_are : length parts ≡ many
    shape_is : b.code_box.shape ≡ shape
    common : List ℕ
    common_is : HaveInCommon boxes (place_of shape f) 0 parts (whole_sets shape) common
    sets : slice_set common (place_of shape f) (whole_of shape f) ≡ b.code_box.sets
    full : 0 < many → none_is_empty b.code_box.sets ≡ true

  next-part : (many : ℕ) (q b : BoxFrom) → IsPart many q → IsIn b (row_of (place_of shape f) (whole_of shape f) many boxes q) → IsPart (suc many) b
  next-part many q b cover there =
      let (i, x, at, made) = in-each (joined_for place whole many q) boxes 0 boxes b (whole-at boxes) there in
      by i x at (takes_part place whole many x.code_box.sets) refl made
    where
      by : (i : ℕ) (x : BoxFrom) → slice_get boxes i ≡ Some x → (t : Bool) → takes_part (place_of shape f) (whole_of shape f) many x.code_box.sets ≡ t
          → IsIn b (if t then joined (place_of shape f) (whole_of shape f) q i x else []) → IsPart (suc many) b
      by i x at false e none = absurd none
      by i x at true e made = some (none_is_empty (meets_but (place_of shape f) (whole_of shape f) q.code_box.sets x.code_box.sets)) refl made
        where
          counted : 0 + length cover.parts ≡ many
          counted = omega (arith, cover.many_are)

          parts_are : cover_parts q.origin ≡ cover.parts
          parts_are = ap (λ o. cover_parts o) cover.origin_is

          some : (t : Bool) → none_is_empty (meets_but (place_of shape f) (whole_of shape f) q.code_box.sets x.code_box.sets) ≡ t
              → IsIn b (if t then from_of q.code_box.shape (meets_but (place_of shape f) (whole_of shape f) q.code_box.sets x.code_box.sets)
              (Cover (cover_parts q.origin ++ i ∷ [])) ∷ [] else []) → IsPart (suc many) b
          some false codes none = absurd none
          some true codes (inr none) = absurd none
          some true codes (inl same) = subst (λ (y : BoxFrom). IsPart (suc many) y) (sym same) (record {
            parts = cover.parts ++ i ∷ [];
            origin_is = ap (λ (is : List ℕ). Cover (is ++ i ∷ [])) parts_are;
            many_are = length-append cover.parts (i ∷ []) ∙ omega (arith, cover.many_are);
            shape_is = cover.shape_is;
            common = in_both cover.common x.code_box.sets;
            common_is = common-more 0 cover.parts i x (whole_sets shape) cover.common at
                (ap (λ n. has_code (slice_index_or x.code_box.sets (place_of shape f) 0) n) counted ∙ (both_true _ _ e).1) cover.common_is;
            sets = sym (meets-set (place_of shape f) (whole_of shape f) cover.common x.code_box.sets)
                ∙ ap (λ (s : List ℕ). slice_set (in_both s x.code_box.sets) (place_of shape f) (whole_of shape f)) cover.sets;
            full = λ more. codes;
          })

  folded-parts : (code left : ℕ) (found : List BoxFrom) → ((b : BoxFrom) → IsIn b found → IsPart code b)
      → (b : BoxFrom) → IsIn b (fold (λ found code. with_code_from (place_of shape f) (whole_of shape f) boxes found code) found (codes_up code left))
      → IsPart (code + left) b
  folded-parts code zero found are b there = subst (λ n. IsPart n b) (omega arith) (are b there)
  folded-parts code (suc left) found are b there =
      subst (λ n. IsPart n b) (omega arith) (folded-parts (suc code) left (with_code_from place whole boxes found code) next b there)
    where
      next : (b : BoxFrom) → IsIn b (with_code_from (place_of shape f) (whole_of shape f) boxes found code) → IsPart (suc code) b
      next b there = let (q, was, made) = in-flat_map-out (row_of place whole code boxes) b found (in-reduce_from b _ there) in next-part code q b
          (are q was) made

  abbrev FromCover : BoxFrom → Type 0
  FromCover b = ComesFromCover shape boxes f b.code_box b.origin

  from-unchanged : (i : ℕ) (x b : BoxFrom) → slice_get boxes i ≡ Some x → IsIn b (unchanged_one (place_of shape f) (whole_of shape f) i x) → FromCover b
  from-unchanged i x b at made = by (is_whole_at place whole x.code_box.sets) refl made
    where
      by : (t : Bool) → is_whole_at (place_of shape f) (whole_of shape f) x.code_box.sets ≡ t
          → IsIn b (if t then from_of x.code_box.shape x.code_box.sets (Unchanged i) ∷ [] else []) → FromCover b
      by true is (inl same) = subst (λ (y : BoxFrom). FromCover y) (sym same) (unchanged-at i x x.code_box at is refl)
      by true is (inr none) = absurd none
      by false is none = absurd none

  from-cover : TakesCodes shape f → (b : BoxFrom) → IsPart (0 + size_of shape f) b → FromCover b
  from-cover takes b cover = subst (λ (o : BoxOrigin). ComesFromCover shape boxes f b.code_box o) (sym cover.origin_is) (record {
    one_each = cover.many_are ∙ omega arith;
    common = cover.common;
    common_is = cover.common_is;
    box_is = ap (λ (s : List Domain). box_of s b.code_box.sets) cover.shape_is ∙ ap (λ (s : List ℕ). box_of shape s) (sym cover.sets);
    codes = cover.full (omega (arith, takes));
  })

  -- each box that elimination leaves comes from one that is whole at the field, or from one for each code
  pub covered-comes : TakesCodes shape f → AllCome (ComesFromCover shape boxes f) (covered_from shape boxes f)
  covered-comes takes =
      all-in FromCover (covered_from shape boxes f) (λ b there. at b
      (in-either b (each_from (unchanged_one place whole) 0 boxes) (covers_from shape boxes f (codes_of shape f)) (in-reduce_from b _ there)))
    where
      first : (b : BoxFrom) → IsIn b (first_cover shape ∷ []) → IsPart 0 b
      first b (inl same) = subst (λ (y : BoxFrom). IsPart 0 y) (sym same) (record {
        parts = [];
        origin_is = refl;
        many_are = refl;
        shape_is = refl;
        common = whole_sets shape;
        common_is = refl;
        sets = set-whole place whole (whole_sets shape) refl;
        full = λ none. absurd (omega arith);
      })
      first b (inr none) = absurd none

      at : (b : BoxFrom) → IsIn b (each_from (unchanged_one (place_of shape f) (whole_of shape f)) 0 boxes)
          ⊎ IsIn b (covers_from shape boxes f (codes_of shape f)) → FromCover b
      at b (inl old) = let (i, x, found, made) = in-each (unchanged_one place whole) boxes 0 boxes b (whole-at boxes) old in from-unchanged i x b found made
      at b (inr cover) = from-cover takes b (folded-parts 0 (size_of shape f) (first_cover shape ∷ []) first b cover)

-- so do the boxes of a step that is done
pub done-comes : (own shape : List Domain) (boxes : List BoxFrom) (f : ℕ) → own ≡ shape → AreBoxesOver shape boxes → TakesCodes shape f → (told : Covered)
    → IsDone told (IsElimination own boxes f) → IsDone told (λ left pairs. AllCome (ComesFromCover shape boxes f) left)
done-comes own shape boxes f same over takes (Done left pairs) are =
    subst (λ (bs : List BoxFrom). AllCome (ComesFromCover shape boxes f) bs) (sym (are.0 ∙ ap (λ s. covered_from s boxes f) same))
    (covered-comes shape boxes f over takes)
done-comes own shape boxes f same over takes Passed are = tt
