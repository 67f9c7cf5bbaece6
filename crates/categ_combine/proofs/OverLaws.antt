use Rattle.std.proofs.Common.{◌≡◌, ◌⊎◌, inl, inr, ℕ, zero, suc, slice_index_or, not, Bool, true, false, if◌then◌else◌, List, [], ◌∷◌, ◌++◌, All}
use Rattle.std.proofs.Common.{Result, Ok, Err, refl, sym, ap, ◌∙◌, subst, arith}
use Rattle.std.specs.List.{fold, list_any}
use Rattle.foundation.specs.Results.{◌>>=◌, fault_as}
use Rattle.edit_line.specs.Reductions.{IsIn}
use Rattle.edit_line.specs.Shapes.{Domain}
use Rattle.edit_line.specs.declared.derived.Derived.{Derived}
use Rattle.edit_line.specs.Sums.{fails_at}
use Rattle.edit_line.specs.Sets.{are_subsets}
use Rattle.edit_line.specs.CodeFields.{codes_of, place_of, whole_of}
use Rattle.edit_line.proofs.Members.{all-in, in-all, in-either, in-taken}
use Rattle.edit_model.specs.declared.value.Value.{Value}
use Rattle.edit_model.specs.Points.{has_code}
use Rattle.categ_combine.specs.BoxLists.{AreBoxesOver, with_from}
use Rattle.categ_combine.specs.Covers.{IsElimination, covered_from, covers_from, first_cover, from_of, is_whole_at, unchanged_one, with_code_from}
use Rattle.categ_combine.specs.Each.{each_from}
use Rattle.categ_combine.specs.FailingBoxes.{failing_from, line_fault, taken}
use Rattle.categ_combine.specs.Fixing.{fixed_from, fixed_one}
use Rattle.categ_combine.specs.Steps.{IsDone}
use Rattle.categ_combine.specs.declared.covered.Covered.{Covered}
use Rattle.categ_combine.specs.declared.covered.Covered.TheVariants.{Done, Passed}
use Rattle.categ_combine.specs.declared.box_from.BoxFrom.{BoxFrom}
use Rattle.categ_combine.specs.declared.box_from.BoxOrigin.{BoxOrigin}
use Rattle.categ_combine.specs.declared.box_from.BoxOrigin.TheVariants.{Failing}
use Rattle.categ_combine.proofs.OriginLaws.{over-with_code}
use Rattle.categ_combine.proofs.ReducedBoxes.{in-reduce_from}

-- What boxes give is over the fields that they are over.

module _ (shape : List Domain) where
  abbrev IsOver : BoxFrom → Type 0
  IsOver b = b.code_box.shape ≡ shape

  -- so is a list of boxes of which each gives boxes over the fields
  over-each : (give : ℕ → BoxFrom → List BoxFrom) → ((i : ℕ) (a b : BoxFrom) → IsOver a → IsIn b (give i a) → IsOver b) → (i : ℕ) (boxes : List BoxFrom)
      → AreBoxesOver shape boxes
      → (b : BoxFrom) → IsIn b (each_from give i boxes) → IsOver b
  over-each give own i [] over b none = absurd none
  over-each give own i (a ∷ boxes) over b there = elim (in-either b (give i a) (each_from give (suc i) boxes) there) [
    | inl here ↦ own i a b (over 0 a (omega arith)) here
    | inr later ↦ over-each give own (suc i) boxes (λ k d below. over (suc k) d (omega arith)) b later
  ]

  over-if : (t : Bool) (a b : BoxFrom) (sets : List ℕ) (origin : BoxOrigin) → IsOver a
      → IsIn b (if t then from_of a.code_box.shape sets origin ∷ [] else []) → IsOver b
  over-if true a b sets origin over (inl e) = ap (λ (x : BoxFrom). x.code_box.shape) e ∙ over
  over-if true a b sets origin over (inr none) = absurd none
  over-if false a b sets origin over none = absurd none

  over-fixed_one : (place whole code i : ℕ) (a b : BoxFrom) → IsOver a → IsIn b (fixed_one place whole code i a) → IsOver b
  over-fixed_one place whole code i a b over there = over-if (has_code (slice_index_or a.code_box.sets place 0) code) a b _ _ over there

  over-unchanged_one : (place whole i : ℕ) (a b : BoxFrom) → IsOver a → IsIn b (unchanged_one place whole i a) → IsOver b
  over-unchanged_one place whole i a b over there = over-if (is_whole_at place whole a.code_box.sets) a b _ _ over there

  -- the boxes that a code leaves
  pub over-fixed : (boxes : List BoxFrom) (f code : ℕ) → AreBoxesOver shape boxes → AreBoxesOver shape (fixed_from shape boxes f code)
  over-fixed boxes f code over =
      all-in (λ (b : BoxFrom). b.code_box.shape ≡ shape) (fixed_from shape boxes f code) (λ b there.
      over-each (fixed_one (place_of shape f) (whole_of shape f) code) (over-fixed_one (place_of shape f) (whole_of shape f) code) 0 boxes over b
      (in-reduce_from b (each_from (fixed_one (place_of shape f) (whole_of shape f) code) 0 boxes) there)
      )

  over-covers : (place whole : ℕ) (boxes covers : List BoxFrom) (codes : List ℕ) → AreBoxesOver shape covers
      → AreBoxesOver shape (fold (λ covers code. with_code_from place whole boxes covers code) covers codes)
  over-covers place whole boxes covers [] over = over
  over-covers place whole boxes covers (code ∷ codes) over =
      over-covers place whole boxes (with_code_from place whole boxes covers code) codes (over-with_code place whole shape boxes covers code over)

  -- the boxes that are left without a field
  pub over-covered : (boxes : List BoxFrom) (f : ℕ) → AreBoxesOver shape boxes → AreBoxesOver shape (covered_from shape boxes f)
  over-covered boxes f over =
      all-in (λ (b : BoxFrom). b.code_box.shape ≡ shape) (covered_from shape boxes f) (λ b there.
      at b (in-either b (each_from (unchanged_one (place_of shape f) (whole_of shape f)) 0 boxes) (covers_from shape boxes f (codes_of shape f))
      (in-reduce_from b (each_from (unchanged_one (place_of shape f) (whole_of shape f)) 0 boxes ++ covers_from shape boxes f (codes_of shape f)) there))
      )
    where
      first-over : AreBoxesOver shape (first_cover shape ∷ [])
      first-over zero d below = refl
      first-over (suc k) d below = absurd (omega arith)

      at : (b : BoxFrom) → IsIn b (each_from (unchanged_one (place_of shape f) (whole_of shape f)) 0 boxes)
          ⊎ IsIn b (covers_from shape boxes f (codes_of shape f)) → IsOver b
      at b (inl kept) =
          over-each (unchanged_one (place_of shape f) (whole_of shape f)) (over-unchanged_one (place_of shape f) (whole_of shape f)) 0 boxes over b kept
      at b (inr cover) =
          in-all (λ (x : BoxFrom). x.code_box.shape ≡ shape) b (covers_from shape boxes f (codes_of shape f))
          (over-covers (place_of shape f) (whole_of shape f) boxes (first_cover shape ∷ []) (codes_of shape f) first-over) cover

  over-with_from : (kept : List BoxFrom) (new : BoxFrom) → AreBoxesOver shape kept → IsOver new → AreBoxesOver shape (with_from kept new)
  over-with_from kept new over is =
      all-in (λ (b : BoxFrom). b.code_box.shape ≡ shape) (with_from kept new) (λ b there.
      elim (in-taken (list_any (λ (b : BoxFrom). are_subsets new.code_box.sets b.code_box.sets) kept)
      (λ (b : BoxFrom). not (are_subsets b.code_box.sets new.code_box.sets)) b new kept there) [
        | inl early ↦ in-all (λ (x : BoxFrom). x.code_box.shape ≡ shape) b kept over early
        | inr last ↦ ap (λ (x : BoxFrom). x.code_box.shape) last ∙ is
      ])

  -- the boxes of the failing lines
  pub over-failing : (i : ℕ) (lines : List Derived) (row : List Value) (kept boxes : List BoxFrom) → All (λ (d : Derived). d.line.shape ≡ shape) lines
      → AreBoxesOver shape kept → failing_from i lines row kept ≡ Ok boxes → AreBoxesOver shape boxes
  over-failing i [] row kept boxes are over made = let same : kept ≡ boxes = cc in subst (λ bs. AreBoxesOver shape bs) same over
  over-failing i (d ∷ lines) row kept boxes are over made =
      by (fails_at d.line row) (λ fails h. over-failing (suc i) lines row (taken kept i d.line fails) boxes (λ k e below. are (suc k) e (omega arith))
      (next fails) h) made
    where
      next : (fails : Bool) → AreBoxesOver shape (taken kept i d.line fails)
      next true = over-with_from kept (from_of d.line.shape d.line.sets (Failing i)) over (are 0 d (omega arith))
      next false = over

      by : (t : Result Bool ℕ) → ((fails : Bool) → failing_from (suc i) lines row (taken kept i d.line fails) ≡ Ok boxes → AreBoxesOver shape boxes)
          → (fault_as (line_fault i) t >>= (λ fails. failing_from (suc i) lines row (taken kept i d.line fails))) ≡ Ok boxes → AreBoxesOver shape boxes
      by (Ok fails) rest h = rest fails h
      by (Err f) rest h = absurd (cc)

-- a step that is done leaves boxes over the fields
pub done-over : (own shape : List Domain) (boxes : List BoxFrom) (f : ℕ) → own ≡ shape → AreBoxesOver shape boxes → (told : Covered)
    → IsDone told (IsElimination own boxes f) → IsDone told (λ left pairs. AreBoxesOver shape left)
done-over own shape boxes f same over (Done left pairs) are =
    subst (λ bs. AreBoxesOver shape bs) (sym (are.0 ∙ ap (λ s. covered_from s boxes f) same)) (over-covered shape boxes f over)
done-over own shape boxes f same over Passed are = tt
