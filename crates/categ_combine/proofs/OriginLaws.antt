use Rattle.std.proofs.Common.{◌≡◌, ℕ, suc, Bool, true, false, if◌then◌else◌, List, [], ◌∷◌, ◌++◌, inl, inr, length, map, slice_index_or, slice_set}
use Rattle.std.proofs.Common.{refl, sym, ap, ◌∙◌}
use Rattle.std.specs.List.{filter, flat_map, fold}
use Rattle.std.proofs.lemmas.List.{map-append}
use Rattle.edit_model.specs.Points.{has_code}
use Rattle.edit_line.specs.Reductions.{IsIn}
use Rattle.edit_line.specs.Sets.{none_is_empty}
use Rattle.edit_line.specs.Shapes.{Domain}
use Rattle.edit_line.proofs.Members.{all-in, in-all, in-either, in-flat_map-out}
use Rattle.categ_combine.specs.BoxLists.{AreBoxesOver, reduce_boxes, sets_of}
use Rattle.edit_line.specs.CodeFields.{codes_of, place_of, whole_of}
use Rattle.categ_combine.specs.Covers.{covered, covered_from, covers_from, first_cover, from_of, is_whole_at, joined_for, meets_but, cover_parts}
use Rattle.categ_combine.specs.Covers.{row_of, takes_part, unchanged_one, with_code, with_code_from}
use Rattle.categ_combine.specs.Each.{each_from}
use Rattle.categ_combine.specs.Fixing.{fixed, fixed_from, fixed_one}
use Rattle.categ_combine.specs.declared.box_from.BoxFrom.{BoxFrom}
use Rattle.categ_combine.specs.declared.box_from.BoxOrigin.TheVariants.{Cover, Fixed, Unchanged}
use Rattle.categ_combine.proofs.ReducedBoxes.{in-reduce_from, sets-reduce}

-- Boxes with their origins, and without.

sets-each : (give : ℕ → BoxFrom → List BoxFrom) (plain : List ℕ → List (List ℕ)) → ((i : ℕ) (b : BoxFrom) → sets_of (give i b) ≡ plain b.code_box.sets)
    → (i : ℕ) (boxes : List BoxFrom)
    → sets_of (each_from give i boxes) ≡ flat_map plain (sets_of boxes)
sets-each give plain same i [] = refl
sets-each give plain same i (b ∷ boxes) =
    map-append (λ (b : BoxFrom). b.code_box.sets) (give i b) (each_from give (suc i) boxes)
    ∙ ap (λ bs. bs ++ sets_of (each_from give (suc i) boxes)) (same i b)
    ∙ ap (λ bs. plain b.code_box.sets ++ bs) (sets-each give plain same (suc i) boxes)

-- what passes a test, and is made into something
flat-if : (p : List ℕ → Bool) (h : List ℕ → List ℕ) (xs : List (List ℕ)) → flat_map (λ x. if p x then h x ∷ [] else []) xs ≡ map h (filter p xs)
flat-if p h [] = refl
flat-if p h (x ∷ xs) = by (p x) (flat-if p h xs)
  where
    by : (t : Bool) → flat_map (λ x. if p x then h x ∷ [] else []) xs ≡ map h (filter p xs)
        → ((if t then h x ∷ [] else []) ++ flat_map (λ x. if p x then h x ∷ [] else []) xs) ≡ map h (if t then x ∷ filter p xs else filter p xs)
    by true e = ap (λ ys. h x ∷ ys) e
    by false e = e

flat-same : (p : List ℕ → Bool) (xs : List (List ℕ)) → flat_map (λ x. if p x then x ∷ [] else []) xs ≡ filter p xs
flat-same p [] = refl
flat-same p (x ∷ xs) = by (p x) (flat-same p xs)
  where
    by : (t : Bool) → flat_map (λ x. if p x then x ∷ [] else []) xs ≡ filter p xs
        → ((if t then x ∷ [] else []) ++ flat_map (λ x. if p x then x ∷ [] else []) xs) ≡ (if t then x ∷ filter p xs else filter p xs)
    by true e = ap (λ ys. x ∷ ys) e
    by false e = e

-- what passes a test, and is made into something that passes another
flat-both : (p q : List ℕ → Bool) (h : List ℕ → List ℕ) (xs : List (List ℕ))
    → flat_map (λ x. if p x then (if q (h x) then h x ∷ [] else []) else []) xs ≡ filter q (map h (filter p xs))
flat-both p q h [] = refl
flat-both p q h (x ∷ xs) = by (p x) (q (h x)) refl (flat-both p q h xs)
  where
    rest : List (List ℕ)
    rest = flat_map (λ x. if p x then (if q (h x) then h x ∷ [] else []) else []) xs

    by : (t u : Bool) → q (h x) ≡ u → rest ≡ filter q (map h (filter p xs))
        → ((if t then (if u then h x ∷ [] else []) else []) ++ rest) ≡ filter q (map h (if t then x ∷ filter p xs else filter p xs))
    by true true e same = ap (λ ys. h x ∷ ys) same ∙ ap (λ b. if b then h x ∷ filter q (map h (filter p xs)) else filter q (map h (filter p xs))) (sym e)
    by true false e same = same ∙ ap (λ b. if b then h x ∷ filter q (map h (filter p xs)) else filter q (map h (filter p xs))) (sym e)
    by false u e same = same

module _ (place whole : ℕ) where
  sets-unchanged : (i : ℕ) (b : BoxFrom) → sets_of (unchanged_one place whole i b)
      ≡ (if is_whole_at place whole b.code_box.sets then b.code_box.sets ∷ [] else [])
  sets-unchanged i b = by (is_whole_at place whole b.code_box.sets)
    where
      by : (t : Bool) → sets_of (if t then from_of b.code_box.shape b.code_box.sets (Unchanged i) ∷ [] else []) ≡ (if t then b.code_box.sets ∷ [] else [])
      by true = refl
      by false = refl

  sets-fixed : (code i : ℕ) (b : BoxFrom) → sets_of (fixed_one place whole code i b)
      ≡ (if has_code (slice_index_or b.code_box.sets place 0) code then slice_set b.code_box.sets place whole ∷ [] else [])
  sets-fixed code i b = by (has_code (slice_index_or b.code_box.sets place 0) code)
    where
      by : (t : Bool) → sets_of (if t then from_of b.code_box.shape (slice_set b.code_box.sets place whole)
          (if is_whole_at place whole b.code_box.sets then Unchanged i else Fixed i) ∷ [] else [])
          ≡ (if t then slice_set b.code_box.sets place whole ∷ [] else [])
      by true = refl
      by false = refl

  sets-joined : (code : ℕ) (p : BoxFrom) (i : ℕ) (b : BoxFrom) → sets_of (joined_for place whole code p i b)
      ≡ (if takes_part place whole code b.code_box.sets then
      (if none_is_empty (meets_but place whole p.code_box.sets b.code_box.sets) then meets_but place whole p.code_box.sets b.code_box.sets ∷ [] else
      []) else [])
  sets-joined code p i b = by (takes_part place whole code b.code_box.sets) (none_is_empty (meets_but place whole p.code_box.sets b.code_box.sets))
    where
      m : List ℕ
      m = meets_but place whole p.code_box.sets b.code_box.sets

      by : (t u : Bool) → sets_of (if t then (if u then from_of p.code_box.shape m (Cover (cover_parts p.origin ++ i ∷ [])) ∷ [] else []) else [])
          ≡ (if t then (if u then m ∷ [] else []) else [])
      by true true = refl
      by true false = refl
      by false u = refl

  sets-row : (code : ℕ) (boxes : List BoxFrom) (p : BoxFrom)
      → sets_of (row_of place whole code boxes p) ≡ filter none_is_empty
      (map (λ b. meets_but place whole p.code_box.sets b) (filter (takes_part place whole code) (sets_of boxes)))
  sets-row code boxes p =
      sets-each (joined_for place whole code p) (λ b. if takes_part place whole code b then
      (if none_is_empty (meets_but place whole p.code_box.sets b) then meets_but place whole p.code_box.sets b ∷ [] else []) else [])
      (sets-joined code p) 0 boxes
      ∙ flat-both (takes_part place whole code) none_is_empty (λ b. meets_but place whole p.code_box.sets b) (sets_of boxes)

  sets-rows : (code : ℕ) (boxes covers : List BoxFrom)
      → sets_of (flat_map (row_of place whole code boxes) covers)
      ≡ flat_map (λ p. filter none_is_empty (map (λ b. meets_but place whole p b) (filter (takes_part place whole code) (sets_of boxes)))) (sets_of covers)
  sets-rows code boxes [] = refl
  sets-rows code boxes (p ∷ covers) =
      map-append (λ (b : BoxFrom). b.code_box.sets) (row_of place whole code boxes p) (flat_map (row_of place whole code boxes) covers)
      ∙ ap (λ bs. bs ++ sets_of (flat_map (row_of place whole code boxes) covers)) (sets-row code boxes p)
      ∙ ap (λ bs. filter none_is_empty (map (λ b. meets_but place whole p.code_box.sets b) (filter (takes_part place whole code) (sets_of boxes))) ++ bs)
      (sets-rows code boxes covers)

  pub sets-with_code : (boxes covers : List BoxFrom) (code : ℕ)
      → sets_of (with_code_from place whole boxes covers code) ≡ with_code place whole (sets_of boxes) (sets_of covers) code
  sets-with_code boxes covers code = sets-reduce (flat_map (row_of place whole code boxes) covers) ∙ ap reduce_boxes (sets-rows code boxes covers)

  sets-covers : (boxes covers : List BoxFrom) (codes : List ℕ)
      → sets_of (fold (λ covers code. with_code_from place whole boxes covers code) covers codes)
      ≡ fold (λ covers code. with_code place whole (sets_of boxes) covers code) (sets_of covers) codes
  sets-covers boxes covers [] = refl
  sets-covers boxes covers (code ∷ codes) =
      sets-covers boxes (with_code_from place whole boxes covers code) codes
      ∙ ap (λ bs. fold (λ covers code. with_code place whole (sets_of boxes) covers code) bs codes) (sets-with_code boxes covers code)

  -- the parts that are counted
  pub length-parts : (code : ℕ) (boxes : List BoxFrom)
      → length (filter (λ (b : BoxFrom). takes_part place whole code b.code_box.sets) boxes) ≡ length (filter (takes_part place whole code) (sets_of boxes))
  length-parts code [] = refl
  length-parts code (b ∷ boxes) = by (takes_part place whole code b.code_box.sets) (length-parts code boxes)
    where
      by : (t : Bool) → length (filter (λ (b : BoxFrom). takes_part place whole code b.code_box.sets) boxes)
          ≡ length (filter (takes_part place whole code) (sets_of boxes))
          → length (if t then b ∷ filter (λ (b : BoxFrom). takes_part place whole code b.code_box.sets) boxes else filter
          (λ (b : BoxFrom). takes_part place whole code b.code_box.sets) boxes)
          ≡ length (if t then b.code_box.sets ∷ filter (takes_part place whole code) (sets_of boxes) else filter (takes_part place whole code) (sets_of boxes))
      by true e = ap suc e
      by false e = e

  -- a cover's shape is its first one's
  in-row : (code : ℕ) (p : BoxFrom) (i : ℕ) (boxes : List BoxFrom) (b : BoxFrom) → IsIn b (each_from (joined_for place whole code p) i boxes)
      → b.code_box.shape ≡ p.code_box.shape
  in-row code p i [] b there = absurd there
  in-row code p i (a ∷ boxes) b there = elim (in-either b (joined_for place whole code p i a) (each_from (joined_for place whole code p) (suc i) boxes) there) [
    | inl here ↦ by (takes_part place whole code a.code_box.sets) (none_is_empty (meets_but place whole p.code_box.sets a.code_box.sets)) here
    | inr later ↦ in-row code p (suc i) boxes b later
  ]
    where
      m : List ℕ
      m = meets_but place whole p.code_box.sets a.code_box.sets

      by : (t u : Bool) → IsIn b (if t then (if u then from_of p.code_box.shape m (Cover (cover_parts p.origin ++ i ∷ [])) ∷ [] else []) else [])
          → b.code_box.shape ≡ p.code_box.shape
      by true true (inl e) = ap (λ (x : BoxFrom). x.code_box.shape) e
      by true true (inr none) = absurd none
      by true false none = absurd none
      by false u none = absurd none

  -- the next covers are over the same fields
  pub over-with_code : (shape : List Domain) (boxes covers : List BoxFrom) (code : ℕ) → AreBoxesOver shape covers
      → AreBoxesOver shape (with_code_from place whole boxes covers code)
  over-with_code shape boxes covers code over =
      all-in (λ (b : BoxFrom). b.code_box.shape ≡ shape) (with_code_from place whole boxes covers code) (λ b there.
      let (p, was, made) = in-flat_map-out (row_of place whole code boxes) b covers
      (in-reduce_from b (flat_map (row_of place whole code boxes) covers) there) in
      in-row code p 0 boxes b made ∙ in-all (λ (b : BoxFrom). b.code_box.shape ≡ shape) p covers over was
      )

-- elimination and fixing, without the origins
pub sets-covered : (shape : List Domain) (boxes : List BoxFrom) (f : ℕ) → sets_of (covered_from shape boxes f) ≡ covered shape (sets_of boxes) f
sets-covered shape boxes f =
    sets-reduce (each_from (unchanged_one (place_of shape f) (whole_of shape f)) 0 boxes ++ covers_from shape boxes f (codes_of shape f))
    ∙ ap reduce_boxes (
    map-append (λ (b : BoxFrom). b.code_box.sets) (each_from (unchanged_one (place_of shape f) (whole_of shape f)) 0 boxes)
    (covers_from shape boxes f (codes_of shape f))
    ∙ ap (λ bs. bs ++ sets_of (covers_from shape boxes f (codes_of shape f))) (
    sets-each (unchanged_one (place_of shape f) (whole_of shape f)) (λ b. if is_whole_at (place_of shape f) (whole_of shape f) b then b ∷ [] else [])
    (sets-unchanged (place_of shape f) (whole_of shape f)) 0 boxes
    ∙ flat-same (is_whole_at (place_of shape f) (whole_of shape f)) (sets_of boxes)
    )
    ∙ ap (λ bs. filter (is_whole_at (place_of shape f) (whole_of shape f)) (sets_of boxes) ++ bs)
    (sets-covers (place_of shape f) (whole_of shape f) boxes (first_cover shape ∷ []) (codes_of shape f))
    )

pub sets-fixed_from : (shape : List Domain) (boxes : List BoxFrom) (f code : ℕ) → sets_of (fixed_from shape boxes f code) ≡ fixed shape (sets_of boxes) f code
sets-fixed_from shape boxes f code =
    sets-reduce (each_from (fixed_one (place_of shape f) (whole_of shape f) code) 0 boxes)
    ∙ ap reduce_boxes (
    sets-each (fixed_one (place_of shape f) (whole_of shape f) code)
    (λ b. if has_code (slice_index_or b (place_of shape f) 0) code then slice_set b (place_of shape f) (whole_of shape f) ∷ [] else [])
    (sets-fixed (place_of shape f) (whole_of shape f) code) 0 boxes
    ∙ flat-if (λ b. has_code (slice_index_or b (place_of shape f) 0) code) (λ b. slice_set b (place_of shape f) (whole_of shape f)) (sets_of boxes)
    )
