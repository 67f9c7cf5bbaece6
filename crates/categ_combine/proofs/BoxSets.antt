use Rattle.std.proofs.Common.{◌≡◌, ℕ, zero, suc, ◌+◌, ◌<◌, ◌==◌, bit_and, cond, get_or, nat_lt, not, Bool, true, false, List, [], ◌∷◌, Some, None}
use Rattle.std.proofs.Common.{inl, inr, length, map, slice_set, slice_index_or, refl, sym, ap, ◌∙◌, subst, arith}
use Rattle.std.specs.List.{filter, fold, position, position_or_len}
use Rattle.std.specs.Int.Bits.{and_self}
use Rattle.std.proofs.lemmas.Bool.Decides.{Decides-eqb}
use Rattle.std.proofs.lemmas.List.{get_or-set_other, get_or-set_same}
use Rattle.std.proofs.lemmas.List.Quantifiers.{position-Some}
use Rattle.std.proofs.lemmas.Option.{slice_get-get_or}
use Rattle.edit_line.specs.CodeFields.{TakesCodes, codes_of, place_of, whole_of}
use Rattle.edit_line.specs.Combinations.{in_both}
use Rattle.edit_line.specs.Reductions.{IsIn}
use Rattle.edit_line.specs.Sets.{none_is_empty}
use Rattle.edit_line.specs.Shapes.{Domain, code_fields, whole_sets}
use Rattle.edit_model.specs.Points.{has_code}
use Rattle.edit_line.proofs.CombinationLaws.{length-meets}
use Rattle.edit_line.proofs.Members.{in-either, in-filter-out, in-flat_map-out, in-get, in-map-out}
use Rattle.edit_line.proofs.OtherFields.{length-set}
use Rattle.edit_line.proofs.PointCodes.{place_of-below}
use Rattle.edit_line.proofs.ShapeLaws.{length-wholes}
use Rattle.categ_combine.specs.Covers.{covered, covers_of, is_whole_at, meets_but, takes_part, with_code}
use Rattle.categ_combine.specs.Fixing.{fixed}
use Rattle.categ_combine.proofs.CoverLaws.{HaveSets}
use Rattle.categ_combine.proofs.ReducedBoxes.{in-reduce}

-- A fact of all boxes that the intersections and the boxes made whole keep is one of the boxes that elimination leaves.

module _ (P Q : List ℕ → Type 0) (place whole : ℕ) (meet : (p b : List ℕ) → P p → Q b → P (meets_but place whole p b)) (boxes : List (List ℕ))
    (all : (b : List ℕ) → IsIn b boxes → Q b) where
  each-with_code : (covers : List (List ℕ)) (code : ℕ) → ((p : List ℕ) → IsIn p covers → P p) → (b : List ℕ)
      → IsIn b (with_code place whole boxes covers code) → P b
  each-with_code covers code first b there =
      let (p, p_in, from) = in-flat_map-out (λ p. filter none_is_empty (map (λ c. meets_but place whole p c) (filter (takes_part place whole code) boxes)))
      b covers (in-reduce b _ there) in
      let (was, some) = in-filter-out none_is_empty b (map (λ c. meets_but place whole p c) (filter (takes_part place whole code) boxes)) from in
      let (c, c_in, same) = in-map-out (λ c. meets_but place whole p c) b (filter (takes_part place whole code) boxes) was in
      let (c_was, takes) = in-filter-out (takes_part place whole code) c boxes c_in in
      subst P (sym same) (meet p c (first p p_in) (all c c_was))

  pub each-cover : (covers : List (List ℕ)) (codes : List ℕ) → ((p : List ℕ) → IsIn p covers → P p) → (b : List ℕ)
      → IsIn b (fold (λ covers code. with_code place whole boxes covers code) covers codes) → P b
  each-cover covers [] first b there = first b there
  each-cover covers (code ∷ codes) first b there = each-cover (with_code place whole boxes covers code) codes (each-with_code covers code first) b there

-- each box that elimination leaves has the fact, where those that are whole at the field have it
pub each-covered : (P Q : List ℕ → Type 0) (shape : List Domain) (boxes : List (List ℕ)) (f : ℕ)
    → ((p b : List ℕ) → P p → Q b → P (meets_but (place_of shape f) (whole_of shape f) p b))
    → P (whole_sets shape) → ((b : List ℕ) → IsIn b boxes → Q b) → ((b : List ℕ) → Q b → is_whole_at (place_of shape f) (whole_of shape f) b ≡ true → P b)
    → (b : List ℕ) → IsIn b (covered shape boxes f) → P b
each-covered P Q shape boxes f meet first all kept b there =
    elim (in-either b (filter (is_whole_at (place_of shape f) (whole_of shape f)) boxes) (covers_of shape boxes f (codes_of shape f)) (in-reduce b _ there)) [
      | inl passed ↦ (let (was, whole) = in-filter-out (is_whole_at (place_of shape f) (whole_of shape f)) b boxes passed in kept b (all b was) whole)
      | inr cover ↦ each-cover P Q (place_of shape f) (whole_of shape f) meet boxes all (whole_sets shape ∷ []) (codes_of shape f) (λ p there. one p there) b
          cover
    ]
  where
    one : (p : List ℕ) → IsIn p (whole_sets shape ∷ []) → P p
    one p (inl same) = subst P (sym same) first
    one p (inr none) = absurd none

-- and each that a code leaves
pub each-fixed : (P Q : List ℕ → Type 0) (shape : List Domain) (boxes : List (List ℕ)) (f code : ℕ)
    → ((b : List ℕ) → Q b → P (slice_set b (place_of shape f) (whole_of shape f))) → ((b : List ℕ) → IsIn b boxes → Q b)
    → (b : List ℕ) → IsIn b (fixed shape boxes f code) → P b
each-fixed P Q shape boxes f code made all b there =
    let has : List ℕ → Bool = λ c. has_code (slice_index_or c (place_of shape f) 0) code in
    let (c, c_in, same) = in-map-out (λ c. slice_set c (place_of shape f) (whole_of shape f)) b (filter has boxes) (in-reduce b _ there) in
    subst P (sym same) (made c (all c (in-filter-out has c boxes c_in).0))

-- ---- a set for each categorical field
pub HaveSets-covered : (shape : List Domain) (boxes : List (List ℕ)) (f : ℕ) → HaveSets shape boxes → HaveSets shape (covered shape boxes f)
HaveSets-covered shape boxes f sets =
    each-covered (λ b. length b ≡ length (code_fields shape)) (λ b. length b ≡ length (code_fields shape)) shape boxes f
    (λ p b first second. length-set (place_of shape f) (whole_of shape f) (in_both p b) ∙ length-meets p b (first ∙ sym second) ∙ first)
    (length-wholes 0 shape) sets (λ b is whole. is)

pub HaveSets-fixed : (shape : List Domain) (boxes : List (List ℕ)) (f code : ℕ) → HaveSets shape boxes → HaveSets shape (fixed shape boxes f code)
HaveSets-fixed shape boxes f code sets =
    each-fixed (λ b. length b ≡ length (code_fields shape)) (λ b. length b ≡ length (code_fields shape)) shape boxes f code
    (λ b is. length-set (place_of shape f) (whole_of shape f) b ∙ is) sets

-- ---- boxes that are whole at a place

meets-at : (xs ys : List ℕ) (k : ℕ) → length xs ≡ length ys → slice_index_or (in_both xs ys) k 0 ≡ bit_and (slice_index_or xs k 0) (slice_index_or ys k 0)
meets-at [] [] k same = refl
meets-at [] (y ∷ ys) k same = absurd (omega arith)
meets-at (x ∷ xs) [] k same = absurd (omega arith)
meets-at (x ∷ xs) (y ∷ ys) zero same = refl
meets-at (x ∷ xs) (y ∷ ys) (suc k) same = meets-at xs ys k (omega arith)

module _ (shape : List Domain) (k : ℕ) where
  -- the box has a set for each categorical field, and all codes of the field at the place
  pub record IsWhole (b : List ℕ) : Type 0 where
    pub sized : length b ≡ length (code_fields shape)
    pub whole : slice_index_or b k 0 ≡ slice_index_or (whole_sets shape) k 0

  abbrev pub AreWhole : List (List ℕ) → Type 0
  AreWhole boxes = (b : List ℕ) → IsIn b boxes → IsWhole b

  wholes : IsWhole (whole_sets shape)
  wholes = record { sized = length-wholes 0 shape; whole = refl }

  -- a box that is made whole at a field
  set-keeps : (f : ℕ) (b : List ℕ) → k < length (code_fields shape) → IsWhole b → IsWhole (slice_set b (place_of shape f) (whole_of shape f))
  set-keeps f b below is = record { sized = length-set (place_of shape f) (whole_of shape f) b ∙ is.sized; whole = by (k == place_of shape f) refl }
    where
      by : (t : Bool) → (k == place_of shape f) ≡ t → slice_index_or (slice_set b (place_of shape f) (whole_of shape f)) k 0
          ≡ slice_index_or (whole_sets shape) k 0
      by true e =
          let same : k ≡ place_of shape f = (Decides-eqb k (place_of shape f)).0 e in
          ap (λ n. slice_index_or (slice_set b n (slice_index_or (whole_sets shape) n 0)) k 0) (sym same)
          ∙ get_or-set_same b k (slice_index_or (whole_sets shape) k 0) 0 (omega (arith, is.sized))
      by false e =
          get_or-set_other b (place_of shape f) k (whole_of shape f) 0 (λ same. absurd (cc (sym e ∙ (Decides-eqb k (place_of shape f)).1 same))) ∙ is.whole

  meets-whole : (p b : List ℕ) → IsWhole p → IsWhole b → IsWhole (in_both p b)
  meets-whole p b first second = record {
    sized = length-meets p b (first.sized ∙ sym second.sized) ∙ first.sized;
    whole =
        meets-at p b k (first.sized ∙ sym second.sized) ∙ ap (λ s. bit_and s (slice_index_or b k 0)) first.whole
        ∙ ap (λ s. bit_and (slice_index_or (whole_sets shape) k 0) s) second.whole ∙ and_self _;
  }

  module _ (below : k < length (code_fields shape)) where
    -- boxes that are whole at a place stay so
    pub whole-covered : (boxes : List (List ℕ)) (f : ℕ) → AreWhole boxes → AreWhole (covered shape boxes f)
    whole-covered boxes f all =
        each-covered IsWhole IsWhole shape boxes f (λ p b first second. set-keeps f (in_both p b) below (meets-whole p b first second)) wholes all
        (λ b is _. is)

    pub whole-fixed : (boxes : List (List ℕ)) (f code : ℕ) → AreWhole boxes → AreWhole (fixed shape boxes f code)
    whole-fixed boxes f code all = each-fixed IsWhole IsWhole shape boxes f code (λ b is. set-keeps f b below is) all

module _ (shape : List Domain) (f : ℕ) (takes : TakesCodes shape f) where
  set-makes : (b : List ℕ) → length b ≡ length (code_fields shape) → IsWhole shape (place_of shape f) (slice_set b (place_of shape f) (whole_of shape f))
  set-makes b sized = record {
    sized = length-set (place_of shape f) (whole_of shape f) b ∙ sized;
    whole = get_or-set_same b (place_of shape f) (whole_of shape f) 0 (omega (arith, sized, place_of-below shape f takes));
  }

  -- the boxes that elimination of the field leaves are whole there
  pub covered-whole : (boxes : List (List ℕ)) → HaveSets shape boxes → AreWhole shape (place_of shape f) (covered shape boxes f)
  covered-whole boxes sets =
      each-covered (IsWhole shape (place_of shape f)) (λ b. length b ≡ length (code_fields shape)) shape boxes f
      (λ p b first second. set-makes (in_both p b) (length-meets p b (first.sized ∙ sym second) ∙ first.sized))
      (wholes shape (place_of shape f)) sets (λ b sized is.
      record { sized = sized; whole = (Decides-eqb (slice_index_or b (place_of shape f) 0) (whole_of shape f)).0 is })

  -- and so are those that a code leaves
  pub fixed-whole : (boxes : List (List ℕ)) (code : ℕ) → HaveSets shape boxes → AreWhole shape (place_of shape f) (fixed shape boxes f code)
  fixed-whole boxes code sets =
      each-fixed (IsWhole shape (place_of shape f)) (λ b. length b ≡ length (code_fields shape)) shape boxes f code (λ b sized. set-makes b sized) sets

-- ---- the first box that passes a test

-- where no element of a list passes, a list whose elements all pass is empty
pub none-passes : {X : Type 0} (t : X → Bool) (xs : List X) → ((x : X) → IsIn x xs → t x ≡ true) → position t xs ≡ None → xs ≡ []
none-passes t [] all none = refl
none-passes {X} t (x ∷ xs) all none = by (t x) (all x (inl refl)) none
  where
    by : (b : Bool) → b ≡ true → cond (nat_lt (cond (not b) (1 + position_or_len t xs) 0) (suc (length xs)))
        (Some (cond (not b) (1 + position_or_len t xs) 0)) None ≡ None → (x ∷ xs) ≡ []
    by true e h = absurd (cc (sym h ∙ ap (λ b. cond b (Some 0) None) below))
      where
        below : nat_lt 0 (suc (length xs)) ≡ true
        below = grind arith
    by false e h = absurd (cc)

-- and where one is found, it stands in the list and passes
pub found-passes : {X : Type 0} (t : X → Bool) (xs : List X) (k : ℕ) → position t xs ≡ Some k → (x : X) × IsIn x xs × (t x ≡ true)
found-passes t [] k e = absurd (cc)
found-passes {X} t (y ∷ xs) k e =
    let (below, passes, first) = position-Some t (y ∷ xs) k y e in
    (get_or (y ∷ xs) k y, in-get _ (y ∷ xs) k (slice_get-get_or (y ∷ xs) k y below), passes)
