use Rattle.std.proofs.Common.{◌≡◌, ℕ, ◌<◌, ◌≤◌, ◌&&◌, ◌||◌, not, Bool, true, false, List, [], ◌∷◌, ◌++◌, inl, inr, length, map, slice_index_or}
use Rattle.std.proofs.Common.{slice_set, refl, sym, ap, ◌∙◌, subst, arith}
use Rattle.std.specs.List.{filter, flat_map, fold, list_all, list_any}
use Rattle.std.proofs.lemmas.Bool.Decides.{Decides-eqb}
use Rattle.std.proofs.lemmas.List.Folds.{list_any-append}
use Rattle.edit_model.specs.Points.{has_code}
use Rattle.edit_line.specs.Reductions.{IsIn}
use Rattle.edit_line.specs.Sets.{none_is_empty, are_codes_in}
use Rattle.edit_line.proofs.Members.{in-filter-out, in-flat_map-out, in-map-out}
use Rattle.edit_line.proofs.BoolLaws.{both_true}
use Rattle.categ_combine.specs.BoxLists.{reduce_boxes}
use Rattle.edit_line.specs.Combinations.{in_both}
use Rattle.categ_combine.specs.Covers.{is_whole_at, meets_but, takes_part, with_code}
use Rattle.edit_line.proofs.OtherFields.{inside-grows, inside-has_codes, inside-with, inside_but, inside_but-grows, inside_but-meets, length-meets}
use Rattle.edit_line.proofs.OtherFields.{length-set, set-set, set-whole}
use Rattle.categ_combine.proofs.ReducedBoxes.{any-reduce, in-reduce}
use Rattle.edit_line.proofs.TestLists.{and-any, and_grouped, any-agree, any-and, any-filter, any-flat_map, any-map, any-split}

-- Which codes the covers have: some cover has them exactly where, for each code of the field, a box has them with that code.

module _ (place whole : ℕ) (codes : List ℕ) (boxes : List (List ℕ)) (within : place < length codes)
    (all : has_code whole (slice_index_or codes place 0) ≡ true) (same : (b : List ℕ) → IsIn b boxes → length b ≡ length codes) where
  -- the codes, with this one at the place, are in a box that is not whole there
  abbrev pub in_other : ℕ → Bool
  in_other code = list_any (λ b. not (is_whole_at place whole b) && are_codes_in b (slice_set codes place code)) boxes

  -- no longer than the codes, and whole at the place
  abbrev pub IsCover : List ℕ → Type 0
  IsCover p = (length p ≤ length codes) × (slice_set p place whole ≡ p)

  abbrev row : List ℕ → ℕ → List (List ℕ)
  row p code = filter none_is_empty (map (λ b. meets_but place whole p b) (filter (takes_part place whole code) boxes))

  -- the boxes that take part
  any-parts : (code : ℕ) → list_any (inside_but place whole codes) (filter (takes_part place whole code) boxes) ≡ in_other code
  any-parts code =
      any-filter (inside_but place whole codes) (takes_part place whole code) boxes
      ∙ any-agree (λ b. takes_part place whole code b && inside_but place whole codes b)
      (λ b. not (is_whole_at place whole b) && are_codes_in b (slice_set codes place code)) boxes (
      λ b there.
      sym (and_grouped (not (is_whole_at place whole b)) (has_code (slice_index_or b place 0) code) (inside_but place whole codes b))
      ∙ ap (λ t. not (is_whole_at place whole b) && t) (sym (inside-with place whole code b codes (omega (arith, same b there)) within all))
      )

  -- what a cover and a box have in common
  any-meet : (p b : List ℕ) → length p ≤ length codes → length b ≡ length codes
      → (none_is_empty (meets_but place whole p b) && inside_but place whole codes (meets_but place whole p b))
      ≡ (inside_but place whole codes p && inside_but place whole codes b)
  any-meet p b few is =
      by (inside_but place whole codes (meets_but place whole p b)) refl ∙ ap (λ s. are_codes_in s codes) (set-set place whole (in_both p b))
      ∙ inside_but-meets place whole p b codes
    where
      few' : length (meets_but place whole p b) ≤ length codes
      few' = omega (arith, length-set place whole (in_both p b), length-meets (length codes) p b few (omega (arith, is)))

      by : (t : Bool) → inside_but place whole codes (meets_but place whole p b) ≡ t
          → (none_is_empty (meets_but place whole p b) && inside_but place whole codes (meets_but place whole p b))
          ≡ inside_but place whole codes (meets_but place whole p b)
      by true e =
          ap (λ t. t && inside_but place whole codes (meets_but place whole p b))
          (inside-has_codes (meets_but place whole p b) codes few' (ap (λ s. are_codes_in s codes) (sym (set-set place whole (in_both p b))) ∙ e))
      by false e = ap (λ t. none_is_empty (meets_but place whole p b) && t) e ∙ and_false _ ∙ sym e
        where
          and_false : (a : Bool) → (a && false) ≡ false
          and_false true = refl
          and_false false = refl

  any-row : (p : List ℕ) (code : ℕ) → length p ≤ length codes
      → list_any (inside_but place whole codes) (row p code) ≡ (inside_but place whole codes p && in_other code)
  any-row p code few =
      any-filter (inside_but place whole codes) none_is_empty (map (λ b. meets_but place whole p b) (filter (takes_part place whole code) boxes))
      ∙ any-map (λ m. none_is_empty m && inside_but place whole codes m) (λ b. meets_but place whole p b) (filter (takes_part place whole code) boxes)
      ∙ any-agree (λ b. none_is_empty (meets_but place whole p b) && inside_but place whole codes (meets_but place whole p b))
      (λ b. inside_but place whole codes p && inside_but place whole codes b) (filter (takes_part place whole code) boxes) (
      λ b there. any-meet p b few (same b (in-filter-out (takes_part place whole code) b boxes there).0)
      )
      ∙ and-any (inside_but place whole codes) (inside_but place whole codes p) (filter (takes_part place whole code) boxes)
      ∙ ap (λ t. inside_but place whole codes p && t) (any-parts code)

  -- the covers of one more code
  any-with_code : (covers : List (List ℕ)) (code : ℕ) → ((p : List ℕ) → IsIn p covers → IsCover p)
      → list_any (inside_but place whole codes) (with_code place whole boxes covers code) ≡ (list_any (inside_but place whole codes) covers && in_other code)
  any-with_code covers code are =
      any-reduce (inside_but place whole codes) (λ b c. inside_but-grows place whole b c codes) (flat_map (λ p. row p code) covers)
      ∙ any-flat_map (inside_but place whole codes) (λ p. row p code) covers
      ∙ any-agree (λ p. list_any (inside_but place whole codes) (row p code)) (λ p. inside_but place whole codes p && in_other code) covers
      (λ p there. any-row p code (are p there).0)
      ∙ any-and (inside_but place whole codes) (in_other code) covers

  with_code-covers : (covers : List (List ℕ)) (code : ℕ) → ((p : List ℕ) → IsIn p covers → IsCover p) → (p : List ℕ)
      → IsIn p (with_code place whole boxes covers code) → IsCover p
  with_code-covers covers code are p there =
      let (q, was, made) = in-flat_map-out (λ p. row p code) p covers (in-reduce p (flat_map (λ p. row p code) covers) there) in
      let (b, took, is) = in-map-out (λ b. meets_but place whole q b) p (filter (takes_part place whole code) boxes)
      (in-filter-out none_is_empty p (map (λ b. meets_but place whole q b) (filter (takes_part place whole code) boxes)) made).0 in
      let few = (are q was).0 in
      let few' = same b (in-filter-out (takes_part place whole code) b boxes took).0 in
      let short : length (meets_but place whole q b) ≤ length codes = omega
      (arith, length-set place whole (in_both q b), length-meets (length codes) q b few (omega (arith, few'))) in
      subst (λ r. IsCover r) (sym is) (short, set-set place whole (in_both q b))

  -- the covers of all codes
  any-covers : (covers : List (List ℕ)) (cs : List ℕ) → ((p : List ℕ) → IsIn p covers → IsCover p)
      → list_any (λ p. are_codes_in p codes) (fold (λ covers code. with_code place whole boxes covers code) covers cs)
      ≡ (list_any (inside_but place whole codes) covers && list_all in_other cs)
  any-covers covers [] are =
      any-agree (λ p. are_codes_in p codes) (inside_but place whole codes) covers (λ p there. ap (λ b. are_codes_in b codes) (sym (are p there).1)) ∙ and_true _
    where
      and_true : (a : Bool) → a ≡ (a && true)
      and_true true = refl
      and_true false = refl
  any-covers covers (c ∷ cs) are =
      any-covers (with_code place whole boxes covers c) cs (with_code-covers covers c are)
      ∙ ap (λ b. b && list_all in_other cs) (any-with_code covers c are)
      ∙ sym (and_grouped (list_any (inside_but place whole codes) covers) (in_other c) (list_all in_other cs))

  -- ---- with the boxes that are whole at the place

  -- the codes are in a box that is whole there
  abbrev in_whole : Bool
  in_whole = list_any (λ b. is_whole_at place whole b && are_codes_in b codes) boxes

  -- which code stands at the place is all the same to such a box
  any-whole : (code : ℕ) → has_code whole code ≡ true
      → list_any (λ b. is_whole_at place whole b && are_codes_in b (slice_set codes place code)) boxes ≡ in_whole
  any-whole code its =
      any-agree (λ b. is_whole_at place whole b && are_codes_in b (slice_set codes place code)) (λ b. is_whole_at place whole b && are_codes_in b codes)
      boxes (λ b there. by b there (is_whole_at place whole b) refl)
    where
      by : (b : List ℕ) → IsIn b boxes → (w : Bool) → is_whole_at place whole b ≡ w
          → (w && are_codes_in b (slice_set codes place code)) ≡ (w && are_codes_in b codes)
      by b there true e =
          let is : slice_index_or b place 0 ≡ whole = (Decides-eqb (slice_index_or b place 0) whole).0 e in
          inside-with place whole code b codes (omega (arith, same b there)) within all
          ∙ ap (λ t. t && inside_but place whole codes b) (ap (λ s. has_code s code) is ∙ its)
          ∙ ap (λ s. are_codes_in s codes) (set-whole place whole b is)
      by b there false e = refl

  any-at : (code : ℕ) → has_code whole code ≡ true → list_any (λ b. are_codes_in b (slice_set codes place code)) boxes ≡ (in_whole || in_other code)
  any-at code its =
      any-split (λ b. are_codes_in b (slice_set codes place code)) (is_whole_at place whole) boxes ∙ ap (λ t. t || in_other code) (any-whole code its)

  all-at : (cs : List ℕ) → list_all (has_code whole) cs ≡ true
      → list_all (λ c. list_any (λ b. are_codes_in b (slice_set codes place c)) boxes) cs ≡ (in_whole || list_all in_other cs)
  all-at [] theirs = sym (or_true in_whole)
    where
      or_true : (b : Bool) → (b || true) ≡ true
      or_true true = refl
      or_true false = refl
  all-at (c ∷ cs) theirs =
      let (its, rest) = both_true _ _ theirs in
      ap (λ b. b && list_all (λ c. list_any (λ b. are_codes_in b (slice_set codes place c)) boxes) cs) (any-at c its)
      ∙ ap (λ b. (in_whole || in_other c) && b) (all-at cs rest)
      ∙ apart in_whole (in_other c) (list_all in_other cs)
    where
      apart : (a b c : Bool) → ((a || b) && (a || c)) ≡ (a || (b && c))
      apart true b c = refl
      apart false b c = refl

  -- a box that is left has the codes exactly where, for each code, a box has them with that code
  pub any-covered : (wholes cs : List ℕ) → length wholes ≤ length codes → slice_index_or wholes place 0 ≡ whole → are_codes_in wholes codes ≡ true
      → list_all (has_code whole) cs ≡ true
      → list_any (λ b. are_codes_in b codes) (reduce_boxes
      (filter (is_whole_at place whole) boxes ++ fold (λ covers code. with_code place whole boxes covers code) (wholes ∷ []) cs))
      ≡ list_all (λ c. list_any (λ b. are_codes_in b (slice_set codes place c)) boxes) cs
  any-covered wholes cs few is inside theirs =
      any-reduce (λ b. are_codes_in b codes) (λ b c. inside-grows b c codes)
      (filter (is_whole_at place whole) boxes ++ fold (λ covers code. with_code place whole boxes covers code) (wholes ∷ []) cs)
      ∙ list_any-append (λ b. are_codes_in b codes) (filter (is_whole_at place whole) boxes)
      (fold (λ covers code. with_code place whole boxes covers code) (wholes ∷ []) cs)
      ∙ ap (λ t. t || list_any (λ b. are_codes_in b codes) (fold (λ covers code. with_code place whole boxes covers code) (wholes ∷ []) cs))
      (any-filter (λ b. are_codes_in b codes) (is_whole_at place whole) boxes)
      ∙ ap (λ t. in_whole || t) (any-covers (wholes ∷ []) cs first
      ∙ ap (λ t. (t || false) && list_all in_other cs) (ap (λ s. are_codes_in s codes) (set-whole place whole wholes is) ∙ inside))
      ∙ sym (all-at cs theirs)
    where
      first : (p : List ℕ) → IsIn p (wholes ∷ []) → IsCover p
      first p (inl e) = subst (λ r. IsCover r) (sym e) (few, set-whole place whole wholes is)
      first p (inr none) = absurd none

  -- the boxes that have a code at the place, made whole there, have the codes exactly where the boxes have them with that code
  pub any-fixed : (code : ℕ)
      → list_any (λ b. are_codes_in b codes) (reduce_boxes (map (λ b. slice_set b place whole) (filter (λ b. has_code (slice_index_or b place 0) code) boxes)))
      ≡ list_any (λ b. are_codes_in b (slice_set codes place code)) boxes
  any-fixed code =
      any-reduce (λ b. are_codes_in b codes) (λ b c. inside-grows b c codes)
      (map (λ b. slice_set b place whole) (filter (λ b. has_code (slice_index_or b place 0) code) boxes))
      ∙ any-map (λ b. are_codes_in b codes) (λ b. slice_set b place whole) (filter (λ b. has_code (slice_index_or b place 0) code) boxes)
      ∙ any-filter (inside_but place whole codes) (λ b. has_code (slice_index_or b place 0) code) boxes
      ∙ any-agree (λ b. has_code (slice_index_or b place 0) code && inside_but place whole codes b) (λ b. are_codes_in b (slice_set codes place code)) boxes (
      λ b there. sym (inside-with place whole code b codes (omega (arith, same b there)) within all)
      )
