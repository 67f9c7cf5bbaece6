use Rattle.std.proofs.Common.{◌≡◌, ◌↔◌, ℕ, suc, ◌<◌, ◌==◌, ◌||◌, ◌&&◌, not, Bool, true, false, if◌then◌else◌, List, [], ◌∷◌, ◌++◌, All, Ok, IsTrue}
use Rattle.std.proofs.Common.{length, map, slice_index_or, refl, sym, ap, ◌∙◌, subst, arith}
use Rattle.std.specs.List.{list_any}
use Rattle.std.proofs.lemmas.Bool.Decides.{Decides-eqb}
use Rattle.edit_line.specs.inner.LineFields.{IsCategorical}
use Rattle.edit_model.specs.Parts.{SurveyParts}
use Rattle.edit_model.specs.Points.{Point, has_code}
use Rattle.edit_model.specs.RowPoints.{code_in}
use Rattle.edit_model.specs.Rows.{IsRow, value_of}
use Rattle.edit_model.specs.declared.value.Value.{Value}
use Rattle.edit_line.specs.CodeFields.{TakesCodes, place_of, size_of, with_code_at}
use Rattle.edit_line.specs.Lines.{HaveShape, LineParts}
use Rattle.edit_line.specs.Reductions.{lines_of}
use Rattle.edit_line.specs.Sets.{are_codes_in}
use Rattle.edit_line.specs.Shapes.{Domain, HasCodes, IsNumerical, code_fields, codes_at, has_field, place_in, shape_of, whole_sets}
use Rattle.edit_line.specs.declared.derived.Derived.{Derived}
use Rattle.edit_line.proofs.PointCodes.{wholes-inside}
use Rattle.edit_line.proofs.SetLaws.{both_true}
use Rattle.edit_line.proofs.ShapeLaws.{HasCodes-shape, length-wholes, place-within}
use Rattle.edit_line.proofs.TestLists.{any-agree}
use Rattle.linear_elim.specs.Systems.{system}
use Rattle.categ_combine.specs.BoxLists.{Avoids}
use Rattle.categ_combine.specs.Covers.{covered}
use Rattle.categ_combine.specs.FailingBoxes.{failing_boxes}
use Rattle.categ_combine.specs.Fixing.{fixed}
use Rattle.categ_combine.proofs.CoverLaws.{HaveSets}
use Rattle.back_subst.specs.Allowed.{AllowsCode, Completes}
use Rattle.back_subst.specs.inner.Bounds.{DecideFor}
use Rattle.back_subst.specs.inner.Codes.{boxes_for, is_free, settled_at, settled_but}
use Rattle.back_subst.specs.inner.UnderWay.{AreDistinct}
use Rattle.categ_combine.proofs.BoxSets.{AreWhole, covered-whole, fixed-whole, whole-covered, whole-fixed}
use Rattle.derivation.proofs.CoverLaws.{code-below}
use Rattle.back_subst.proofs.CodeDomains.{HasCodes-with, code-own}
use Rattle.back_subst.proofs.CodeLaws.{allowed-code, distinct-from, have_sets}
use Rattle.back_subst.proofs.SettledBoxes.{next-sets}

-- After the other fields are settled, a box has the record's codes, with one at the field, where it has that code there.

-- ---- the boxes are whole at all other fields
module _ (shape : List Domain) (row : List Value) (left : List ℕ) (g : ℕ) where
  module _ (j : ℕ) (there : has_field (code_fields shape) j ≡ true) (takes : TakesCodes shape j) where
    below : place_of shape j < length (code_fields shape)
    below = place-within (code_fields shape) j there

    at-keeps : (boxes : List (List ℕ)) (i : ℕ) → AreWhole shape (place_of shape j) boxes → AreWhole shape (place_of shape j) (settled_at shape row left i boxes)
    at-keeps boxes i all = by (has_field left i)
      where
        by : (b : Bool) → AreWhole shape (place_of shape j) (if b then covered shape boxes i else fixed shape boxes i (code_in (value_of row i)))
        by true = whole-covered shape (place_of shape j) below boxes i all
        by false = whole-fixed shape (place_of shape j) below boxes i (code_in (value_of row i)) all

    at-makes : (boxes : List (List ℕ)) → HaveSets shape boxes → AreWhole shape (place_of shape j) (settled_at shape row left j boxes)
    at-makes boxes sets = by (has_field left j)
      where
        by : (b : Bool) → AreWhole shape (place_of shape j) (if b then covered shape boxes j else fixed shape boxes j (code_in (value_of row j)))
        by true = covered-whole shape j takes boxes sets
        by false = fixed-whole shape j takes boxes (code_in (value_of row j)) sets

    but-keeps : (fields : List ℕ) (boxes : List (List ℕ)) → AreWhole shape (place_of shape j) boxes
        → AreWhole shape (place_of shape j) (settled_but shape row left g fields boxes)
    but-keeps [] boxes all = all
    but-keeps (i ∷ fields) boxes all = by (i == g) (λ h. but-keeps fields boxes h) (λ h. but-keeps fields (settled_at shape row left i boxes) h)
      where
        by : (b : Bool) → (AreWhole shape (place_of shape j) boxes → AreWhole shape (place_of shape j) (settled_but shape row left g fields boxes))
            → (AreWhole shape (place_of shape j) (settled_at shape row left i boxes)
            → AreWhole shape (place_of shape j) (settled_but shape row left g fields (settled_at shape row left i boxes)))
            → AreWhole shape (place_of shape j) (settled_but shape row left g fields (if b then boxes else settled_at shape row left i boxes))
        by true own rest = own all
        by false own rest = rest (at-keeps boxes i all)

    but-makes : (fields : List ℕ) (boxes : List (List ℕ)) → HaveSets shape boxes → has_field fields j ≡ true → (j == g) ≡ false
        → AreWhole shape (place_of shape j) (settled_but shape row left g fields boxes)
    but-makes [] boxes sets in_fields apart = absurd (cc)
    but-makes (i ∷ fields) boxes sets in_fields apart =
        by (i == j) refl in_fields (i == g) refl (λ h. but-makes fields boxes sets h apart)
        (λ h. but-makes fields (settled_at shape row left i boxes) (next-sets shape row left g boxes i sets) h apart)
      where
        by : (a : Bool) → (i == j) ≡ a → (a || has_field fields j) ≡ true → (b : Bool) → (i == g) ≡ b
            → (has_field fields j ≡ true → AreWhole shape (place_of shape j) (settled_but shape row left g fields boxes))
            → (has_field fields j ≡ true → AreWhole shape (place_of shape j) (settled_but shape row left g fields (settled_at shape row left i boxes)))
            → AreWhole shape (place_of shape j) (settled_but shape row left g fields (if b then boxes else settled_at shape row left i boxes))
        by true e h true f own rest = absurd (cc (sym apart ∙ ap (λ k. k == g) (sym ((Decides-eqb i j).0 e)) ∙ f))
        by true e h false f own rest =
            but-keeps fields (settled_at shape row left i boxes)
            (subst (λ k. AreWhole shape (place_of shape j) (settled_at shape row left k boxes)) (sym ((Decides-eqb i j).0 e)) (at-makes boxes sets))
        by false e h true f own rest = own h
        by false e h false f own rest = rest h

-- ---- a box that is whole at all fields but one
inside-whole : (fields b wholes : List ℕ) (code : ℕ → ℕ) → AreDistinct fields → length b ≡ length fields → length wholes ≡ length fields
    → ((i : ℕ) → has_field fields i ≡ true → slice_index_or b (place_in fields i) 0 ≡ slice_index_or wholes (place_in fields i) 0)
    → are_codes_in wholes (map code fields) ≡ true → are_codes_in b (map code fields) ≡ true
inside-whole [] [] wholes code distinct sized same each inside = refl
inside-whole [] (s ∷ b) wholes code distinct sized same each inside = absurd (omega arith)
inside-whole (i ∷ fields) [] wholes code distinct sized same each inside = absurd (omega arith)
inside-whole (i ∷ fields) (s ∷ b) [] code distinct sized same each inside = absurd (omega arith)
inside-whole (i ∷ fields) (s ∷ b) (w ∷ wholes) code distinct sized same each inside =
    let (here, rest) = both_true (has_code w (code i)) _ inside in
    ap (λ t. has_code t (code i) && are_codes_in b (map code fields)) first ∙ ap (λ t. t && are_codes_in b (map code fields)) here
    ∙ inside-whole fields b wholes code distinct.1 (omega arith) (omega arith) later rest
  where
    own : (i == i) ≡ true
    own = (Decides-eqb i i).1 refl

    first : s ≡ w
    first =
        ap (λ t. slice_index_or (s ∷ b) (if t then 0 else suc (place_in fields i)) 0) (sym own)
        ∙ each i (ap (λ t. t || has_field fields i) own) ∙ ap (λ t. slice_index_or (w ∷ wholes) (if t then 0 else suc (place_in fields i)) 0) own

    later : (k : ℕ) → has_field fields k ≡ true → slice_index_or b (place_in fields k) 0 ≡ slice_index_or wholes (place_in fields k) 0
    later k there = by (i == k) refl (each k)
      where
        by : (t : Bool) → (i == k) ≡ t
            → ((t || has_field fields k) ≡ true → slice_index_or (s ∷ b) (if t then 0 else suc (place_in fields k)) 0
            ≡ slice_index_or (w ∷ wholes) (if t then 0 else suc (place_in fields k)) 0)
            → slice_index_or b (place_in fields k) 0 ≡ slice_index_or wholes (place_in fields k) 0
        by true e h = absurd (cc (sym there ∙ ap (λ m. has_field fields m) (sym ((Decides-eqb i k).0 e)) ∙ distinct.0))
        by false e h = h there

inside-free : (fields b wholes : List ℕ) (code : ℕ → ℕ) (g : ℕ) → AreDistinct fields → length b ≡ length fields → length wholes ≡ length fields
    → has_field fields g ≡ true
    → ((i : ℕ) → has_field fields i ≡ true → (i == g) ≡ false → slice_index_or b (place_in fields i) 0 ≡ slice_index_or wholes (place_in fields i) 0)
    → are_codes_in wholes (map code fields) ≡ true
    → are_codes_in b (map code fields) ≡ has_code (slice_index_or b (place_in fields g) 0) (code g)
inside-free [] b wholes code g distinct sized same there each inside = absurd (cc)
inside-free (i ∷ fields) [] wholes code g distinct sized same there each inside = absurd (omega arith)
inside-free (i ∷ fields) (s ∷ b) [] code g distinct sized same there each inside = absurd (omega arith)
inside-free (i ∷ fields) (s ∷ b) (w ∷ wholes) code g distinct sized same there each inside =
    by (i == g) refl there (λ h. inside-free fields b wholes code g distinct.1 (omega arith) (omega arith) h
    (λ k k_there apart. later k k_there (λ h. each k h apart)) (both_true (has_code w (code i)) _ inside).1)
  where
    own : (i == i) ≡ true
    own = (Decides-eqb i i).1 refl

    later : (k : ℕ) → has_field fields k ≡ true → (has_field (i ∷ fields) k ≡ true
        → slice_index_or (s ∷ b) (place_in (i ∷ fields) k) 0 ≡ slice_index_or (w ∷ wholes) (place_in (i ∷ fields) k) 0)
        → slice_index_or b (place_in fields k) 0 ≡ slice_index_or wholes (place_in fields k) 0
    later k k_there at = by (i == k) refl at
      where
        by : (t : Bool) → (i == k) ≡ t
            → ((t || has_field fields k) ≡ true → slice_index_or (s ∷ b) (if t then 0 else suc (place_in fields k)) 0
            ≡ slice_index_or (w ∷ wholes) (if t then 0 else suc (place_in fields k)) 0)
            → slice_index_or b (place_in fields k) 0 ≡ slice_index_or wholes (place_in fields k) 0
        by true e h = absurd (cc (sym k_there ∙ ap (λ m. has_field fields m) (sym ((Decides-eqb i k).0 e)) ∙ distinct.0))
        by false e h = h k_there

    and_true : (a : Bool) → (a && true) ≡ a
    and_true true = refl
    and_true false = refl

    by : (t : Bool) → (i == g) ≡ t → (t || has_field fields g) ≡ true
        → (has_field fields g ≡ true → are_codes_in b (map code fields) ≡ has_code (slice_index_or b (place_in fields g) 0) (code g))
        → (has_code s (code i) && are_codes_in b (map code fields)) ≡ has_code (slice_index_or (s ∷ b) (if t then 0 else suc (place_in fields g)) 0) (code g)
    by true e h rest =
        let is : i ≡ g = (Decides-eqb i g).0 e in
        ap (λ t. has_code s (code i) && t) (inside-whole fields b wholes code distinct.1 (omega arith) (omega arith)
        (λ k k_there. later k k_there (λ h. each k h (other k k_there is))) (both_true (has_code w (code i)) _ inside).1)
        ∙ and_true (has_code s (code i)) ∙ ap (λ k. has_code s (code k)) is
      where
        other : (k : ℕ) → has_field fields k ≡ true → i ≡ g → (k == g) ≡ false
        other k k_there is = at (k == g) refl
          where
            at : (t : Bool) → (k == g) ≡ t → t ≡ false
            at false f = refl
            at true f = absurd (cc (sym k_there ∙ ap (λ m. has_field fields m) ((Decides-eqb k g).0 f ∙ sym is) ∙ distinct.0))
    by false e h rest =
        ap (λ t. has_code t (code i) && are_codes_in b (map code fields)) first
        ∙ ap (λ t. t && are_codes_in b (map code fields)) (both_true (has_code w (code i)) _ inside).0 ∙ rest h
      where
        first : s ≡ w
        first =
            ap (λ t. slice_index_or (s ∷ b) (if t then 0 else suc (place_in fields i)) 0) (sym own)
            ∙ each i (ap (λ t. t || has_field fields i) own) e ∙ ap (λ t. slice_index_or (w ∷ wholes) (if t then 0 else suc (place_in fields i)) 0) own

-- the point avoids such boxes where they have not its code at the field
pub avoids-free : (shape : List Domain) (boxes : List (List ℕ)) (g : ℕ) (p : Point) → has_field (code_fields shape) g ≡ true → HasCodes 0 shape p
    → HaveSets shape boxes
    → ((j : ℕ) → has_field (code_fields shape) j ≡ true → (j == g) ≡ false → AreWhole shape (place_of shape j) boxes)
    → Avoids shape boxes p ↔ IsTrue (is_free shape boxes g (p.code g))
avoids-free shape boxes g p there held sets whole =
    let same : list_any (λ b. are_codes_in b (codes_at shape p)) boxes ≡ list_any (λ b. has_code (slice_index_or b (place_of shape g) 0) (p.code g)) boxes =
    any-agree (λ b. are_codes_in b (codes_at shape p)) (λ b. has_code (slice_index_or b (place_of shape g) 0) (p.code g)) boxes (λ b is_in.
    inside-free (code_fields shape) b (whole_sets shape) p.code g (distinct-from 0 shape) (sets b is_in) (length-wholes 0 shape) there
    (λ i i_there apart. (whole i i_there apart b is_in).whole) (wholes-inside shape p held)) in
    (λ h. ap not (sym same) ∙ h, λ h. ap not same ∙ h)

but-sets : (shape : List Domain) (row : List Value) (left : List ℕ) (g : ℕ) (fields : List ℕ) (boxes : List (List ℕ)) → HaveSets shape boxes
    → HaveSets shape (settled_but shape row left g fields boxes)
but-sets shape row left g [] boxes sets = sets
but-sets shape row left g (i ∷ fields) boxes sets =
    by (i == g) (but-sets shape row left g fields boxes sets)
    (but-sets shape row left g fields (settled_at shape row left i boxes) (next-sets shape row left g boxes i sets))
  where
    by : (b : Bool) → HaveSets shape (settled_but shape row left g fields boxes)
        → HaveSets shape (settled_but shape row left g fields (settled_at shape row left i boxes))
        → HaveSets shape (settled_but shape row left g fields (if b then boxes else settled_at shape row left i boxes))
    by true own rest = own
    by false own rest = rest

module _ (survey : SurveyParts) (edits : List LineParts) (row : List Value) (g : ℕ) (before numbers : List ℕ)
    (is_row : IsRow survey.fields row) (over : HaveShape (shape_of survey.fields) edits) (decide : DecideFor survey edits row (g ∷ (before ++ numbers)))
    (categorical : IsCategorical (shape_of survey.fields) g) (all_numbers : All (IsNumerical (shape_of survey.fields)) numbers)
    (all_codes : (i : ℕ) → has_field before i ≡ true → IsCategorical (shape_of survey.fields) i)
    (derived : List Derived) (derived_are : lines_of derived ≡ system edits numbers) (boxes : List (List ℕ))
    (made : failing_boxes (lines_of derived) row ≡ Ok boxes)
    (p : Point) (completes : Completes survey row (g ∷ (before ++ numbers)) p) where
  -- where some correction completes the record, a code is allowed exactly where it is one of the field's, and no box has it after the other fields are settled
  pub allowed-free : (code : ℕ) → AllowsCode survey row (g ∷ (before ++ numbers)) g code ↔
      ((code < size_of (shape_of survey.fields) g) × IsTrue (is_free (shape_of survey.fields) (boxes_for (shape_of survey.fields) row before g boxes) g code))
  allowed-free code =
      let law = allowed-code survey edits row g before numbers is_row over decide categorical all_numbers all_codes derived derived_are boxes made p
      completes code in
      let sets = have_sets survey edits row g before numbers is_row over decide categorical all_numbers all_codes derived derived_are boxes made p completes in
      let free : (code < size_of (shape_of survey.fields) g)
      → Avoids (shape_of survey.fields) (boxes_for (shape_of survey.fields) row before g boxes) (with_code_at p g code)
      ↔ IsTrue (is_free (shape_of survey.fields) (boxes_for (shape_of survey.fields) row before g boxes) g code) =
      λ fits.
      let at = avoids-free (shape_of survey.fields) (boxes_for (shape_of survey.fields) row before g boxes) g (with_code_at p g code) categorical
      (HasCodes-with (shape_of survey.fields) p g code fits (HasCodes-shape 0 survey.fields p completes.correction.codes))
      (but-sets (shape_of survey.fields) row before g (code_fields (shape_of survey.fields)) boxes sets)
      (λ j there apart. but-makes (shape_of survey.fields) row before g j there
      (let own = code-below (shape_of survey.fields) p j there (HasCodes-shape 0 survey.fields p completes.correction.codes) in omega arith)
      (code_fields (shape_of survey.fields)) boxes sets there apart) in
      subst (λ c. Avoids (shape_of survey.fields) (boxes_for (shape_of survey.fields) row before g boxes) (with_code_at p g code)
      ↔ IsTrue (is_free (shape_of survey.fields) (boxes_for (shape_of survey.fields) row before g boxes) g c)) (code-own p g code) at in
      (λ h. let (fits, avoids) = law.0 h in (fits, (free fits).0 avoids), λ h. law.1 (h.0, (free h.0).1 h.1))
