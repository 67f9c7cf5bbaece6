use Rattle.std.proofs.Common.{◌≡◌, ◌≢◌, ◌⊎◌, inl, inr, ℕ, zero, suc, ◌<◌, Bool, true, false, List, [], ◌∷◌, ◌++◌, All, IsTrue, Some, drop, length, map}
use Rattle.std.proofs.Common.{slice_get, slice_index_or, refl, sym, ap, ◌∙◌, subst, arith}
use Rattle.std.proofs.Math.ListN.{replicate}
use Rattle.std.specs.Cmp.Lexicographic.{same_text}
use Rattle.edit_model.specs.Points.{Point}
use Rattle.edit_model.specs.Rows.{IsRow}
use Rattle.edit_model.specs.declared.field.Field.{Field}
use Rattle.edit_model.specs.declared.value.Value.{Value}
use Rattle.edit_model.specs.declared.value.Value.TheVariants.{Bad}
use Rattle.edit_model.proofs.FieldSetLaws.{has-none}
use Rattle.edit_line.specs.Boxes.{are_whole}
use Rattle.edit_line.specs.declared.relation.Relation.TheVariants.{Equal}
use Rattle.edit_line.specs.Lines.{AllHold, AreOver, Follows, IsLine, LineHolds, LineParts}
use Rattle.edit_line.specs.Negations.{negation_of}
use Rattle.edit_line.specs.Reductions.{IsIn}
use Rattle.edit_line.specs.Sets.{AreCodesIn}
use Rattle.edit_line.specs.Shapes.{Domain, HasCodes, codes_at, shape_of, whole_sets}
use Rattle.edit_line.specs.Subsumption.{is_false}
use Rattle.edit_line.proofs.BoolLaws.{both_true}
use Rattle.edit_line.proofs.Members.{all-in, in-all, in-either, in-get}
use Rattle.edit_line.proofs.NegationLaws.{refuted-follows}
use Rattle.edit_line.proofs.PointCodes.{wholes-inside}
use Rattle.edit_line.proofs.SetLaws.{is_inside-Decides}
use Rattle.edit_line.proofs.SubsumptionLaws.{false-outside}
use Rattle.derivation.specs.Premises.{usable_lines}
use Rattle.derivation.specs.Refutations.{RefutedBy, given_lines, is_absurd, left_before, no_values, refutation_of, usable_flags}
use Rattle.derivation.specs.Shown.{IsOver, IsShown}
use Rattle.derivation.specs.declared.proved.Proved.{Proved}
use Rattle.derivation.specs.declared.proved.Proved.TheVariants as proved
use Rattle.derivation.specs.declared.step.Step.{Step}
use Rattle.derivation.proofs.NegationShapes.{negation-over}
use Rattle.derivation.proofs.Soundness.{steps-shown}

-- Each line whose negation is refuted follows from the lines that are kept, although it was dropped while some later lines were already.

-- ---- the record without values

pub values-are : (fields : List Field) → replicate (length fields) Bad ≡ no_values fields
values-are [] = refl
values-are (f ∷ fields) = ap (λ (vs : List Value). Bad ∷ vs) (values-are fields)

pub row-no_values : (fields : List Field) → IsRow fields (no_values fields)
row-no_values [] = tt
row-no_values (f ∷ fields) = (tt, row-no_values fields)

-- ---- what the negation adds

pub given-over : (fields : List Field) (lines : List LineParts) (line : LineParts) → AreOver (shape_of fields) lines → IsIn line lines
    → AreOver (shape_of fields) (given_lines lines line)
given-over fields lines line over there = all-in (λ (l : LineParts). l.shape ≡ shape_of fields) (given_lines lines line)
    (λ l at. elim (in-either l lines (negation_of line) at) [
      | inl given ↦ in-all (λ (l : LineParts). l.shape ≡ shape_of fields) l lines over given
      | inr negated ↦ negation-over line l negated ∙ in-all (λ (l : LineParts). l.shape ≡ shape_of fields) line lines over there
    ])

-- ---- a line whose negation is refuted follows

usable-both : (lines more : List LineParts) (left : List Bool) (l : LineParts) → length lines ≡ length left
    → IsIn l (usable_lines (lines ++ more) (left ++ map (λ m. true) more)) → IsIn l (usable_lines lines left) ⊎ IsIn l more
usable-both [] more [] l same there = inr (all-more more there)
  where
    all-more : (ms : List LineParts) → IsIn l (usable_lines ms (map (λ m. true) ms)) → IsIn l ms
    all-more [] none = none
    all-more (m ∷ ms) (inl is) = inl is
    all-more (m ∷ ms) (inr h) = inr (all-more ms h)
usable-both [] more (b ∷ left) l same there = absurd (omega arith)
usable-both (k ∷ lines) more [] l same there = absurd (omega arith)
usable-both (k ∷ lines) more (true ∷ left) l same (inl is) = inl (inl is)
usable-both (k ∷ lines) more (true ∷ left) l same (inr h) = elim (usable-both lines more left l (omega arith) h) [ inl old ↦ inl (inr old) | inr new ↦ inr new ]
usable-both (k ∷ lines) more (false ∷ left) l same h = usable-both lines more left l (omega arith) h

module _ (fields : List Field) (lines : List LineParts) (left : List Bool) (line : LineParts) (row : List Value) where
  -- sets of all codes have those of each point
  all-codes : (sets : List ℕ) → are_whole (shape_of fields) sets ≡ true → (p : Point) → HasCodes 0 (shape_of fields) p
      → AreCodesIn sets (codes_at (shape_of fields) p)
  all-codes sets whole p held =
      subst (λ (s : List ℕ). AreCodesIn s (codes_at (shape_of fields) p)) (sym (same_text sets (whole_sets (shape_of fields)) (sym whole)))
      ((is_inside-Decides (whole_sets (shape_of fields)) (codes_at (shape_of fields) p)).0 (wholes-inside (shape_of fields) p held))

  -- what is shown, and absurd, leaves no point at which the usable lines hold
  absurd-nowhere : (x : Proved) → IsShown (refutation_of (shape_of fields) lines left line row) x → IsOver (shape_of fields) x
      → IsTrue (is_absurd (shape_of fields) x)
      → (p : Point) → HasCodes 0 (shape_of fields) p → AllHold (usable_lines (given_lines lines line) (usable_flags left line)) p → ⊥
  absurd-nowhere (proved.Line l) shown is_over wrong p held hold =
      let (whole, false_is) = both_true (are_whole (shape_of fields) l.sets) (is_false l) wrong in
      false-outside l p false_is (shown p hold) (subst (λ (s : List Domain). AreCodesIn l.sets (codes_at s p)) (sym is_over) (all-codes l.sets whole p held))
  absurd-nowhere (proved.Box b) shown is_over wrong p held hold = shown p held (λ f kept. absurd (cc (sym kept ∙ has-none f))) hold
      (all-codes b.sets wrong p held)

  -- a line that is no equality, and whose negation valid steps refute from the lines that are left, follows from these
  pub left-follows : (steps : List Step) → IsRow fields row → length lines ≡ length left → AreOver (shape_of fields) lines → IsIn line lines → IsLine line
      → line.relation ≢ Equal
      → RefutedBy (refutation_of (shape_of fields) lines left line row) steps → Follows (usable_lines lines left) line
  left-follows steps is_row same over there is apart (x, valid, wrong) =
      let (shown, is_over) =
      steps-shown (refutation_of (shape_of fields) lines left line row) fields steps x refl is_row (λ f kept. absurd (cc (sym kept ∙ has-none f)))
      (given-over fields lines line over there) valid in
      refuted-follows (usable_lines lines left) line is apart (λ p held hold meets.
      absurd-nowhere x shown is_over wrong p (subst (λ s. HasCodes 0 s p) (in-all (λ (l : LineParts). l.shape ≡ shape_of fields) line lines over there) held)
      (all-in (λ l. LineHolds l p) _ (λ l at. elim (usable-both lines (negation_of line) left l same at) [
        | inl old ↦ in-all (λ l. LineHolds l p) l (usable_lines lines left) hold old
        | inr new ↦ in-all (λ l. LineHolds l p) l (negation_of line) meets new
      ])))

-- ---- all lines

pub length-left : (place : ℕ) (kept : List Bool) → place < length kept → length (left_before place (drop (suc place) kept)) ≡ length kept
length-left place [] below = absurd (omega arith)
length-left zero (b ∷ kept) below = refl
length-left (suc place) (b ∷ kept) below = ap suc (length-left place kept (omega arith))

-- where a usable line stands
usable-place : (lines : List LineParts) (usable : List Bool) (l : LineParts) → IsIn l (usable_lines lines usable) → (place : ℕ)
    × (slice_get lines place ≡ Some l) × (slice_index_or usable place false ≡ true)
usable-place [] usable l there = absurd there
usable-place (k ∷ lines) [] l there = absurd there
usable-place (k ∷ lines) (true ∷ usable) l (inl is) = (0, ap Some (sym is), refl)
usable-place (k ∷ lines) (true ∷ usable) l (inr h) = let (place, at, used) = usable-place lines usable l h in (suc place, at, used)
usable-place (k ∷ lines) (false ∷ usable) l h = let (place, at, used) = usable-place lines usable l h in (suc place, at, used)

place-usable : (lines : List LineParts) (usable : List Bool) (place : ℕ) (l : LineParts) → slice_get lines place ≡ Some l → slice_index_or usable place false
    ≡ true → IsIn l (usable_lines lines usable)
place-usable [] usable place l at used = absurd (cc)
place-usable (k ∷ lines) [] place l at used = absurd (cc)
place-usable (k ∷ lines) (true ∷ usable) zero l at used = inl (cc)
place-usable (k ∷ lines) (false ∷ usable) zero l at used = absurd (cc)
place-usable (k ∷ lines) (true ∷ usable) (suc place) l at used = inr (place-usable lines usable place l at used)
place-usable (k ∷ lines) (false ∷ usable) (suc place) l at used = place-usable lines usable place l at used

-- a usable line is one of the lines
pub usable-among : (lines : List LineParts) (usable : List Bool) (l : LineParts) → IsIn l (usable_lines lines usable) → IsIn l lines
usable-among lines usable l there = let (place, at, used) = usable-place lines usable l there in in-get l lines place at

-- a line that is left stands before, or is kept
left-either : (j place : ℕ) (kept : List Bool) → j < length kept → slice_index_or (left_before j (drop (suc j) kept)) place false ≡ true → (place < j)
    ⊎ (slice_index_or kept place false ≡ true)
left-either j place [] below h = absurd (omega arith)
left-either zero zero (b ∷ kept) below h = absurd (cc)
left-either zero (suc place) (b ∷ kept) below h = inr h
left-either (suc j) zero (b ∷ kept) below h = inl (omega arith)
left-either (suc j) (suc place) (b ∷ kept) below h = elim (left-either j place kept (omega arith) h) [ inl before ↦ inl (omega arith) | inr is ↦ inr is ]

pub get-below : (lines : List LineParts) (place : ℕ) (l : LineParts) → slice_get lines place ≡ Some l → place < length lines
get-below [] place l at = absurd (cc)
get-below (k ∷ lines) zero l at = omega arith
get-below (k ∷ lines) (suc place) l at = let below = get-below lines place l at in omega arith

in-place : (lines : List LineParts) (l : LineParts) → IsIn l lines → (place : ℕ) × (slice_get lines place ≡ Some l)
in-place [] l there = absurd there
in-place (k ∷ lines) l (inl is) = (0, ap Some (sym is))
in-place (k ∷ lines) l (inr h) = let (place, at) = in-place lines l h in (suc place, at)

module _ (fields : List Field) (lines : List LineParts) (kept : List Bool) (row : List Value) (is_row : IsRow fields row) (same : length lines ≡ length kept)
    (over : AreOver (shape_of fields) lines) (are : All IsLine lines)
    (refuted : (j : ℕ) (line : LineParts) → slice_get lines j ≡ Some line → slice_index_or kept j false ≡ false
    → (line.relation ≢ Equal) × (steps : List Step) × RefutedBy (refutation_of (shape_of fields) lines (left_before j (drop (suc j) kept)) line row)
    steps) where
  module _ (p : Point) (hold : AllHold (usable_lines lines kept) p) where
    -- a kept line holds
    kept-holds : (j : ℕ) (line : LineParts) → slice_get lines j ≡ Some line → slice_index_or kept j false ≡ true → LineHolds line p
    kept-holds j line at is = in-all (λ l. LineHolds l p) line (usable_lines lines kept) hold (place-usable lines kept j line at is)

    -- the lines at the first places hold
    first-hold : (n : ℕ) (j : ℕ) → j < n → (line : LineParts) → slice_get lines j ≡ Some line → LineHolds line p
    first-hold zero j below line at = absurd (omega arith)
    first-hold (suc n) j below line at = by (slice_index_or kept j false) refl (λ place l before l_at. first-hold n place (omega arith) l l_at)
      where
        there : j < length kept
        there = omega (arith, get-below lines j line at, same)

        left-holds : (place : ℕ) (l : LineParts) → (place < j → LineHolds l p) → slice_get lines place ≡ Some l → (place < j)
            ⊎ (slice_index_or kept place false ≡ true) → LineHolds l p
        left-holds place l earlier l_at (inl before) = earlier before
        left-holds place l earlier l_at (inr is) = kept-holds place l l_at is

        by : (b : Bool) → slice_index_or kept j false ≡ b → ((place : ℕ) (l : LineParts) → place < j → slice_get lines place ≡ Some l → LineHolds l p)
            → LineHolds line p
        by true is earlier = kept-holds j line at is
        by false is earlier =
            let (apart, steps, refutes) = refuted j line at is in
            left-follows fields lines (left_before j (drop (suc j) kept)) line row steps is_row (same ∙ sym (length-left j kept there)) over
            (in-get line lines j at)
            (in-all IsLine line lines are (in-get line lines j at)) apart refutes p
            (all-in (λ l. LineHolds l p) (usable_lines lines (left_before j (drop (suc j) kept))) (λ l inside.
            let (place, l_at, used) = usable-place lines (left_before j (drop (suc j) kept)) l inside in
            left-holds place l (λ before. earlier place l before l_at) l_at (left-either j place kept there used)))

  -- each line follows from those that are kept
  pub kept-follow : (line : LineParts) → IsIn line lines → Follows (usable_lines lines kept) line
  kept-follow line there p hold = let (j, at) = in-place lines line there in first-hold p hold (suc j) j (omega arith) line at
