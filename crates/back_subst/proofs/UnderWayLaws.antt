use Rattle.std.proofs.Common.{◌≡◌, ◌≢◌, ℕ, zero, suc, ◌<◌, ◌==◌, ◌||◌, ◌++◌, not, Bool, true, false, Option, Some, None, IfSome, List, [], ◌∷◌}
use Rattle.std.proofs.Common.{length, slice_set, refl, sym, ap, ◌∙◌, subst, arith}
use Rattle.std.proofs.lemmas.Bool.Decides.{Decides-eqb}
use Rattle.std.proofs.lemmas.List.{append_assoc}
use Rattle.edit_model.specs.Parts.{SurveyParts}
use Rattle.edit_model.specs.Rows.{IsRow, value_of}
use Rattle.edit_model.specs.declared.value.Value.{Value}
use Rattle.edit_line.proofs.BoolLaws.{or_true}
use Rattle.edit_line.specs.Lines.{LineParts}
use Rattle.edit_line.specs.Shapes.{code_fields, has_field, number_fields, shape_of}
use Rattle.edit_line.proofs.ShapeLaws.{same_codes, same_fields}
use Rattle.edit_model.specs.Corrections as corrections
use Rattle.edit_model.specs.declared.field.Field.{Field}
use Rattle.edit_model.proofs.OrderLaws.{field-below}
use Rattle.edit_model.proofs.RowLaws.{row-length}
use Rattle.edit_line.proofs.FieldLists.{has-append}
use Rattle.back_subst.specs.Gifts.{IsDonorRecord}
use Rattle.back_subst.specs.GiveFaults.{AreGivenFirst}
use Rattle.back_subst.specs.Given.{AreGiven, IsGiven}
use Rattle.back_subst.specs.inner.UnderWay.{AreDistinct, IsUnderWay}
use Rattle.back_subst.proofs.ImputedLaws.{given-next}
use Rattle.back_subst.proofs.Rests.{value-other, value-set}
use Rattle.back_subst.proofs.WalkLaws.{IsGiven-rows, SameBut, completes-rows, decide-turn}

-- One value more is given.

-- the donor has a value at each field of the survey
pub donor-within : (survey : SurveyParts) (donor : Option (List Value)) (f : ℕ) → IsDonorRecord survey donor → f < length survey.fields
    → IfSome donor (λ row. f < length row)
donor-within survey None f is below = tt
donor-within survey (Some row) f is below = omega (arith, below, row-length survey.fields row is.0)

-- a field of one kind is one of the survey's
pub number-below : (fields : List Field) (f : ℕ) → has_field (number_fields (shape_of fields)) f ≡ true → f < length fields
number-below fields f there =
    field-below corrections.is_numerical fields f (ap (λ fs. has_field fs f)
    (same_fields (corrections.number_fields fields) fields (shape_of fields) refl refl) ∙ there)

pub code-field_below : (fields : List Field) (f : ℕ) → has_field (code_fields (shape_of fields)) f ≡ true → f < length fields
code-field_below fields f there =
    field-below (λ k. not (corrections.is_numerical k)) fields f
    (ap (λ fs. has_field fs f) (same_codes (corrections.code_fields fields) fields (shape_of fields) refl refl) ∙ there)

-- ---- lists of fields

pub length-set : (row : List Value) (i : ℕ) (v : Value) → length (slice_set row i v) ≡ length row
length-set [] i v = refl
length-set (w ∷ row) zero v = refl
length-set (w ∷ row) (suc i) v = ap suc (length-set row i v)

pub own-there : (f : ℕ) (left : List ℕ) → has_field (f ∷ left) f ≡ true
own-there f left = ap (λ b. b || has_field left f) ((Decides-eqb f f).1 refl)

pub other-field : (f i : ℕ) (left : List ℕ) → has_field (f ∷ left) i ≡ false → (f ≢ i) × (has_field left i ≡ false)
other-field f i left absent = by (f == i) refl absent
  where
    by : (b : Bool) → (f == i) ≡ b → (b || has_field left i) ≡ false → (f ≢ i) × (has_field left i ≡ false)
    by true e h = absurd (cc)
    by false e h = (λ same. absurd (cc (sym e ∙ (Decides-eqb f i).1 same)), h)

-- the later of distinct fields
pub distinct-part : (given left : List ℕ) → AreDistinct (given ++ left) → AreDistinct left
distinct-part [] left distinct = distinct
distinct-part (g ∷ given) left distinct = distinct-part given left distinct.1

-- a field of distinct ones is not there again
pub distinct-apart : (given left : List ℕ) (f : ℕ) → AreDistinct (given ++ f ∷ left) → (has_field given f ≡ false) × (has_field left f ≡ false)
distinct-apart [] left f distinct = (refl, distinct.0)
distinct-apart (g ∷ given) left f distinct =
    let rest = distinct-apart given left f distinct.1 in
    (ap (λ b. b || has_field given f) (apart (g == f) refl) ∙ rest.0, rest.1)
  where
    there : has_field (given ++ f ∷ left) f ≡ true
    there = has-append f given (f ∷ left) ∙ ap (λ b. has_field given f || b) (own-there f left) ∙ or_true (has_field given f)

    apart : (b : Bool) → (g == f) ≡ b → b ≡ false
    apart false e = refl
    apart true e = absurd (cc (sym distinct.0 ∙ ap (λ n. has_field (given ++ f ∷ left) n) ((Decides-eqb g f).0 e) ∙ there))

-- ---- the turn

module _ (survey : SurveyParts) (edits : List LineParts) (target : ℕ → Value) (row so_far : List Value) (f : ℕ) (left : List ℕ) (v : Value)
    (within : f < length so_far) where
  abbrev next : List Value
  next = slice_set so_far f v

  pub same-but : (fields : List ℕ) → has_field fields f ≡ true → SameBut fields so_far next
  same-but fields there =
      (length-set so_far f v, λ i outside. value-other so_far f i v (λ same. absurd (cc (sym outside ∙ ap (λ n. has_field fields n) (sym same) ∙ there))))

  first-turn : (given : List ℕ) → has_field given f ≡ false → AreGivenFirst survey target so_far given (f ∷ left)
      → IsGiven survey so_far (f ∷ left) f (target f) v → AreGivenFirst survey target next (given ++ f ∷ []) left
  first-turn [] apart first given = (
    subst (λ (w : Value). IsGiven survey next (f ∷ left) f (target f) w) (sym (value-set so_far f v within))
        (IsGiven-rows survey (f ∷ left) (f ∷ left) so_far next (λ i. refl) (same-but (f ∷ left) (own-there f left)) f (target f) v given),
    tt,
  )
  first-turn (g ∷ done) apart first given =
      let (other, rest) = other-field g f done apart in (
        subst (λ (w : Value). IsGiven survey next (g ∷ ((done ++ f ∷ []) ++ left)) g (target g) w) (sym (value-other so_far f g v (λ same. other (sym same))))
            (IsGiven-rows survey (g ∷ (done ++ f ∷ left)) (g ∷ ((done ++ f ∷ []) ++ left)) so_far next
            (λ i. ap (λ (fs : List ℕ). has_field (g ∷ fs) i) (append_assoc done (f ∷ []) left)) (same-but (g ∷ (done ++ f ∷ left)) (there done g)) g
            (target g) (value_of so_far g) first.0),
        first-turn done rest first.1 given,
      )
    where
      there : (done : List ℕ) (g : ℕ) → has_field (g ∷ (done ++ f ∷ left)) f ≡ true
      there done g =
          ap (λ b. (g == f) || b) (has-append f done (f ∷ left) ∙ ap (λ b. has_field done f || b) (own-there f left) ∙ or_true (has_field done f))
          ∙ or_true (g == f)

  pub way-turn : (given : List ℕ) → IsUnderWay survey edits target row given (f ∷ left) so_far → IsGiven survey so_far (f ∷ left) f (target f) v
      → IsRow survey.fields next → IsUnderWay survey edits target row (given ++ f ∷ []) left next
  way-turn given way is_given fits =
      let apart = distinct-apart given left f way.distinct in
      let joined = append_assoc given (f ∷ []) left in
      let at_next : IsGiven survey next (f ∷ left) f (target f) v = IsGiven-rows survey (f ∷ left) (f ∷ left) so_far next (λ i. refl)
      (same-but (f ∷ left) (own-there f left)) f (target f) v is_given in
      let (q, done) = given-next survey target next left f v (value-set so_far f v within) at_next way.point
      (completes-rows survey (f ∷ left) (f ∷ left) so_far next (λ i. refl) (same-but (f ∷ left) (own-there f left)) way.point way.completes) in
      record {
        is_row = fits;
        keeps = λ i absent.
            let outside : has_field (given ++ f ∷ left) i ≡ false = ap (λ (fs : List ℕ). has_field fs i) (sym joined) ∙ absent in
            value-other so_far f i v (λ same. absurd (cc (sym outside ∙ ap (λ n. has_field (given ++ f ∷ left) n) (sym same) ∙ there given)))
            ∙ way.keeps i outside;
        blank = λ i there_i.
            value-other so_far f i v (λ same. absurd (cc (sym apart.1 ∙ ap (λ n. has_field left n) same ∙ there_i)))
            ∙ way.blank i (ap (λ b. (f == i) || b) there_i ∙ or_true (f == i));
        distinct = subst (λ fs. AreDistinct fs) (sym joined) way.distinct;
        first = first-turn given apart.0 way.first is_given;
        decide = decide-turn survey edits so_far next (f ∷ left) left way.decide (length-set so_far f v) (λ i outside. (other-field f i left outside).1)
            (λ i outside. (same-but (f ∷ left) (own-there f left)).1 i outside);
        point = q;
        completes = done;
      }
    where
      there : (given : List ℕ) → has_field (given ++ f ∷ left) f ≡ true
      there given = has-append f given (f ∷ left) ∙ ap (λ b. has_field given f || b) (own-there f left) ∙ or_true (has_field given f)

-- all fields are given
pub all-given : (survey : SurveyParts) (target : ℕ → Value) (row : List Value) (order : List ℕ) → AreGivenFirst survey target row order []
    → AreGiven survey target row order
all-given survey target row [] first = tt
all-given survey target row (f ∷ order) first =
    (subst (λ fs. IsGiven survey row (f ∷ fs) f (target f) (value_of row f)) (nothing order) first.0, all-given survey target row order first.1)
  where
    nothing : (fields : List ℕ) → fields ++ [] ≡ fields
    nothing [] = refl
    nothing (i ∷ fields) = ap (λ is. i ∷ is) (nothing fields)
