use Rattle.std.proofs.Common.{◌≡◌, ◌≢◌, inl, inr, ℕ, ◌<◌, ◌==◌, ◌||◌, ◌++◌, ◌+◌, nat_lt, Bool, true, false, List, [], ◌∷◌, Ok, append-nil}
use Rattle.std.proofs.Common.{append_assoc, length, reverse, slice_set, refl, sym, ap, ◌∙◌, subst, arith}
use Rattle.std.proofs.lemmas.Bool.Decides.{Decides-eqb, Decides-ltb}
use Rattle.fraction128.specs.Formulas.{Ratio, ratio_of}
use Rattle.fraction128.specs.declared.fraction.Fraction.{Fraction}
use Rattle.fraction128.proofs.LowestLaws.{Fraction-same}
use Rattle.edit_model.specs.Parts.{SurveyParts}
use Rattle.edit_model.specs.RowPoints.{code_in}
use Rattle.edit_model.specs.Rows.{IsRow, value_of}
use Rattle.edit_model.specs.Trials.{IsCodeValue, IsNumberValue}
use Rattle.edit_model.specs.declared.field.Field.{Field}
use Rattle.edit_model.specs.declared.value.Value.{Value}
use Rattle.edit_model.specs.declared.value.Value.TheVariants.{Bad, Code, Number}
use Rattle.edit_model.proofs.RowLaws.{row-length}
use Rattle.edit_line.specs.Lines.{HaveShape, LineParts}
use Rattle.edit_line.specs.Shapes.{Domain, code_fields, has_field, number_fields, shape_of}
use Rattle.edit_line.proofs.BoolLaws.{or_true}
use Rattle.edit_line.proofs.FieldLists.{has-right}
use Rattle.linear_elim.specs.Systems.{system}
use Rattle.linear_elim.proofs.PointLaws.{number-no_code}
use Rattle.back_subst.specs.Allowed.{AllowsCode}
use Rattle.back_subst.specs.GiveFaults.{AreGivenFirst}
use Rattle.back_subst.specs.Given.{AreGiven, IsGiven, IsGivenCode, number_in}
use Rattle.back_subst.specs.NumberWalk.{number_result}
use Rattle.back_subst.specs.inner.UnderWay.{AreComputedBy}
use Rattle.back_subst.proofs.FieldPoints.{code-at, number-at}
use Rattle.back_subst.proofs.Rests.{value-other, value-set}
use Rattle.back_subst.proofs.SameNumbers.{same-number}
use Rattle.back_subst.proofs.StartLaws.{kind-either, past-end}
use Rattle.back_subst.proofs.UnderWayLaws.{other-field, own-there, same-but}
use Rattle.back_subst.proofs.WalkLaws.{IsGiven-rows, SameBut}

-- A field is given one value: two records whose fields were given values in one order are alike.

-- ---- the kind of a field that has a value

value-within : (row : List Value) (f : ℕ) (v : Value) → (v ≡ Bad → ⊥) → value_of row f ≡ v → f < length row
value-within row f v some is = by (nat_lt f (length row)) refl
  where
    by : (b : Bool) → nat_lt f (length row) ≡ b → f < length row
    by true e = (Decides-ltb f (length row)).0 e
    by false e = absurd (some (sym is ∙ past-end row f (λ below. absurd (cc (sym e ∙ (Decides-ltb f (length row)).1 below)))))

module _ (fields : List Field) (row : List Value) (f : ℕ) (is_row : IsRow fields row) where
  either : f < length row → (has_field (code_fields (shape_of fields)) f || has_field (number_fields (shape_of fields)) f) ≡ true
  either below = kind-either fields f (omega (arith, below, row-length fields row is_row))

  -- a field that has a number is numerical
  pub has-number : (x : Fraction) → value_of row f ≡ Number x → has_field (number_fields (shape_of fields)) f ≡ true
  has-number x is = by (has_field (code_fields (shape_of fields)) f) refl (either (value-within row f (Number x) (λ e. absurd (cc e)) is))
    where
      by : (b : Bool) → has_field (code_fields (shape_of fields)) f ≡ b → (b || has_field (number_fields (shape_of fields)) f) ≡ true
          → has_field (number_fields (shape_of fields)) f ≡ true
      by true e h = absurd (subst (λ (v : Value). IsCodeValue v) is ((code-at fields row f is_row e).0 (λ bad. absurd (cc (sym is ∙ bad)))))
      by false e h = h

  -- and one that has a code is categorical
  pub has-code : (c : ℕ) → value_of row f ≡ Code c → has_field (code_fields (shape_of fields)) f ≡ true
  has-code c is = by (has_field (code_fields (shape_of fields)) f) refl (either (value-within row f (Code c) (λ e. absurd (cc e)) is))
    where
      by : (b : Bool) → has_field (code_fields (shape_of fields)) f ≡ b → (b || has_field (number_fields (shape_of fields)) f) ≡ true → b ≡ true
      by true e h = refl
      by false e h = absurd (subst (λ (v : Value). IsNumberValue v) is ((number-at fields row f is_row h).0 (λ bad. absurd (cc (sym is ∙ bad)))))

-- ---- one field

-- one code alone is given
pub one-code : (allowed : ℕ → Type 0) (target a b : ℕ) → IsGivenCode allowed target a → IsGivenCode allowed target b → a ≡ b
one-code allowed target a b first second = elim first.chosen [
  | inl is ↦ elim second.chosen [
    | inl same ↦ is ∙ sym same
    | inr (none, least) ↦ absurd (none (subst allowed is first.is_allowed))
  ]
  | inr (none, least) ↦ elim second.chosen [
    | inl same ↦ absurd (none (subst allowed same second.is_allowed))
    | inr (also_none, also_least) ↦ by (nat_lt a b) refl (nat_lt b a) refl least also_least
  ]
]
  where
    by : (l : Bool) → nat_lt a b ≡ l → (m : Bool) → nat_lt b a ≡ m → ((c : ℕ) → c < a → ¬ allowed c) → ((c : ℕ) → c < b → ¬ allowed c) → a ≡ b
    by true l m e least also_least = absurd (also_least a ((Decides-ltb a b).0 l) first.is_allowed)
    by false l true e least also_least = absurd (least b ((Decides-ltb b a).0 e) second.is_allowed)
    by false l false e least also_least = grind (arith, l, e)

-- where a numerical field comes in the order, only numerical ones come after it
abbrev pub AreNumbersLast : List Domain → List ℕ → Type 0
AreNumbersLast shape [] = Unit {0}
AreNumbersLast shape (f ∷ fields) =
    (has_field (number_fields shape) f ≡ true → (k : ℕ) → has_field fields k ≡ true → has_field (number_fields shape) k ≡ true) × AreNumbersLast shape fields

pub numbers-last : (shape : List Domain) (codes numbers : List ℕ) → ((k : ℕ) → has_field codes k ≡ true → has_field (code_fields shape) k ≡ true)
    → ((k : ℕ) → has_field numbers k ≡ true → has_field (number_fields shape) k ≡ true) → AreNumbersLast shape (codes ++ numbers)
numbers-last shape [] [] codes_are numbers_are = tt
numbers-last shape [] (f ∷ numbers) codes_are numbers_are = (
  λ number k there. numbers_are k (ap (λ b. (f == k) || b) there ∙ or_true (f == k)),
  numbers-last shape [] numbers codes_are (λ k there. numbers_are k (ap (λ b. (f == k) || b) there ∙ or_true (f == k))),
)
numbers-last shape (f ∷ codes) numbers codes_are numbers_are = (
  λ number. absurd (cc (sym (codes_are f (own-there f codes)) ∙ number-no_code f 0 shape number)),
  numbers-last shape codes numbers (λ k there. codes_are k (ap (λ b. (f == k) || b) there ∙ or_true (f == k))) numbers_are,
)

module _ (survey : SurveyParts) (edits : List LineParts) (over : HaveShape (shape_of survey.fields) edits) (target : ℕ → Value) (row new : List Value)
    (is_row : IsRow survey.fields row) (is_new : IsRow survey.fields new) where
  abbrev shape : List Domain
  shape = shape_of survey.fields

  -- the record's number at a field is what the system gives, where others are left
  abbrev Computed : List Value → ℕ → List ℕ → Type 0
  Computed values f left =
      (x : Fraction) → value_of values f ≡ Number x → number_result (system edits (reverse left)) values f (number_in (target f)) ≡ Ok (ratio_of x)

  one-value : (f : ℕ) (left : List ℕ) → SameBut (f ∷ left) row new
      → (has_field (number_fields shape) f ≡ true → (k : ℕ) → has_field left k ≡ true → has_field (number_fields shape) k ≡ true)
      → IsGiven survey row (f ∷ left) f (target f) (value_of row f) → Computed row f left → IsGiven survey new (f ∷ left) f (target f) (value_of new f)
      → Computed new f left → value_of new f ≡ value_of row f
  one-value f left same last given computed new_given new_computed = by (value_of row f) refl (value_of new f) refl given new_given
    where
      by : (v : Value) → value_of row f ≡ v → (w : Value) → value_of new f ≡ w → IsGiven survey row (f ∷ left) f (target f) v
          → IsGiven survey new (f ∷ left) f (target f) w → value_of new f ≡ value_of row f
      by Bad e w h none some = absurd none
      by (Code c) e Bad h some none = absurd none
      by (Code c) e (Code d) h first second =
          h ∙ ap (λ n. Code n) (one-code (AllowsCode survey new (f ∷ left) f) (code_in (target f)) d c second
          (IsGiven-rows survey (f ∷ left) (f ∷ left) row new (λ i. refl) same f (target f) (Code c) first)) ∙ sym e
      by (Code c) e (Number y) h first second =
          absurd (cc (sym (has-code survey.fields row f is_row c e) ∙ number-no_code f 0 shape (has-number survey.fields new f is_new y h)))
      by (Number x) e Bad h some none = absurd none
      by (Number x) e (Code d) h first second =
          absurd (cc (sym (has-code survey.fields new f is_new d h) ∙ number-no_code f 0 shape (has-number survey.fields row f is_row x e)))
      by (Number x) e (Number y) h first second =
          h ∙ ap (λ z. Number z) (Fraction-same y x (ap (λ (r : Ratio). r.numerator) ratios) (ap (λ (r : Ratio). r.denominator) ratios)) ∙ sym e
        where
          number : has_field (number_fields shape) f ≡ true
          number = has-number survey.fields row f is_row x e

          told : Ok (ratio_of y) ≡ number_result (system edits (reverse left)) row f (number_in (target f))
          told = sym (new_computed y h) ∙ same-number survey edits over f left number (last number) row new is_row same (number_in (target f))

          ratios : ratio_of y ≡ ratio_of x
          ratios = cc (told ∙ computed x e)

  -- ---- all fields of an order

  narrowed : (f : ℕ) (left : List ℕ) → SameBut (f ∷ left) row new → value_of new f ≡ value_of row f → SameBut left row new
  narrowed f left same here = (same.0, λ i outside. by i (f == i) refl outside)
    where
      by : (i : ℕ) (b : Bool) → (f == i) ≡ b → has_field left i ≡ false → value_of new i ≡ value_of row i
      by i true own outside = subst (λ n. value_of new n ≡ value_of row n) ((Decides-eqb f i).0 own) here
      by i false own outside = same.1 i (ap (λ b. b || has_field left i) own ∙ outside)

  pub given-alike : (given left : List ℕ) → AreNumbersLast shape (given ++ left) → SameBut (given ++ left) row new
      → AreGivenFirst survey target row given left → AreComputedBy edits target row given left
      → AreGivenFirst survey target new given left → AreComputedBy edits target new given left → SameBut left row new
  given-alike [] left last same first computed new_first new_computed = same
  given-alike (f ∷ given) left last same first computed new_first new_computed =
      given-alike given left last.1 (narrowed f (given ++ left) same
      (one-value f (given ++ left) same last.0 first.0 computed.0 new_first.0 new_computed.0)) first.1 computed.1 new_first.1 new_computed.1

-- ---- the first of more fields

module _ (survey : SurveyParts) (edits : List LineParts) (target : ℕ → Value) (row : List Value) where
  pub first-part : (given more left : List ℕ) → AreGivenFirst survey target row (given ++ more) left → AreGivenFirst survey target row given (more ++ left)
  first-part [] more left first = tt
  first-part (f ∷ given) more left first =
      (subst (λ fs. IsGiven survey row (f ∷ fs) f (target f) (value_of row f)) (append_assoc given more left) first.0, first-part given more left first.1)

  pub computed-part : (given more left : List ℕ) → AreComputedBy edits target row (given ++ more) left → AreComputedBy edits target row given (more ++ left)
  computed-part [] more left computed = tt
  computed-part (f ∷ given) more left computed = (
    subst (λ fs. (x : Fraction) → value_of row f ≡ Number x → number_result (system edits (reverse fs)) row f (number_in (target f)) ≡ Ok (ratio_of x))
        (append_assoc given more left) computed.0,
    computed-part given more left computed.1,
  )

  pub first-later : (given more left : List ℕ) → AreGivenFirst survey target row (given ++ more) left → AreGivenFirst survey target row more left
  first-later [] more left first = first
  first-later (f ∷ given) more left first = first-later given more left first.1

  pub computed-later : (given more left : List ℕ) → AreComputedBy edits target row (given ++ more) left → AreComputedBy edits target row more left
  computed-later [] more left computed = computed
  computed-later (f ∷ given) more left computed = computed-later given more left computed.1

  pub computed-joined : (given more left : List ℕ) → AreComputedBy edits target row given (more ++ left) → AreComputedBy edits target row more left
      → AreComputedBy edits target row (given ++ more) left
  computed-joined [] more left first second = second
  computed-joined (f ∷ given) more left first second = (
    subst (λ fs. (x : Fraction) → value_of row f ≡ Number x → number_result (system edits (reverse fs)) row f (number_in (target f)) ≡ Ok (ratio_of x))
        (sym (append_assoc given more left)) first.0,
    computed-joined given more left first.1 second,
  )

  -- all fields, where none is left
  pub first-all : (order : List ℕ) → AreGiven survey target row order → AreGivenFirst survey target row order []
  first-all [] given = tt
  first-all (f ∷ order) given =
      (subst (λ fs. IsGiven survey row (f ∷ fs) f (target f) (value_of row f)) (sym (append-nil order)) given.0, first-all order given.1)

-- ---- one number more

module _ (survey : SurveyParts) (edits : List LineParts) (over : HaveShape (shape_of survey.fields) edits) (target : ℕ → Value) (so_far : List Value)
    (is_row : IsRow survey.fields so_far) (f : ℕ) (left : List ℕ) (x : Fraction) (within : f < length so_far) where
  abbrev next : List Value
  next = slice_set so_far f (Number x)

  number-is : (v w : Fraction) → Number v ≡ Number w → v ≡ w
  number-is v w e = cc

  -- what was computed before is computed of the record with the number too
  pub computed-turn : (given : List ℕ) → ((k : ℕ) → has_field (given ++ f ∷ left) k ≡ true → has_field (number_fields (shape_of survey.fields)) k ≡ true)
      → has_field given f ≡ false → AreComputedBy edits target so_far given (f ∷ left)
      → number_result (system edits (reverse left)) so_far f (number_in (target f)) ≡ Ok (ratio_of x)
      → AreComputedBy edits target (slice_set so_far f (Number x)) (given ++ f ∷ []) left
  computed-turn [] numbers apart computed here = (
    λ y e.
        same-number survey edits over f left (numbers f (own-there f left)) (λ k there. numbers k (ap (λ b. (f == k) || b) there ∙ or_true (f == k)))
        so_far next is_row
        (same-but survey edits target so_far so_far f left (Number x) within (f ∷ left) (own-there f left)) (number_in (target f))
        ∙ here ∙ ap (λ z. Ok (ratio_of z)) (number-is x y (sym (value-set so_far f (Number x) within) ∙ e)),
    tt,
  )
  computed-turn (g ∷ given) numbers apart computed here = (
    λ y e.
        ap (λ fs. number_result (system edits (reverse fs)) next g (number_in (target g))) (append_assoc given (f ∷ []) left)
        ∙ same-number survey edits over g (given ++ f ∷ left) (numbers g (own-there g (given ++ f ∷ left)))
        (λ k there. numbers k (ap (λ b. (g == k) || b) there ∙ or_true (g == k))) so_far next is_row
        (same-but survey edits target so_far so_far f left (Number x) within (g ∷ (given ++ f ∷ left)) listed) (number_in (target g))
        ∙ computed.0 y (sym (value-other so_far f g (Number x) (λ same. other.0 (sym same))) ∙ e),
    computed-turn given (λ k there. numbers k (ap (λ b. (g == k) || b) there ∙ or_true (g == k))) other.1 computed.1 here,
  )
    where
      other : (g ≢ f) × (has_field given f ≡ false)
      other = other-field g f given apart

      listed : has_field (g ∷ (given ++ f ∷ left)) f ≡ true
      listed = ap (λ b. (g == f) || b) (has-right f given (f ∷ left) (own-there f left)) ∙ or_true (g == f)
