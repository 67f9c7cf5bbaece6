use Rattle.std.proofs.Common.{◌≡◌, ◌≢◌, ℕ, suc, ◌<◌, ◌==◌, ◌||◌, not, Bool, true, false, List, [], ◌∷◌, All, length, ℤ, pos, ◌<ℤ◌, ◌*ℤ◌, refl, sym}
use Rattle.std.proofs.Common.{ap, ◌∙◌, subst, arith}
use Rattle.std.proofs.lemmas.Bool.Decides.{Decides-eqb, Decides-int_eq}
use Rattle.std.proofs.lemmas.List.Elements.{All-cons}
use Rattle.fraction128.proofs.Signs.{same_cancel}
use Rattle.fraction128.proofs.Whole.{swap_last}
use Rattle.edit_model.specs.Corrections.{differs_from}
use Rattle.edit_model.specs.Points.{HasCodesFrom, IsInDomain, Point}
use Rattle.edit_model.specs.RowPoints.{Agrees}
use Rattle.edit_model.specs.Rows.{IsRow, value_of}
use Rattle.edit_model.specs.Trials.{IsCodeValue, IsNumberValue}
use Rattle.edit_model.specs.declared.field.Field.{Field}
use Rattle.edit_model.specs.declared.value.Value.{Value}
use Rattle.edit_model.specs.declared.value.Value.TheVariants.{Bad, Code, Number}
use Rattle.edit_model.proofs.OrderLaws.{number-there}
use Rattle.edit_model.proofs.RowLaws as rows
use Rattle.edit_line.proofs.FieldLists.{there-has}
use Rattle.edit_line.proofs.ShapeLaws.{code_fields-same, number_fields-same}
use Rattle.edit_line.proofs.Members.{all-in}
use Rattle.edit_line.specs.Shapes.{Categorical, Domain, Numerical, code_fields, has_field, number_fields, numbers_from, shape_of}

-- Points that agree with a record at its fields.

-- two points have the same value at the numerical field
abbrev pub SameNumber : Point → Point → ℕ → Type 0
SameNumber p q i = q.numerator i *ℤ p.denominator ≡ p.numerator i *ℤ q.denominator

pub SameNumber-trans : (p q r : Point) (i : ℕ) → SameNumber p q i → SameNumber q r i → SameNumber p r i
SameNumber-trans p q r i first second =
    same_cancel (r.numerator i *ℤ p.denominator) (p.numerator i *ℤ r.denominator) q.denominator q.positive
    (swap_last (r.numerator i) p.denominator q.denominator ∙ ap (λ (k : ℤ). k *ℤ p.denominator) second
    ∙ swap_last (q.numerator i) r.denominator p.denominator ∙ ap (λ (k : ℤ). k *ℤ r.denominator) first
    ∙ swap_last (p.numerator i) q.denominator r.denominator)

pub SameNumber-sym : (p q : Point) (i : ℕ) → SameNumber p q i → SameNumber q p i
SameNumber-sym p q i same = sym same

-- ---- lists of fields

-- a field that is none of a list is not there
pub apart-absent : (f : ℕ) (fields : List ℕ) → All (λ g. f ≢ g) fields → has_field fields f ≡ false
apart-absent f [] all = refl
apart-absent f (i ∷ fields) all = by (i == f) refl (apart-absent f fields (λ k d below. all (suc k) d (omega arith)))
  where
    by : (b : Bool) → (i == f) ≡ b → has_field fields f ≡ false → (b || has_field fields f) ≡ false
    by true e rest = absurd (all 0 i (omega arith) (sym ((Decides-eqb i f).0 e)))
    by false e rest = rest

-- ---- the values of a record

-- a numerical field of a record has a number, or is Bad; it is within the record
pub number-at : (fields : List Field) (row : List Value) (f : ℕ) → IsRow fields row → has_field (number_fields (shape_of fields)) f ≡ true
    → (value_of row f ≢ Bad → IsNumberValue (value_of row f)) × (f < length row)
number-at fields row f is there = rows.number-at fields row f is (ap (λ fs. has_field fs f) (sym (number_fields-same fields)) ∙ there)

-- and a categorical one a code
pub code-at : (fields : List Field) (row : List Value) (f : ℕ) → IsRow fields row → has_field (code_fields (shape_of fields)) f ≡ true
    → (value_of row f ≢ Bad → IsCodeValue (value_of row f)) × (f < length row)
code-at fields row f is there = rows.code-at fields row f is (ap (λ fs. has_field fs f) (sym (code_fields-same fields)) ∙ there)

-- ---- two points that agree with a record at a field

-- the value of a record at which some point agrees is not Bad
pub agrees-held : (row : List Value) (p : Point) (f : ℕ) → Agrees row p f → value_of row f ≢ Bad
agrees-held row p f agrees bad = absurd (cc (sym agrees ∙ ap (λ (v : Value). differs_from v p f) bad))

same_of : (x y d e xd xn : ℤ) → pos 0 <ℤ xd → x *ℤ xd ≡ xn *ℤ d → y *ℤ xd ≡ xn *ℤ e → y *ℤ d ≡ x *ℤ e
same_of x y d e xd xn above first second =
    same_cancel (y *ℤ d) (x *ℤ e) xd above (swap_last y d xd ∙ ap (λ (k : ℤ). k *ℤ d) second ∙ swap_last xn e d ∙ ap (λ (k : ℤ). k *ℤ e) (sym first)
    ∙ swap_last x xd e)

not_false : (b : Bool) → not b ≡ false → b ≡ true
not_false true h = refl
not_false false h = absurd (cc)

number-of : (v : Value) (p q : Point) (f : ℕ) → IsNumberValue v → differs_from v p f ≡ false → differs_from v q f ≡ false → SameNumber p q f
number-of (Number x) p q f is first second =
    same_of (p.numerator f) (q.numerator f) p.denominator q.denominator x.denominator x.numerator x.positive ((Decides-int_eq _ _).0 (not_false _ first))
    ((Decides-int_eq _ _).0 (not_false _ second))
number-of (Code c) p q f is first second = absurd is
number-of Bad p q f is first second = absurd is

code-of : (v : Value) (p q : Point) (f : ℕ) → IsCodeValue v → differs_from v p f ≡ false → differs_from v q f ≡ false → q.code f ≡ p.code f
code-of (Code c) p q f is first second = sym ((Decides-eqb c (q.code f)).0 (not_false _ second)) ∙ (Decides-eqb c (p.code f)).0 (not_false _ first)
code-of (Number x) p q f is first second = absurd is
code-of Bad p q f is first second = absurd is

module _ (fields : List Field) (row : List Value) (is : IsRow fields row) (p q : Point) (f : ℕ) (p_agrees : Agrees row p f) (q_agrees : Agrees row q f) where
  pub both-number : has_field (number_fields (shape_of fields)) f ≡ true → SameNumber p q f
  both-number there = number-of (value_of row f) p q f ((number-at fields row f is there).0 (agrees-held row p f p_agrees)) p_agrees q_agrees

  pub both-code : has_field (code_fields (shape_of fields)) f ≡ true → q.code f ≡ p.code f
  both-code there = code-of (value_of row f) p q f ((code-at fields row f is there).0 (agrees-held row p f p_agrees)) p_agrees q_agrees

-- a point with the values of one that agrees does too
carried-number : (x y d e xd xn : ℤ) → pos 0 <ℤ d → x *ℤ xd ≡ xn *ℤ d → y *ℤ d ≡ x *ℤ e → y *ℤ xd ≡ xn *ℤ e
carried-number x y d e xd xn above first second =
    same_cancel (y *ℤ xd) (xn *ℤ e) d above (swap_last y xd d ∙ ap (λ (k : ℤ). k *ℤ xd) second ∙ swap_last x e xd ∙ ap (λ (k : ℤ). k *ℤ e) first
    ∙ swap_last xn d e)

pub Agrees-carried : (row : List Value) (p q : Point) (f : ℕ) → q.code f ≡ p.code f → SameNumber p q f → Agrees row p f → Agrees row q f
Agrees-carried row p q f code number agrees = by (value_of row f) agrees
  where
    by : (v : Value) → differs_from v p f ≡ false → differs_from v q f ≡ false
    by (Code c) h = ap (λ k. not (c == k)) code ∙ h
    by (Number x) h =
        ap not ((Decides-int_eq _ _).1 (carried-number (p.numerator f) (q.numerator f) p.denominator q.denominator x.denominator x.numerator p.positive
        ((Decides-int_eq _ _).0 (not_false _ h)) number))
    by Bad h = absurd (cc)

-- the codes of a point with the same ones are in their domains
pub HasCodesFrom-same : (i : ℕ) (fields : List Field) (p q : Point) → ((j : ℕ) → q.code j ≡ p.code j) → HasCodesFrom i fields p → HasCodesFrom i fields q
HasCodesFrom-same i [] p q same held = tt
HasCodesFrom-same i (field ∷ fields) p q same held =
    (subst (λ c. IsInDomain field.kind c) (sym (same i)) held.0, HasCodesFrom-same (suc i) fields p q same held.1)

-- a field before the first is not numerical
pub no_number-before : (f i : ℕ) (shape : List Domain) → f < i → has_field (numbers_from i shape) f ≡ false
no_number-before f i [] below = refl
no_number-before f i (Numerical ∷ shape) below = by (i == f) refl (no_number-before f (suc i) shape (omega arith))
  where
    by : (b : Bool) → (i == f) ≡ b → has_field (numbers_from (suc i) shape) f ≡ false → (b || has_field (numbers_from (suc i) shape) f) ≡ false
    by true e rest = let same : i ≡ f = (Decides-eqb i f).0 e in absurd (omega arith)
    by false e rest = rest
no_number-before f i (Categorical k ∷ shape) below = no_number-before f (suc i) shape (omega arith)

-- a field that is in a list of numerical fields is numerical
pub number-listed : (shape : List Domain) (fields : List ℕ) (i : ℕ) → All (λ g. has_field (number_fields shape) g ≡ true) fields
    → has_field fields i ≡ true → has_field (number_fields shape) i ≡ true
number-listed shape fields i all there = number-there (λ g. has_field (number_fields shape) g ≡ true) fields i there all

-- a field that is not in a list is none of it
pub absent-apart : (i : ℕ) (fields : List ℕ) → has_field fields i ≡ false → All (λ g. i ≢ g) fields
absent-apart i [] none = λ k d below. absurd (omega arith)
absent-apart i (g ∷ fields) none = by (g == i) refl none (absent-apart i fields)
  where
    by : (b : Bool) → (g == i) ≡ b → (b || has_field fields i) ≡ false → (has_field fields i ≡ false → All (λ h. i ≢ h) fields) → All (λ h. i ≢ h) (g ∷ fields)
    by true e h rest = absurd (cc)
    by false e h rest = All-cons (λ h. i ≢ h) g fields (λ same. absurd (cc (sym e ∙ (Decides-eqb g i).1 (sym same)))) (rest h)

-- the categorical fields of a survey are within a record
pub codes-within : (fields : List Field) (row : List Value) → IsRow fields row → All (λ f. f < length row) (code_fields (shape_of fields))
codes-within fields row is =
    all-in (λ f. f < length row) (code_fields (shape_of fields)) (λ f there. (code-at fields row f is (there-has f (code_fields (shape_of fields)) there)).1)
