use Rattle.std.proofs.Common.{◌≡◌, ◌≢◌, ℕ, zero, suc, ◌+◌, ◌<◌, not, All, List, [], ◌∷◌, length, ℤ, pos, ◌*ℤ◌, ◌<ℤ◌, refl, sym, ap, ◌∙◌, subst, arith}
use Rattle.std.proofs.lemmas.Bool.Decides.{Decides-int_eq, Decides-eqb}
use Rattle.std.proofs.lemmas.Int.{ints}
use Rattle.fraction128.proofs.Signs.{above-*}
use Rattle.fraction128.proofs.Whole.{parts, ring, same_dif}
use Rattle.fraction128.specs.declared.fraction.Fraction.{Fraction}
use Rattle.edit_model.specs.Points.{HasCodesFrom, IsInDomain, Point}
use Rattle.edit_model.specs.RowPoints.{Agrees, code_in}
use Rattle.edit_model.specs.Rows.{IsOfKind, IsRow, value_of}
use Rattle.edit_model.specs.Surveys.{IsField, IsKind}
use Rattle.edit_model.specs.declared.field.Field.{Field}
use Rattle.edit_model.specs.declared.field.Kind.{Kind}
use Rattle.edit_model.specs.declared.field.Kind.TheVariants as kind
use Rattle.edit_model.specs.declared.value.Value.{Value}
use Rattle.edit_model.specs.declared.value.Value.TheVariants.{Code, Number, Bad}

-- the product of the denominators of a record's numbers
abbrev pub product_of_denominators : List Value → ℤ
product_of_denominators [] = pos 1
product_of_denominators (Number x ∷ values) = x.denominator *ℤ product_of_denominators values
product_of_denominators (Code c ∷ values) = product_of_denominators values
product_of_denominators (Bad ∷ values) = product_of_denominators values

-- the numerator of a record's number over that product; `before` is the product of the denominators of what stands before the values
abbrev pub numerator_over : ℤ → List Value → ℕ → ℤ
numerator_over before [] i = pos 0
numerator_over before (Number x ∷ values) zero = x.numerator *ℤ (before *ℤ product_of_denominators values)
numerator_over before (Number x ∷ values) (suc i) = numerator_over (before *ℤ x.denominator) values i
numerator_over before (Code c ∷ values) zero = pos 0
numerator_over before (Code c ∷ values) (suc i) = numerator_over before values i
numerator_over before (Bad ∷ values) zero = pos 0
numerator_over before (Bad ∷ values) (suc i) = numerator_over before values i

-- the product of the denominators is positive
pub denominators_above : (row : List Value) → pos 0 <ℤ product_of_denominators row
denominators_above [] = omega (arith, ints)
denominators_above (Number x ∷ values) = above-* x.denominator _ x.positive (denominators_above values)
denominators_above (Code c ∷ values) = denominators_above values
denominators_above (Bad ∷ values) = denominators_above values

-- the record's codes, and its numbers over one denominator
unfoldable pub point_of : List Value → Point
point_of row = record {
  code = λ f. code_in (value_of row f);
  numerator = numerator_over (pos 1) row;
  denominator = product_of_denominators row;
  positive = denominators_above row;
}

first_over : (n d before rest : ℤ) → n *ℤ (before *ℤ rest) *ℤ d ≡ n *ℤ (before *ℤ (d *ℤ rest))
first_over n d before rest = rw (parts n, parts d, parts before, parts rest) (simp ring (same_dif _ _ _ _ (omega arith)))

later_over : (d before rest : ℤ) → before *ℤ (d *ℤ rest) ≡ before *ℤ d *ℤ rest
later_over d before rest = rw (parts d, parts before, parts rest) (simp ring (same_dif _ _ _ _ (omega arith)))

-- a record's number is its numerator over the product of the denominators
number_over : (row : List Value) (before : ℤ) (i : ℕ) (x : Fraction) → value_of row i ≡ Number x
    → numerator_over before row i *ℤ x.denominator ≡ x.numerator *ℤ (before *ℤ product_of_denominators row)
number_over [] before i x is = cc
number_over (Number y ∷ values) before zero x is =
    let same : y ≡ x = cc in
    subst (λ (z : Fraction). y.numerator *ℤ (before *ℤ product_of_denominators values) *ℤ z.denominator
    ≡ z.numerator *ℤ (before *ℤ (y.denominator *ℤ product_of_denominators values))) same
    (first_over y.numerator y.denominator before (product_of_denominators values))
number_over (Number y ∷ values) before (suc i) x is = number_over values (before *ℤ y.denominator) i x is
    ∙ ap (λ (z : ℤ). x.numerator *ℤ z) (sym (later_over y.denominator before _))
number_over (Code c ∷ values) before zero x is = cc
number_over (Code c ∷ values) before (suc i) x is = number_over values before i x is
number_over (Bad ∷ values) before zero x is = cc
number_over (Bad ∷ values) before (suc i) x is = number_over values before i x is

one_times : (z : ℤ) → pos 1 *ℤ z ≡ z
one_times z = rw (parts z) (simp ring (same_dif _ _ _ _ (omega arith)))

-- the point that a record is agrees with it at each field that is not Bad
pub point_of-agrees : (row : List Value) (f : ℕ) → value_of row f ≢ Bad → Agrees row (point_of row) f
unfolding point_of
point_of-agrees row f held = by (value_of row f) refl
  where
    by : (v : Value) → value_of row f ≡ v → Agrees row (point_of row) f
    by (Code c) is = rw is (ap not ((Decides-eqb c (code_in (value_of row f))).1 (sym (ap code_in is))))
    by (Number x) is =
        let over : numerator_over (pos 1) row f *ℤ x.denominator ≡ x.numerator *ℤ product_of_denominators row =
        number_over row (pos 1) f x is ∙ ap (λ (z : ℤ). x.numerator *ℤ z) (one_times (product_of_denominators row)) in
        rw is (ap not ((Decides-int_eq _ _).1 over))
    by Bad is = absurd (held is)

-- a record without Bad fields has a point that agrees with it everywhere
pub agreeing_point : (row : List Value) → ((f : ℕ) → f < length row → value_of row f ≢ Bad) → (p : Point) × ((f : ℕ) → f < length row → Agrees row p f)
agreeing_point row held = (point_of row, λ f within. point_of-agrees row f (held f within))

-- the value of a record from a field on
value_after : (row values : List Value) (i : ℕ) (v : Value) → ((j : ℕ) → value_of row (i + j) ≡ value_of (v ∷ values) j) → (j : ℕ) → value_of row (suc i + j)
    ≡ value_of values j
value_after row values i v same j = ap (λ (n : ℕ). value_of row n) (omega arith) ∙ same (suc j)

-- the code of a value of the kind is of the kind's domain, and so is the first, which stands for Bad
in_domain : (k : Kind) (v : Value) → IsKind k → IsOfKind k v → IsInDomain k (code_in v)
in_domain (kind.Number scale) v fits is = tt
in_domain (kind.Code codes) (Code c) fits is = is
in_domain (kind.Code codes) (Number x) fits is = absurd is
in_domain (kind.Code codes) Bad fits is = omega (arith, fits.0)

-- the codes of the point of a record, from a field on, are of their fields' domains
codes_from : (fields : List Field) (values row : List Value) (i : ℕ) → All IsField fields → IsRow fields values
    → ((j : ℕ) → value_of row (i + j) ≡ value_of values j) → HasCodesFrom i fields (point_of row)
unfolding point_of
codes_from [] values row i fit is same = tt
codes_from (field ∷ fields) [] row i fit is same = absurd is
codes_from (field ∷ fields) (v ∷ values) row i fit is same =
    let here : value_of row i ≡ v = ap (λ (n : ℕ). value_of row n) (omega arith) ∙ same 0 in (
      subst (λ (w : Value). IsInDomain field.kind (code_in w)) (sym here) (in_domain field.kind v (fit 0 field (omega arith)).fits is.0),
      codes_from fields values row (suc i) (λ k d below. fit (suc k) d (omega arith)) is.1 (value_after row values i v same),
    )

-- a record of a survey has its codes in their domains, with the first one where it is Bad
pub point_of-codes : (fields : List Field) (row : List Value) → All IsField fields → IsRow fields row → HasCodesFrom 0 fields (point_of row)
point_of-codes fields row fit is = codes_from fields row row 0 fit is (λ j. ap (λ (n : ℕ). value_of row n) (omega arith))
