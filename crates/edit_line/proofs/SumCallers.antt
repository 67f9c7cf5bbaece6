use Rattle.std.proofs.Common.{◌≡◌, ◌≢◌, ℕ, suc, ◌+◌, false, List, [], ◌∷◌, ℤ, refl, sym, ap, ◌∙◌, subst, arith}
use Rattle.edit_line.specs.inner.LineFields.{HasNumbers}
use Rattle.edit_model.specs.Corrections.{differs_from}
use Rattle.edit_model.specs.Points.{Point}
use Rattle.edit_model.specs.RowPoints.{Agrees}
use Rattle.edit_model.specs.Rows.{IsOfKind, IsRow, value_of}
use Rattle.edit_model.specs.Trials.{IsNumberValue}
use Rattle.edit_model.specs.declared.field.Field.{Field}
use Rattle.edit_model.specs.declared.field.Kind.{Kind}
use Rattle.edit_model.specs.declared.field.Kind.TheVariants as kind
use Rattle.edit_model.specs.declared.value.Value.{Value}
use Rattle.edit_model.specs.declared.value.Value.TheVariants.{Code, Number, Bad}
use Rattle.edit_line.specs.Lines.{LineParts}
use Rattle.edit_line.specs.Shapes.{Domain, domain_of, number_fields, numbers_from, shape_of}
use Rattle.edit_line.specs.Sums.{AgreesOnLine, AtFactors}
use Rattle.edit_line.proofs.FactorLaws.{AtFactors-map}

-- What a caller of `value_at` shows: a record of the survey has the numbers that a line reads, where none of them is Bad.

-- a value of a numerical field is a number, unless it is Bad
number-value : (scale : ℕ) (v : Value) → IsOfKind (kind.Number scale) v → v ≢ Bad → IsNumberValue v
number-value scale (Number x) is held = tt
number-value scale (Code c) is held = absurd is
number-value scale Bad is held = absurd (held refl)

numbers-from-row : (i : ℕ) (fields : List Field) (values row : List Value) (factors : List ℤ) → IsRow fields values
    → ((j : ℕ) → value_of row (i + j) ≡ value_of values j)
    → AtFactors (λ f. value_of row f ≢ Bad) (numbers_from i (shape_of fields)) factors → AtFactors (λ f. IsNumberValue (value_of row f))
    (numbers_from i (shape_of fields)) factors
numbers-from-row i [] values row factors is same at = tt
numbers-from-row i (f ∷ fields) [] row factors is same at = absurd is
numbers-from-row i (f ∷ fields) (v ∷ values) row factors is same at = by f.kind factors is.0 (λ fs h. numbers-from-row (suc i) fields values row fs is.1 next h)
    at
  where
    next : (j : ℕ) → value_of row (suc i + j) ≡ value_of values j
    next j = ap (λ (n : ℕ). value_of row n) (omega arith) ∙ same (suc j)

    here : value_of row i ≡ v
    here = ap (λ (n : ℕ). value_of row n) (omega arith) ∙ same 0

    by : (k : Kind) (fs : List ℤ) → IsOfKind k v
        → ((gs : List ℤ) → AtFactors (λ f. value_of row f ≢ Bad) (numbers_from (suc i) (shape_of fields)) gs
        → AtFactors (λ f. IsNumberValue (value_of row f)) (numbers_from (suc i) (shape_of fields)) gs)
        → AtFactors (λ f. value_of row f ≢ Bad) (numbers_from i (domain_of k ∷ shape_of fields)) fs
        → AtFactors (λ f. IsNumberValue (value_of row f)) (numbers_from i (domain_of k ∷ shape_of fields)) fs
    by (kind.Code codes) fs of_kind rest h = rest fs h
    by (kind.Number scale) [] of_kind rest h = tt
    by (kind.Number scale) (a ∷ fs) of_kind rest h =
        (λ apart. subst (λ (w : Value). IsNumberValue w) (sym here) (number-value scale v of_kind (λ bad. h.0 apart (here ∙ bad))), rest fs h.1)

-- where no field that stands in the line is Bad, the record has its numbers
pub numbers-held : (fields : List Field) (row : List Value) (line : LineParts) → line.shape ≡ shape_of fields → IsRow fields row
    → AtFactors (λ f. value_of row f ≢ Bad) (number_fields line.shape) line.factors → HasNumbers row line
numbers-held fields row line shape is held =
    subst (λ (s : List Domain). AtFactors (λ f. value_of row f ≢ Bad) (number_fields s) line.factors
    → AtFactors (λ f. IsNumberValue (value_of row f)) (number_fields s) line.factors) (sym shape)
    (numbers-from-row 0 fields row row line.factors is (λ j. ap (λ (n : ℕ). value_of row n) (omega arith))) held

-- a value that a point agrees with is not Bad
agrees-value : (v : Value) (p : Point) (f : ℕ) → differs_from v p f ≡ false → v ≢ Bad
agrees-value (Number x) p f agrees = λ bad. absurd (cc)
agrees-value (Code c) p f agrees = λ bad. absurd (cc)
agrees-value Bad p f agrees = absurd (cc)

-- so at a point that agrees, the record has the line's numbers
pub numbers-agreed : (fields : List Field) (row : List Value) (line : LineParts) (p : Point) → line.shape ≡ shape_of fields → IsRow fields row
    → AgreesOnLine row p line → HasNumbers row line
numbers-agreed fields row line p shape is agrees =
    numbers-held fields row line shape is (AtFactors-map (λ f. Agrees row p f) (λ f. value_of row f ≢ Bad) (λ f. agrees-value (value_of row f) p f)
    (number_fields line.shape) line.factors agrees)
