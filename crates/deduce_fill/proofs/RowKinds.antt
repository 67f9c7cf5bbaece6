use Rattle.std.proofs.Common.{◌≡◌, ℕ, zero, suc, ◌+◌, ◌==◌, ◌||◌, Bool, true, false, List, [], ◌∷◌, refl, ap, ◌∙◌, arith}
use Rattle.std.proofs.lemmas.Bool.Decides.{Decides-eqb}
use Rattle.fraction128.specs.declared.fraction.Fraction.{Fraction}
use Rattle.edit_model.specs.Rows.{IsOfKind, IsRow, value_of}
use Rattle.edit_model.specs.declared.field.Field.{Field}
use Rattle.edit_model.specs.declared.field.Kind.{Kind}
use Rattle.edit_model.specs.declared.field.Kind.TheVariants as kind
use Rattle.edit_model.specs.declared.value.Value.{Value}
use Rattle.edit_model.specs.declared.value.Value.TheVariants.{Bad, Code, Number}
use Rattle.edit_line.specs.Shapes.{codes_from, domain_of, has_field, numbers_from, shape_of}

-- A record has numbers at numerical fields and codes at categorical ones.

or_right : (a b : Bool) → b ≡ true → (a || b) ≡ true
or_right true b h = refl
or_right false b h = h

or_left : (a b : Bool) → a ≡ true → (a || b) ≡ true
or_left true b h = refl
or_left false b h = absurd (cc)

itself : (i : ℕ) → (i == i + 0) ≡ true
itself i = (Decides-eqb i (i + 0)).1 (omega arith)

pub number-in : (i : ℕ) (fields : List Field) (row : List Value) (f : ℕ) (x : Fraction) → IsRow fields row → value_of row f ≡ Number x
    → has_field (numbers_from i (shape_of fields)) (i + f) ≡ true
number-in i [] [] f x is e = absurd (cc)
number-in i [] (v ∷ row) f x is e = absurd is
number-in i (g ∷ fields) [] f x is e = absurd is
number-in i (g ∷ fields) (v ∷ row) zero x is e = by g.kind v is.0 e
  where
    by : (k : Kind) (v : Value) → IsOfKind k v → v ≡ Number x → has_field (numbers_from i (domain_of k ∷ shape_of fields)) (i + 0) ≡ true
    by (kind.Number scale) v of e = or_left (i == i + 0) _ (itself i)
    by (kind.Code codes) (Number y) of e = absurd of
    by (kind.Code codes) (Code c) of e = absurd (cc)
    by (kind.Code codes) Bad of e = absurd (cc)
number-in i (g ∷ fields) (v ∷ row) (suc f) x is e =
    by g.kind (ap (has_field (numbers_from (suc i) (shape_of fields))) (omega arith) ∙ number-in (suc i) fields row f x is.1 e)
  where
    by : (k : Kind) → has_field (numbers_from (suc i) (shape_of fields)) (i + suc f) ≡ true
        → has_field (numbers_from i (domain_of k ∷ shape_of fields)) (i + suc f) ≡ true
    by (kind.Number scale) h = or_right (i == i + suc f) _ h
    by (kind.Code codes) h = h

pub code-in : (i : ℕ) (fields : List Field) (row : List Value) (f c : ℕ) → IsRow fields row → value_of row f ≡ Code c
    → has_field (codes_from i (shape_of fields)) (i + f) ≡ true
code-in i [] [] f c is e = absurd (cc)
code-in i [] (v ∷ row) f c is e = absurd is
code-in i (g ∷ fields) [] f c is e = absurd is
code-in i (g ∷ fields) (v ∷ row) zero c is e = by g.kind v is.0 e
  where
    by : (k : Kind) (v : Value) → IsOfKind k v → v ≡ Code c → has_field (codes_from i (domain_of k ∷ shape_of fields)) (i + 0) ≡ true
    by (kind.Code codes) v of e = or_left (i == i + 0) _ (itself i)
    by (kind.Number scale) (Number y) of e = absurd (cc)
    by (kind.Number scale) (Code d) of e = absurd of
    by (kind.Number scale) Bad of e = absurd (cc)
code-in i (g ∷ fields) (v ∷ row) (suc f) c is e =
    by g.kind (ap (has_field (codes_from (suc i) (shape_of fields))) (omega arith) ∙ code-in (suc i) fields row f c is.1 e)
  where
    by : (k : Kind) → has_field (codes_from (suc i) (shape_of fields)) (i + suc f) ≡ true
        → has_field (codes_from i (domain_of k ∷ shape_of fields)) (i + suc f) ≡ true
    by (kind.Code codes) h = or_right (i == i + suc f) _ h
    by (kind.Number scale) h = h
