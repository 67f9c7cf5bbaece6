use Rattle.std.proofs.Common.{◌≡◌, ◌==◌, ℕ, zero, suc, ◌+◌, ◌<◌, Bool, true, false, if◌then◌else◌, List, [], ◌∷◌, length, refl, sym, ap, ◌∙◌, subst, arith}
use Rattle.std.proofs.lemmas.Bool.Decides.{Decides-eqb}
use Rattle.edit_model.specs.Rows.{IsOfKind, IsRow, value_of}
use Rattle.edit_model.specs.declared.field.Field.{Field}
use Rattle.edit_model.specs.declared.field.Kind.{Kind}
use Rattle.edit_model.specs.declared.field.Kind.TheVariants as kind
use Rattle.edit_model.specs.declared.value.Value.{Value}
use Rattle.edit_model.specs.declared.value.Value.TheVariants.{Code}
use Rattle.edit_line.specs.CodeFields.{size_from, size_of}
use Rattle.edit_line.specs.Shapes.{Categorical, Domain, Numerical, domain_of, shape_of}
use Rattle.edit_paths.specs.Cases.{SearchCase, IsCase}

-- A record's code at a field is one of the field's.

size-next : (i f : ℕ) (d : Domain) (shape : List Domain) → size_from i (d ∷ shape) (i + suc f) ≡ size_from (suc i) shape (suc i + f)
size-next i f Numerical shape = ap (λ n. size_from (suc i) shape n) (omega arith)
size-next i f (Categorical k) shape = by (i == i + suc f) refl ∙ ap (λ n. size_from (suc i) shape n) (omega arith)
  where
    by : (t : Bool) → (i == i + suc f) ≡ t → (if t then k else size_from (suc i) shape (i + suc f)) ≡ size_from (suc i) shape (i + suc f)
    by false e = refl
    by true e = absurd (omega (arith, (Decides-eqb i (i + suc f)).0 e))

row-size : (i : ℕ) (fields : List Field) (values : List Value) (f k : ℕ) → IsRow fields values → value_of values f ≡ Code k
    → k < size_from i (shape_of fields) (i + f)
row-size i [] [] f k is own = absurd (cc)
row-size i [] (v ∷ values) f k is own = absurd is
row-size i (x ∷ fields) [] f k is own = absurd is
row-size i (x ∷ fields) (v ∷ values) zero k is own = by x.kind (subst (λ (w : Value). IsOfKind x.kind w) own is.0)
  where
    by : (kd : Kind) → IsOfKind kd (Code k) → k < size_from i (domain_of kd ∷ shape_of fields) (i + 0)
    by (kind.Number scale) h = absurd h
    by (kind.Code codes) h =
        subst (λ (t : Bool). k < (if t then length codes else size_from (suc i) (shape_of fields) (i + 0))) (sym ((Decides-eqb i (i + 0)).1 (omega arith))) h
row-size i (x ∷ fields) (v ∷ values) (suc f) k is own =
    subst (λ n. k < n) (sym (size-next i f (domain_of x.kind) (shape_of fields))) (row-size (suc i) fields values f k is.1 own)

pub row-code : (c : SearchCase) → IsCase c → (f k : ℕ) → value_of c.row f ≡ Code k → k < size_of (shape_of c.survey.fields) f
row-code c is f k own = subst (λ n. k < size_from 0 (shape_of c.survey.fields) n) (omega arith) (row-size 0 c.survey.fields c.row f k is.row own)
