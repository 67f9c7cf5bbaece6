use Rattle.std.proofs.Common.{◌≡◌, List, [], ◌∷◌, length, sym, subst, arith}
use Rattle.fraction128.specs.declared.fraction.Fraction.{Fraction}
use Rattle.edit_model.specs.Rows.{IsOfKind, IsRow}
use Rattle.edit_model.specs.declared.field.Field.{Field}
use Rattle.edit_model.specs.declared.field.Kind.{Kind}
use Rattle.edit_model.specs.declared.field.Kind.TheVariants as kind
use Rattle.edit_model.specs.declared.value.Value.{Value}
use Rattle.edit_model.specs.declared.value.Value.TheVariants.{Bad, Code, Number}
use Rattle.edit_line.specs.Shapes.{Categorical, Numerical, domain_of, shape_of}

-- A record of a survey of two numerical and two categorical fields, for tests.

number-fits : (x : Fraction) (k : Kind) → domain_of k ≡ Numerical → IsOfKind k (Number x)
number-fits x (kind.Number scale) e = tt
number-fits x (kind.Code codes) e = absurd (cc)

second-fits : (k : Kind) → domain_of k ≡ Categorical 2 → IsOfKind k (Code 1)
second-fits (kind.Number scale) e = absurd (cc)
second-fits (kind.Code codes) e = let two : length codes ≡ 2 = cc in omega arith

pub row-of-four : (fields : List Field) (values : List Value) (x : Fraction) → shape_of fields ≡ Numerical ∷ Numerical ∷ Categorical 2 ∷ Categorical 3 ∷ []
    → values ≡ Number x ∷ Bad ∷ Code 1 ∷ Bad ∷ [] → IsRow fields values
row-of-four [] values x shape are = absurd (cc)
row-of-four (a ∷ []) values x shape are = absurd (cc)
row-of-four (a ∷ b ∷ []) values x shape are = absurd (cc)
row-of-four (a ∷ b ∷ c ∷ []) values x shape are = absurd (cc)
row-of-four (a ∷ b ∷ c ∷ d ∷ []) values x shape are = subst (λ (vs : List Value). IsRow (a ∷ b ∷ c ∷ d ∷ []) vs) (sym are)
    (number-fits x a.kind (cc), (tt, (second-fits c.kind (cc), (tt, tt))))
row-of-four (a ∷ b ∷ c ∷ d ∷ e ∷ fields) values x shape are = absurd (cc)
