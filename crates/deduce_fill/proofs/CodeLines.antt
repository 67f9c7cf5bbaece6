use Rattle.std.proofs.Common.{◌≡◌, ℕ, ◌*◌, ◌<◌, ◌^◌, ◌%◌, List, All, length, slice_get, ap, ◌∙◌, subst, arith}
use Rattle.std.proofs.Math.Nat.{mod-eq_of_lt}
use Rattle.std.proofs.Math.Pow.{pow-lt}
use Rattle.edit_model.specs.Rows.{IsOfKind, IsRow, value_of}
use Rattle.edit_model.specs.Surveys.{IsField, IsKind}
use Rattle.edit_model.specs.declared.field.Field.{Field}
use Rattle.edit_model.specs.declared.field.Kind.{Kind}
use Rattle.edit_model.specs.declared.field.Kind.TheVariants as kind
use Rattle.edit_model.specs.declared.value.Value.{Value}
use Rattle.edit_model.specs.declared.value.Value.TheVariants.{Code}
use Rattle.edit_model.proofs.RowLaws.{value-held}
use Rattle.edit_line.proofs.ListPlaces.{some_with}
use Rattle.edit_line.proofs.Members.{in-all, in-get}

-- The line of another code, in words of 64 bits.

pub power-fits : (c : ℕ) → c < 64 → 1 * 2 ^ c % 18446744073709551616 ≡ 2 ^ c
power-fits c below = ap (λ n. n % 18446744073709551616) (one (2 ^ c)) ∙ mod-eq_of_lt (small below)
  where
    one : (n : ℕ) → 1 * n ≡ n
    one n = omega arith

    small : c < 64 → 2 ^ c < 18446744073709551616
    small below = pow-lt {i = c} {j = 64} below

-- a field has at most 64 codes
pub code-few : (fields : List Field) (row : List Value) (f c : ℕ) → All IsField fields → IsRow fields row → value_of row f ≡ Code c → f < length fields → c < 64
code-few fields row f c are is e below =
    let (g, at, of) = some_with (λ (g : Field). IsOfKind g.kind (value_of row f)) (slice_get fields f) (value-held fields row f is below) in
    by g.kind (in-all IsField g fields are (in-get g fields f at)).fits (subst (λ (v : Value). IsOfKind g.kind v) e of)
  where
    by : (k : Kind) → IsKind k → IsOfKind k (Code c) → c < 64
    by (kind.Code codes) fits of = omega (arith, of, fits.1)
    by (kind.Number scale) fits of = absurd of
