use Rattle.std.proofs.Common.{◌≡◌, ◌≢◌, ℕ, ◌+◌, ◌<◌, ◌≤◌, ◌==◌, nat_lt, Bool, true, false, List, length, slice_set, refl, sym, ap, ◌∙◌, arith}
use Rattle.std.proofs.lemmas.Bool.Decides.{Decides-eqb, Decides-ltb}
use Rattle.edit_model.specs.FieldSets.{has_number}
use Rattle.edit_model.specs.Rows.{IsRow, value_of}
use Rattle.edit_model.specs.declared.field.Field.{Field}
use Rattle.edit_model.specs.declared.value.Value.{Value}
use Rattle.edit_model.specs.declared.value.Value.TheVariants.{Bad}
use Rattle.edit_model.proofs.RowLaws.{row-length}
use Rattle.back_subst.proofs.Rests.{value-other, value-set}
use Rattle.back_subst.proofs.StartLaws.{past-end}

-- The changed fields of a record are made Bad, one after the other.

module _ (fields : List Field) (changed i : ℕ) (row new : List Value) (is_row : IsRow fields new) (below : i < length fields)
    (blank : (f : ℕ) → f < i → has_number changed f ≡ true → value_of new f ≡ Bad) where
  pub blank-more : (f : ℕ) → f < i + 1 → has_number changed f ≡ true → value_of (slice_set new i Bad) f ≡ Bad
  blank-more f f_below there = by (i == f) refl
    where
      by : (b : Bool) → (i == f) ≡ b → value_of (slice_set new i Bad) f ≡ Bad
      by true e =
          ap (λ n. value_of (slice_set new i Bad) n) (sym ((Decides-eqb i f).0 e)) ∙ value-set new i Bad (omega (arith, below, row-length fields new is_row))
      by false e = let apart : i ≢ f = λ same. absurd (cc (sym e ∙ (Decides-eqb i f).1 same)) in value-other new i f Bad apart
          ∙ blank f (omega (arith, apart, f_below)) there

  pub blank-same : has_number changed i ≡ false → (f : ℕ) → f < i + 1 → has_number changed f ≡ true → value_of new f ≡ Bad
  blank-same none f f_below there = let apart : i ≢ f = λ same. absurd (cc (sym none ∙ ap (λ n. has_number changed n) same ∙ there)) in blank f
      (omega (arith, apart, f_below)) there

  pub kept-more : has_number changed i ≡ true → ((f : ℕ) → has_number changed f ≡ false → value_of new f ≡ value_of row f) → (f : ℕ)
      → has_number changed f ≡ false → value_of (slice_set new i Bad) f ≡ value_of row f
  kept-more there kept f none = value-other new i f Bad (λ same. absurd (cc (sym none ∙ ap (λ n. has_number changed n) (sym same) ∙ there))) ∙ kept f none

-- at last all of them are
pub blank-all : (fields : List Field) (changed i : ℕ) (new : List Value) → IsRow fields new → length fields ≤ i
    → ((f : ℕ) → f < i → has_number changed f ≡ true → value_of new f ≡ Bad) → (f : ℕ) → has_number changed f ≡ true → value_of new f ≡ Bad
blank-all fields changed i new is_row past blank f there = by (nat_lt f i) refl
  where
    by : (b : Bool) → nat_lt f i ≡ b → value_of new f ≡ Bad
    by true e = blank f ((Decides-ltb f i).0 e) there
    by false e = past-end new f (λ below. absurd (cc (sym e ∙ (Decides-ltb f i).1 (omega (arith, past, below, row-length fields new is_row)))))
