use Rattle.std.proofs.Common.{◌≡◌, ℕ, zero, suc, ◌<◌, ◌==◌, ◌&&◌, ◌||◌, not, Bool, true, false, if◌then◌else◌, List, [], ◌∷◌, length, map, slice_index_or}
use Rattle.std.proofs.Common.{refl, sym, ap, ◌∙◌, arith}
use Rattle.std.proofs.lemmas.Bool.Decides.{Decides-eqb}
use Rattle.std.proofs.lemmas.List.{length-map}
use Rattle.edit_model.specs.Corrections.{path_order}
use Rattle.edit_model.specs.FieldSets.{has_field}
use Rattle.edit_model.specs.Rows.{is_bad, value_of}
use Rattle.edit_model.specs.declared.field.Field.{Field}
use Rattle.edit_model.specs.declared.value.Value.{Value}
use Rattle.edit_model.specs.declared.value.Value.TheVariants.{Bad, Code, Number}
use Rattle.edit_model.proofs.OrderLaws.{order-length}
use Rattle.edit_line.specs.Reductions.{IsIn}
use Rattle.edit_line.specs.Shapes.{place_in}
use Rattle.edit_line.proofs.FieldLists.{has-there, there-has}
use Rattle.edit_line.proofs.Members.{in-any, in-filter, in-filter-out}
use Rattle.edit_line.proofs.SetLaws.{both_true}
use Rattle.bound_cert.specs.Paths.{keeps, keeps_bad}
use Rattle.back_subst.proofs.StartLaws.{in-order}
use Rattle.deduce_fill.specs.Tests.{bad_fields, own_path}

-- The path of a record, which changes just the fields without a value.

-- a value past the end is none
pub value-within : (row : List Value) (f : ℕ) → is_bad (value_of row f) ≡ false → f < length row
value-within [] f some = absurd (cc)
value-within (v ∷ row) zero some = omega arith
value-within (v ∷ row) (suc f) some = let below = value-within row f some in omega (arith, below)

pub bad-is : (v : Value) → is_bad v ≡ true → v ≡ Bad
bad-is Bad h = refl
bad-is (Code c) h = absurd (cc)
bad-is (Number x) h = absurd (cc)

-- the letter beside a field
letter-beside : (g : ℕ → Bool) (fields : List ℕ) (f : ℕ) (d : Bool) → has_field fields f ≡ true → slice_index_or (map g fields) (place_in fields f) d ≡ g f
letter-beside g [] f d there = absurd (cc)
letter-beside g (i ∷ fields) f d there = by (i == f) refl there (letter-beside g fields f d)
  where
    by : (b : Bool) → (i == f) ≡ b → (b || has_field fields f) ≡ true → (has_field fields f ≡ true → slice_index_or (map g fields) (place_in fields f) d ≡ g f)
        → slice_index_or (g i ∷ map g fields) (if b then 0 else suc (place_in fields f)) d ≡ g f
    by true e h rest = ap g ((Decides-eqb i f).0 e)
    by false e h rest = rest h

module _ (fields : List Field) (row : List Value) where
  pub own-length : length (own_path fields row) ≡ length fields
  own-length = length-map (path_order fields) (λ f. is_bad (value_of row f)) ∙ order-length fields

  -- it keeps a field exactly where there is a value
  pub own-keeps : (f : ℕ) → has_field (path_order fields) f ≡ true → keeps fields (own_path fields row) f ≡ not (is_bad (value_of row f))
  own-keeps f there = ap not (letter-beside (λ f. is_bad (value_of row f)) (path_order fields) f true there)

  pub own-none : keeps_bad fields row (own_path fields row) ≡ true → ⊥
  own-none h =
      let (f, there, both) = in-any (λ f. keeps fields (own_path fields row) f && is_bad (value_of row f)) (path_order fields) h in
      let (kept, bad) = both_true (keeps fields (own_path fields row) f) (is_bad (value_of row f)) both in
      cc (sym kept ∙ own-keeps f (there-has f (path_order fields) there) ∙ ap not bad)

  -- the fields without a value
  pub bad-in : (f : ℕ) → f < length fields → value_of row f ≡ Bad → IsIn f (bad_fields fields row)
  bad-in f below bad = in-filter (λ f. is_bad (value_of row f)) f (path_order fields) (ap is_bad bad)
      (has-there f (path_order fields) (in-order fields f below))

  pub bad-out : (f : ℕ) → IsIn f (bad_fields fields row) → (has_field (path_order fields) f ≡ true) × (is_bad (value_of row f) ≡ true)
  bad-out f there =
      let (among, bad) = in-filter-out (λ f. is_bad (value_of row f)) f (path_order fields) there in (there-has f (path_order fields) among, bad)
