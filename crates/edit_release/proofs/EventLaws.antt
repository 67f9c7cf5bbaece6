use Rattle.std.proofs.Common.{◌≡◌, ℕ, zero, suc, nat_le, nat_lt, Bool, true, List, [], ◌∷◌, inl, inr, Option, Some, None, Result, Ok, Err, length, slice_get, ℤ}
use Rattle.std.proofs.Common.{refl, ap, ◌∙◌, subst, arith}
use Rattle.std.proofs.lemmas.Bool.Decides.{Decides-ltb, nat_tests}
use Rattle.std.specs.Option.{ok_or}
use Rattle.foundation.specs.Results.{◌>>=◌}
use Rattle.fraction128.specs.Formulas.{Ratio}
use Rattle.edit_model.specs.Corrections.{is_numerical}
use Rattle.edit_model.specs.Rows.{value_of}
use Rattle.edit_model.specs.declared.field.Field.{Field}
use Rattle.edit_model.specs.declared.value.Value.{Value}
use Rattle.edit_model.proofs.OrderLaws.{field-below}
use Rattle.edit_line.specs.Lines.{LineParts}
use Rattle.edit_line.specs.Places.{place_named}
use Rattle.edit_line.specs.Reductions.{IsIn}
use Rattle.edit_line.specs.Shapes.{number_fields, shape_of}
use Rattle.edit_line.specs.Sums.{fails_at, fails_by, next_sum, sum_at, sum_from, whole}
use Rattle.edit_line.specs.declared.derived.Derived.{Derived}
use Rattle.edit_line.specs.declared.place.Place.{Place}
use Rattle.edit_line.proofs.BoolLaws.{true-both}
use Rattle.edit_line.proofs.FieldLists.{there-has}
use Rattle.edit_line.proofs.Members.{in-all, in-get}
use Rattle.edit_line.proofs.ShapeLaws.{number_fields-same}
use Rattle.linear_elim.specs.Systems.{system_of}
use Rattle.linear_elim.proofs.ShapeLaws.{derived-shape}
use Rattle.bound_cert.specs.declared.outcome.Event.{Event}
use Rattle.bound_cert.specs.declared.outcome.Event.TheVariants as event
use Rattle.bound_cert.specs.declared.outcome.Outcome.TheVariants as outcome
use Rattle.edit_paths.specs.Cases.{SearchCase, IsCase}
use Rattle.edit_paths.specs.Events.{IsStepOverflow, IsTestOverflow}
use Rattle.edit_paths.specs.Outcomes.{outcome_of}
use Rattle.edit_paths.specs.ReachedPaths.{reached_paths}
use Rattle.edit_paths.proofs.CaseSystems.{system-over}
use Rattle.edit_paths.proofs.ReachedLaws.{reached-are}
use Rattle.record_ends.proofs.OverflowLaws.{step-shown, stops-from, test-shown}
use Rattle.cert_check.specs.RowChecks.{event_exists, place_exists}

-- The numbers that the event of an overflow names are there.

-- a sum that leaves the range does so at one of its fields
sum-names : (fields : List ℕ) (factors : List ℤ) (row : List Value) (sum : Ratio) (f : ℕ) → sum_from fields factors row sum ≡ Err f → IsIn f fields
sum-names [] factors row sum f e = absurd (cc)
sum-names (g ∷ fields) [] row sum f e = absurd (cc)
sum-names (g ∷ fields) (a ∷ factors) row sum f e = by (next_sum a (value_of row g) sum) (λ next. sum-names fields factors row next f) e
  where
    by : (o : Option Ratio) → ((next : Ratio) → sum_from fields factors row next ≡ Err f → IsIn f fields)
        → (ok_or o g >>= (λ next. sum_from fields factors row next)) ≡ Err f → IsIn f (g ∷ fields)
    by None rest h = inl (cc)
    by (Some next) rest h = inr (rest next h)

test-names : (line : LineParts) (row : List Value) (f : ℕ) → fails_at line row ≡ Err f → IsIn f (number_fields line.shape)
test-names line row f e = sum-names (number_fields line.shape) line.factors row (whole line.constant) f (out (sum_at line row) e)
  where
    out : (r : Result Ratio ℕ) → fails_by line.relation r ≡ Err f → r ≡ Err f
    out (Ok sum) h = absurd (cc)
    out (Err g) h = cc

-- a numerical field is one of the fields
number-below : (fields : List Field) (f : ℕ) → IsIn f (number_fields (shape_of fields)) → nat_lt f (length fields) ≡ true
number-below fields f there = (Decides-ltb f (length fields)).1
    (field-below is_numerical fields f (there-has f _ (subst (λ (fs : List ℕ). IsIn f fs) (number_fields-same fields) there)))

-- the place of a number is that of one of the fields, or of the constant
place-there : (fields : List Field) (numbers : List ℕ) (i : ℕ) → ((f : ℕ) → IsIn f numbers → nat_lt f (length fields) ≡ true)
    → place_exists fields (place_named numbers i) ≡ true
place-there fields [] i below = refl
place-there fields (f ∷ numbers) zero below = below f (inl refl)
place-there fields (f ∷ numbers) (suc i) below = place-there fields numbers i (λ g there. below g (inr there))

module _ (c : SearchCase) (is : IsCase c) where
  -- a line of a system is over the fields
  line-over : (fields : List ℕ) (lines : List Derived) → system_of c.edits fields ≡ Ok lines → (place : ℕ) (d : Derived) → slice_get lines place ≡ Some d
      → d.line.shape ≡ shape_of c.survey.fields
  line-over fields lines made place d at = in-all (λ (x : Derived). x.line.shape ≡ shape_of c.survey.fields) d lines
      (derived-shape _ lines (system-over c is fields lines made)) (in-get d lines place at)

  numbers-below : (d : Derived) → d.line.shape ≡ shape_of c.survey.fields → (f : ℕ) → IsIn f (number_fields d.line.shape) → nat_lt f (length c.survey.fields)
      ≡ true
  numbers-below d over f there = number-below c.survey.fields f (subst (λ s. IsIn f (number_fields s)) over there)

  step-there : (path : List Bool) (first second : ℕ) (place : Place) → IsStepOverflow c path first second place → place_exists c.survey.fields place ≡ true
  step-there path first second place (lines, made, overflow) =
      ap (λ (p : Place). place_exists c.survey.fields p) overflow.place
      ∙ place-there c.survey.fields (number_fields overflow.s.line.shape) overflow.number
      (numbers-below overflow.s (line-over _ lines made first overflow.s overflow.first))

  test-there : (path : List Bool) (line field : ℕ) → IsTestOverflow c path line field → nat_lt field (length c.survey.fields) ≡ true
  test-there path line field (lines, made, found) = let (d, at, fails) = found in numbers-below d (line-over _ lines made line d at) field
      (test-names d.line c.row field fails)

  -- no reached path is longer than the fields
  path-fits : (budget : ℕ) (path : List Bool) (e : Event) → outcome_of c budget ≡ outcome.Overflow path e → nat_le (length path) (length c.survey.fields) ≡ true
  path-fits budget path e is = let few = ((reached-are c path).0 (stops-from c budget [] (reached_paths c) path e is).there).0 in grind (arith, nat_tests, few)

  pub event-there : (budget : ℕ) (path : List Bool) (e : Event) → outcome_of c budget ≡ outcome.Overflow path e → event_exists c.survey.fields path e ≡ true
  event-there budget path (event.Step first second place) is = true-both _ _ (path-fits budget path _ is)
      (step-there path first second place (step-shown c budget path first second place is))
  event-there budget path (event.Test line field) is = true-both _ _ (path-fits budget path _ is)
      (test-there path line field (test-shown c budget path line field is))
