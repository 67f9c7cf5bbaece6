use Rattle.std.proofs.Common.{◌≡◌, ℕ, ◌&&◌, ◌||◌, Bool, true, false, List, [], ◌∷◌, ◌++◌, ℤ, pos, Option, Some, None, Result, Ok, Err, if◌then◌else◌, length}
use Rattle.std.proofs.Common.{slice_get, refl, sym, ap, ◌∙◌}
use Rattle.std.specs.Option.{ok_or}
use Rattle.std.specs.Ordering.{int_eq}
use Rattle.std.specs.Result.{result_unwrap_or}
use Rattle.foundation.specs.Results.{◌>>=◌}
use Rattle.foundation.specs.Options.{◌>>?◌}
use Rattle.edit_model.specs.FieldSets.{has_number}
use Rattle.edit_model.specs.Rows.{value_of}
use Rattle.edit_model.specs.declared.value.Value.{Value}
use Rattle.edit_line.specs.Boxes.{box_of}
use Rattle.edit_line.specs.Lines.{LineParts}
use Rattle.edit_line.specs.Shapes.{Domain, code_fields, has_field, number_fields}
use Rattle.edit_line.specs.Sums.{fails_at, stands_only}
use Rattle.derivation.specs.Premises.{Premises, premises_of}
use Rattle.derivation.specs.ValidSteps.{as_box, as_line, failed_box, fails_at_kept, fixed_sets, last_from, only_if, proved_by, proved_from, steps_result}
use Rattle.derivation.specs.declared.proved.Proved.{Proved}
use Rattle.derivation.specs.declared.proved.Proved.TheVariants as proved
use Rattle.derivation.specs.declared.step.Step.{Step}
use Rattle.derivation.specs.declared.step.Step.TheVariants as step
use Rattle.bound_cert.specs.ValidTrees.{Refutes}

-- Steps stay valid where the record keeps more fields.

module _ (shape : List Domain) (given : List LineParts) (usable : List Bool) (row : List Value) (kept more : ℕ)
    (inside : (f : ℕ) → has_number kept f ≡ true → has_number more f ≡ true) where
  abbrev few : Premises
  few = premises_of shape given usable row kept

  abbrev many : Premises
  many = premises_of shape given usable row more

  stands-more : (fields : List ℕ) (factors : List ℤ) → stands_only (has_number kept) fields factors ≡ true → stands_only (has_number more) fields factors ≡ true
  stands-more [] [] h = refl
  stands-more [] (a ∷ factors) h = refl
  stands-more (f ∷ fields) [] h = refl
  stands-more (f ∷ fields) (a ∷ factors) h = by (int_eq a (pos 0)) (has_number kept f) (has_number more f) (inside f) (stands-more fields factors) h
    where
      by : (z k m : Bool) → (k ≡ true → m ≡ true) → (stands_only (has_number kept) fields factors ≡ true → stands_only (has_number more) fields factors ≡ true)
          → ((z || k) && stands_only (has_number kept) fields factors) ≡ true → ((z || m) && stands_only (has_number more) fields factors) ≡ true
      by true k m in_more rest h = rest h
      by false true true in_more rest h = rest h
      by false true false in_more rest h = absurd (cc (in_more refl))
      by false false m in_more rest h = absurd (cc)

  pub fails-more : (line : LineParts) → fails_at_kept row kept line ≡ true → fails_at_kept row more line ≡ true
  fails-more line h =
      by (stands_only (has_number kept) (number_fields line.shape) line.factors) (stands_only (has_number more) (number_fields line.shape) line.factors)
      (stands-more (number_fields line.shape) line.factors) (result_unwrap_or (fails_at line row) false) h
    where
      by : (k m : Bool) → (k ≡ true → m ≡ true) → (b : Bool) → (k && b) ≡ true → (m && b) ≡ true
      by true true in_more b h = h
      by true false in_more b h = absurd (cc (in_more refl))
      by false m in_more b h = absurd (cc)

  step-more : (earlier : List Proved) (s : Step) (x : Proved) → proved_by few earlier s ≡ Some x → proved_by many earlier s ≡ Some x
  step-more earlier (step.Given place) x h = h
  step-more earlier (step.Combine a m b n g) x h = h
  step-more earlier (step.Cover field parts) x h = h
  step-more earlier (step.Fail a) x h = by (as_line (slice_get earlier a)) h
    where
      by : (o : Option LineParts) → (o >>? (λ line. failed_box few line)) ≡ Some x → (o >>? (λ line. failed_box many line)) ≡ Some x
      by None h = h
      by (Some line) h = fits (fails_at_kept row kept line) (fails_at_kept row more line) (fails-more line) (failed_box many line) h
        where
          fits : (k m : Bool) → (k ≡ true → m ≡ true) → (o : Option Proved) → only_if k (proved.Box (box_of shape line.sets)) ≡ Some x
              → only_if m (proved.Box (box_of shape line.sets)) ≡ Some x
          fits true true in_more o h = h
          fits true false in_more o h = absurd (cc (in_more refl))
          fits false m in_more o h = absurd (cc)
  step-more earlier (step.Fix field part) x h =
      by (has_field (code_fields shape) field) (has_number kept field) (has_number more field) (inside field)
      (as_box (slice_get earlier part) >>? (λ sets. fixed_sets shape field (value_of row field) sets)) h
    where
      by : (c k m : Bool) → (k ≡ true → m ≡ true) → (o : Option Proved) → (if c && k then o else None) ≡ Some x → (if c && m then o else None) ≡ Some x
      by true true true in_more o h = h
      by true true false in_more o h = absurd (cc (in_more refl))
      by true false m in_more o h = absurd (cc)
      by false k m in_more o h = absurd (cc)

  steps-more : (earlier : List Proved) (steps : List Step) (all : List Proved) → proved_from few earlier steps ≡ Ok all
      → proved_from many earlier steps ≡ Ok all
  steps-more earlier [] all h = h
  steps-more earlier (s ∷ steps) all h = by (λ x. steps-more (earlier ++ x ∷ []) steps all) (proved_by few earlier s) refl (proved_by many earlier s) refl h
    where
      by : ((x : Proved) → proved_from few (earlier ++ x ∷ []) steps ≡ Ok all → proved_from many (earlier ++ x ∷ []) steps ≡ Ok all)
          → (o : Option Proved) → proved_by few earlier s ≡ o → (q : Option Proved) → proved_by many earlier s ≡ q
          → (ok_or o (length earlier) >>= (λ x. proved_from few (earlier ++ x ∷ []) steps)) ≡ Ok all
          → (ok_or q (length earlier) >>= (λ x. proved_from many (earlier ++ x ∷ []) steps)) ≡ Ok all
      by rest None e q f h = absurd (cc)
      by rest (Some x) e (Some y) f h =
          let same : Some x ≡ Some y = sym (step-more earlier s x e) ∙ f in
          ap (λ o. ok_or o (length earlier) >>= (λ x. proved_from many (earlier ++ x ∷ []) steps)) (sym same) ∙ rest x h
      by rest (Some x) e None f h = absurd (cc (sym (step-more earlier s x e) ∙ f))

  -- what the steps prove, they prove with more kept fields
  pub valid-more : (steps : List Step) (x : Proved) → steps_result few steps ≡ Ok x → steps_result many steps ≡ Ok x
  valid-more steps x h = by (proved_from few [] steps) refl h
    where
      by : (r : Result (List Proved) ℕ) → proved_from few [] steps ≡ r → (r >>= (λ all. last_from None all)) ≡ Ok x → steps_result many steps ≡ Ok x
      by (Ok all) e h = ap (λ r. r >>= (λ all. last_from None all)) (steps-more [] steps all e) ∙ h
      by (Err place) e h = absurd (cc)

  pub refutes-more : (x : Proved) → Refutes few x → Refutes many x
  refutes-more (proved.Line line) (whole, fails) = (whole, fails-more line fails)
  refutes-more (proved.Box b) whole = whole
