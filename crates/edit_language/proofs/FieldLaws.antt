-- The fields that a statement names, and the tests of a rule.
use Rattle.std.proofs.Common.{◌≡◌, ℕ, ◌<◌, ◌≤◌, ◌||◌, Bool, false, All, List, [], ◌∷◌, ◌++◌, get_or, length, Option, Some, sym, ap, ◌∙◌, arith}
use Rattle.std.specs.List.{list_any}
use Rattle.std.specs.Str.{bytes_eq}
use Rattle.std.proofs.lemmas.Bool.{both_ways, cond_both, false_from_ne_true, or_parts}
use Rattle.std.proofs.Math.Bool.{or-false}
use Rattle.std.proofs.lemmas.List.Elements.{All-head, All-tail}
use Rattle.std.proofs.lemmas.List.Folds.{list_any-append, list_any_at}
use Rattle.edit_model.specs.Surveys.{IsField, IsKind}
use Rattle.edit_model.specs.declared.field.Field.{Field}
use Rattle.edit_model.specs.declared.field.Kind.{Kind}
use Rattle.edit_model.specs.declared.field.Kind.TheVariants as kind
use Rattle.edit_language.specs.Meaning.{kind_codes, field_codes, field_named}

-- the last of a list fails a test that all of it fail
pub last_fails : {X : Type 0} (p : X → Bool) (xs : List X) (y : X) → list_any p (xs ++ y ∷ []) ≡ false → p y ≡ false
last_fails p xs y none = (or_parts (p y) false (or_parts (list_any p xs) (p y || false) (sym (list_any-append p xs (y ∷ [])) ∙ none)).1).0

-- where no element passes, that at a place does not
pub fails_at : {X : Type 0} (p : X → Bool) (xs : List X) (i : ℕ) (x : X) → list_any p xs ≡ false → i < length xs → x ≡ get_or xs i x → p x ≡ false
fails_at p xs i x none within here = false_from_ne_true (p x) (λ yes. both_ways _ none (list_any_at p xs i x within (ap p (sym here) ∙ yes)))

-- where the first of a list fail a test, the last decides
pub last_decides : {X : Type 0} (p : X → Bool) (xs ys : List X) (y : X) (answer : Bool) → ys ≡ xs → list_any p ys ≡ false → answer ≡ p y
    → answer ≡ list_any p (xs ++ y ∷ [])
last_decides p xs ys y answer same none is =
    let fails : list_any p xs ≡ false = ap (list_any p) (sym same) ∙ none in
    sym (list_any-append p xs (y ∷ []) ∙ rw (fails, or-false) (sym is))

-- a field has 64 codes at most
pub few_codes : (fields : List Field) (name : List ℕ) → All IsField fields → length (field_codes (field_named fields name)) ≤ 64
few_codes [] name all = omega arith
few_codes (f ∷ fields) name all = cond_both (bytes_eq f.name name) (Some f) (field_named fields name) (λ (o : Option Field). length (field_codes o) ≤ 64)
    (λ _. few f.kind (All-head IsField f fields all).fits) (λ _. few_codes fields name (All-tail IsField f fields all))
  where
    few : (k : Kind) → IsKind k → length (kind_codes k) ≤ 64
    few (kind.Number scale) fits = omega arith
    few (kind.Code codes) fits = fits.1
