-- A field is found again by its name.
use Rattle.std.proofs.Common.{◌≡◌, ◌≢◌, ◌∙◌, refl, ap, subst, ℕ, ◌<◌, List, length, get_or, arith}
use Rattle.std.proofs.lemmas.Bool.{eq-eqb, lt-ltb, ne_eqb, not_from_false, not_from_true}
use Rattle.std.proofs.lemmas.List.Folds.{find_at}
use Rattle.std.proofs.lemmas.List.Sums.{prefix_len_is}
use Rattle.std.proofs.lemmas.Option.{get_or_from_slice_get, slice_get_within}
use Rattle.std.specs.Prelude.{AllPairs, IsSomeAnd, None, Option, Some, not, slice_get}
use Rattle.std.specs.List.{position_or_len}
use Rattle.std.specs.Str.{bytes_eq}
use Rattle.edit_model.specs.declared.field.Field.{Field}
use Rattle.edit_language.specs.Meaning.{field_named, number_named}
use Rattle.edit_language.specs.Printing.{name_at}
use Rattle.edit_language.proofs.PrintingSums.{names_differ}

-- an option that has an element with a property
pub some_with : {X : Type 0} (P : X → Type 0) (o : Option X) → IsSomeAnd o P → (x : X) × (o ≡ Some x) × P x
some_with P None h = absurd h
some_with P (Some x) h = (x, refl, h)

-- the first field with the name of field i is field i
place_is : (fields : List Field) (i : ℕ) (d : Field) → AllPairs (λ (f : Field) (g : Field). f.name ≢ g.name) fields → i < length fields
    → position_or_len (λ (f : Field). bytes_eq f.name (get_or fields i d).name) fields ≡ i
place_is fields i d distinct here =
    prefix_len_is (λ (f : Field). not (bytes_eq f.name (get_or fields i d).name)) fields i d (omega arith)
    (λ k before. not_from_false _ (names_differ fields k i d distinct (omega arith) here ∙ ne_eqb k i (λ e. omega arith)))
    (λ _. not_from_true _ (names_differ fields i i d distinct here here ∙ eq-eqb i i refl))

-- field i has a name that is found again
pub record IsFound (fields : List Field) (i : ℕ) (f : Field) : Type 0 where
  pub name : name_at fields i ≡ f.name
  pub number : number_named fields f.name ≡ Some i
  pub field : field_named fields f.name ≡ Some f

pub found : (fields : List Field) (i : ℕ) (f : Field) → AllPairs (λ (f : Field) (g : Field). f.name ≢ g.name) fields → slice_get fields i ≡ Some f
    → IsFound fields i f
found fields i f distinct is =
    let here = slice_get_within fields i f is in
    let same : get_or fields i f ≡ f = get_or_from_slice_get fields i f f is in
    let named = λ (g : Field). bytes_eq g.name f.name in
    let place : position_or_len named fields ≡ i = subst (λ (g : Field). position_or_len (λ (h : Field). bytes_eq h.name g.name) fields ≡ i) same
    (place_is fields i f distinct here) in
    record {
      name = rw is refl;
      number = rw (place, lt-ltb i (length fields) here) refl;
      field = find_at named fields ∙ ap (slice_get fields) place ∙ is;
    }
