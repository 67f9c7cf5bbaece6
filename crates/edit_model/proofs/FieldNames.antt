use Rattle.std.proofs.Common.{◌≡◌, ◌≢◌, inl, inr, ℕ, ◌+◌, ◌<◌, ◌≤◌, Bool, true, false, not, All, AllPairs, List, [], ◌∷◌, ◌++◌, get_or, length, take, position}
use Rattle.std.proofs.Common.{nat_lt, refl, sym, ap, ◌∙◌, subst, arith, Some, None, IsSomeAnd, slice_get}
use Rattle.std.specs.List.{position_or_len}
use Rattle.std.specs.Str.{bytes_eq}
use Rattle.std.proofs.lemmas.Bool.{cases_lt}
use Rattle.std.proofs.lemmas.Bool.Decides.{Decides-ltb}
use Rattle.std.proofs.lemmas.List.{get_or-map, get_or-take, get_or_default, length-map, length-take-le, map_more}
use Rattle.std.proofs.lemmas.List.Elements.{All-map}
use Rattle.std.proofs.lemmas.List.Quantifiers.{position-Some}
use Rattle.std.proofs.lemmas.List.Sums.{prefix_len_passes}
use Rattle.std.proofs.lemmas.Option.{slice_get_cases}
use Rattle.std.proofs.lemmas.Slice.Eq.{bytes_eq-Decides}
use Rattle.edit_model.proofs.NameLemmas.{false_from_not}
use Rattle.edit_model.proofs.TableLemmas.{position_of_name}
use Rattle.edit_model.specs.inner.Indexes.{names_of}
use Rattle.edit_model.specs.declared.field.Field.{Field}

-- the name at a place of the list of names is the name of the field there
name_at : (fields : List Field) (i : ℕ) (d : Field) (e : List ℕ) → i < length fields → get_or (names_of fields) i e ≡ (get_or fields i d).name
name_at fields i d e below = get_or-map (λ (f : Field). f.name) fields i d e below

-- a name that no name of the fields is, is the name of none of them
pub new_field : (fields : List Field) (name : List ℕ) → All (λ n. n ≢ name) (names_of fields) → All (λ (f : Field). f.name ≢ name) fields
new_field fields name new k d below same =
    new k d.name (subst (λ (n : ℕ). k < n) (sym (length-map fields (λ (f : Field). f.name))) below) (name_at fields k d d.name below ∙ same)

-- the element at a place, which has a name, among those that come after others
module _ {X : Type 0} (name_of : X → List ℕ) (xs : List X) (i : ℕ) (x : X) (below : i < length xs) (here : x ≡ get_or xs i x) where
  many_before : length (take i xs) ≡ i
  many_before = length-take-le i xs (omega arith)

  named_here : (d : X) → name_of (get_or xs i d) ≡ name_of x
  named_here d = ap name_of (get_or_default xs i d x below ∙ sym here)

  -- where all elements have distinct names, none before it has its name
  pub name_is_new : AllPairs (λ (y : X) (z : X). name_of y ≢ name_of z) xs → All (λ (y : X). name_of y ≢ name_of x) (take i xs)
  name_is_new distinct j d under same =
      let many = many_before in
      let earlier : j < i = omega arith in
      distinct j i d earlier below (ap name_of (sym (get_or-take i xs j d earlier)) ∙ same ∙ sym (named_here d))

  -- where the elements before it have distinct names and none has its name, the elements up to it have distinct names
  pub distinct_more : ((j k : ℕ) (d : X) → j < k → k < i → name_of (get_or xs j d) ≢ name_of (get_or xs k d))
      → All (λ (y : X). name_of y ≢ name_of x) (take i xs)
      → (j k : ℕ) (d : X) → j < k → k < i + 1 → name_of (get_or xs j d) ≢ name_of (get_or xs k d)
  distinct_more before new j k d earlier under same = elim (cases_lt k i) [
    | inl first ↦ before j k d earlier first same
    | inr last ↦
        let many = many_before in
        let at : k ≡ i = omega arith in
        new j d (omega arith) (ap name_of (get_or-take i xs j d (omega arith)) ∙ same ∙ ap (λ (n : ℕ). name_of (get_or xs n d)) at ∙ named_here d)
  ]

-- a table of the fields' names, up to the field at a place
module _ (fields : List Field) (i : ℕ) (table : List (List ℕ)) (field : Field) (below : i < length fields) (are : table ≡ names_of (take i fields))
    (here : field ≡ get_or fields i field) where
  -- with the field's name
  pub names_more : table ++ field.name ∷ [] ≡ names_of (take (i + 1) fields)
  names_more = ap (λ (ns : List (List ℕ)). ns ++ field.name ∷ []) are ∙ ap (λ (f : Field). names_of (take i fields) ++ f.name ∷ []) here
      ∙ sym (map_more (λ (f : Field). f.name) fields i field below)

  -- which is new to it, where the fields have distinct names
  pub still_new : AllPairs (λ (f : Field) (g : Field). f.name ≢ g.name) fields → All (λ n. n ≢ field.name) table
  still_new distinct =
      subst (λ (ns : List (List ℕ)). All (λ n. n ≢ field.name) ns) (sym are)
      (All-map (λ n. n ≢ field.name) (λ (f : Field). f.name) (take i fields) (name_is_new (λ (f : Field). f.name) fields i field below here distinct))

-- where no place passes a test, the first that does is past the end
past_all : (test : List ℕ → Bool) (names : List (List ℕ)) → position test names ≡ None → length names ≤ position_or_len test names
past_all test names missing = elim (cases_lt (position_or_len test names) (length names)) [
  | inl within ↦
      let tested : nat_lt (position_or_len test names) (length names) ≡ true = (Decides-ltb (position_or_len test names) (length names)).1 within in
      let found : position test names ≡ Some (position_or_len test names) = rw tested refl in absurd (cc (found, missing))
  | inr past ↦ past
]

-- a place among the fields is one among their names
same_place : (fields : List Field) (name : List ℕ) → position (λ (f : Field). bytes_eq name f.name) fields ≡ position (bytes_eq name) (names_of fields)
same_place fields name = position_of_name (λ (f : Field). f.name) (bytes_eq name) fields

-- the field at the place where a name was found has the name
pub found_field : (fields : List Field) (name : List ℕ) (i : ℕ) → position (λ (f : Field). bytes_eq name f.name) fields ≡ Some i
    → IsSomeAnd (slice_get fields i) (λ (f : Field). f.name ≡ name)
found_field fields name i found =
    let names = names_of fields in
    let place = position-Some (bytes_eq name) names i [] (sym (same_place fields name) ∙ found) in
    let many : length names ≡ length fields = simp (length-map) refl in
    let here : name ≡ get_or names i [] = (bytes_eq-Decides name (get_or names i [])).0 place.1 in
    elim ((slice_get_cases fields i).1) [
      | inl at ↦
          let named : (at.0).name ≡ name = ap (λ (f : Field). f.name) (sym at.3) ∙ sym (name_at fields i at.0 [] at.1) ∙ sym here in
          rw at.2 named
      | inr past ↦ absurd (omega (arith, past.0, place.0, many))
    ]

-- where the name was not found, no field has it
pub no_field : (fields : List Field) (name : List ℕ) → position (λ (f : Field). bytes_eq name f.name) fields ≡ None
    → All (λ (f : Field). f.name ≢ name) fields
no_field fields name missing k d below same =
    let names = names_of fields in
    let many : length names ≡ length fields = simp (length-map) refl in
    let all_before : length names ≤ position_or_len (bytes_eq name) names = past_all (bytes_eq name) names (sym (same_place fields name) ∙ missing) in
    let differs : not (bytes_eq name (get_or names k [])) ≡ true = prefix_len_passes (λ n. not (bytes_eq name n)) names k [] (omega arith) in
    let found : get_or names k [] ≡ name = name_at fields k d [] below ∙ same in
    let equal : bytes_eq name (get_or names k []) ≡ true = (bytes_eq-Decides name (get_or names k [])).1 (sym found) in
    let unequal : bytes_eq name (get_or names k []) ≡ false = false_from_not _ differs in cc
