use Rattle.std.proofs.Common.{◌≡◌, ℕ, suc, ◌+◌, ◌-◌, ◌<◌, ◌≤◌, ◌==◌, ◌||◌, not, Bool, true, false, if◌then◌else◌, List, [], ◌∷◌, All, IsSomeAnd, slice_get}
use Rattle.std.proofs.Common.{get_or, length, refl, sym, ◌∙◌, subst, arith}
use Rattle.std.proofs.lemmas.Bool.Decides.{Decides-eqb}
use Rattle.std.proofs.lemmas.List.{length-append}
use Rattle.std.proofs.lemmas.List.Elements.{All-append, All-cons, All-head, All-tail}
use Rattle.edit_model.specs.Corrections.{code_fields, is_numerical, number_fields, numbers_from, path_order}
use Rattle.edit_model.specs.FieldSets.{has_field}
use Rattle.edit_model.specs.declared.field.Field.{Field}
use Rattle.edit_model.specs.declared.field.Kind.{Kind}

-- The numbers of the fields of each kind, and the order in which fields are looked at.

-- ---- how many there are

parts-length : (i : ℕ) (fields : List Field) → length (numbers_from is_numerical i fields) + length (numbers_from (λ k. not (is_numerical k)) i fields)
    ≡ length fields
parts-length i [] = omega arith
parts-length i (field ∷ fields) = by (is_numerical field.kind) (parts-length (suc i) fields)
  where
    by : (b : Bool) → length (numbers_from is_numerical (suc i) fields) + length (numbers_from (λ k. not (is_numerical k)) (suc i) fields) ≡ length fields
        → length (if b then i ∷ numbers_from is_numerical (suc i) fields else numbers_from is_numerical (suc i) fields)
        + length (if not b then i ∷ numbers_from (λ k. not (is_numerical k)) (suc i) fields else numbers_from (λ k. not (is_numerical k)) (suc i) fields)
        ≡ suc (length fields)
    by true rest = omega (arith, rest)
    by false rest = omega (arith, rest)

-- each field is numerical or categorical
pub order-parts : (fields : List Field) → length (number_fields fields) + length (code_fields fields) ≡ length fields
order-parts fields = parts-length 0 fields

-- and stands in the path order
pub order-length : (fields : List Field) → length (path_order fields) ≡ length fields
order-length fields = length-append (number_fields fields) (code_fields fields) ∙ order-parts fields

-- ---- they are numbers of fields

below-from : (test : Kind → Bool) (i count : ℕ) (fields : List Field) → i + length fields ≤ count → All (λ f. f < count) (numbers_from test i fields)
below-from test i count [] fits = λ k d below. absurd (omega arith)
below-from test i count (field ∷ fields) fits = by (test field.kind) (below-from test (suc i) count fields (omega arith))
  where
    by : (b : Bool) → All (λ f. f < count) (numbers_from test (suc i) fields) → All (λ f. f < count)
        (if b then i ∷ numbers_from test (suc i) fields else numbers_from test (suc i) fields)
    by true rest = All-cons (λ f. f < count) i (numbers_from test (suc i) fields) (omega arith) rest
    by false rest = rest

-- those of one kind are below any bound on the number of fields
pub numbers-below : (test : Kind → Bool) (count : ℕ) (fields : List Field) (numbers : List ℕ) → length fields ≤ count → numbers ≡ numbers_from test 0 fields
    → All (λ f. f < count) numbers
numbers-below test count fields numbers few are = subst (λ (ns : List ℕ). All (λ f. f < count) ns) (sym are) (below-from test 0 count fields (omega arith))

-- the number at a place is that of a field
pub own-number : (test : Kind → Bool) (fields : List Field) (numbers : List ℕ) (k : ℕ) → numbers ≡ numbers_from test 0 fields → k < length numbers
    → get_or numbers k 0 < length fields
own-number test fields numbers k are below = numbers-below test (length fields) fields numbers (omega arith) are k 0 below

-- what holds of all numbers of a list holds of one that is there
pub number-there : (P : ℕ → Type 0) (numbers : List ℕ) (f : ℕ) → has_field numbers f ≡ true → All P numbers → P f
number-there P [] f there all = absurd (cc)
number-there P (i ∷ numbers) f there all = by (i == f) (Decides-eqb i f).0 there (λ later. number-there P numbers f later (All-tail P i numbers all))
  where
    by : (b : Bool) → (b ≡ true → i ≡ f) → (b || has_field numbers f) ≡ true → (has_field numbers f ≡ true → P f) → P f
    by true same h later = subst P (same refl) (All-head P i numbers all)
    by false same h later = later h

-- a field of one kind is one of the fields
pub field-below : (test : Kind → Bool) (fields : List Field) (f : ℕ) → has_field (numbers_from test 0 fields) f ≡ true → f < length fields
field-below test fields f there = number-there (λ g. g < length fields) (numbers_from test 0 fields) f there
    (below-from test 0 (length fields) fields (omega arith))

kind-from : (test : Kind → Bool) (i f : ℕ) (fields : List Field) → has_field (numbers_from test i fields) f ≡ true → (i ≤ f)
    × IsSomeAnd (slice_get fields (f - i)) (λ (field : Field). test field.kind ≡ true)
kind-from test i f [] there = absurd (cc)
kind-from test i f (field ∷ fields) there = by (test field.kind) refl (kind-from test (suc i) f fields) there
  where
    later : (suc i ≤ f) × IsSomeAnd (slice_get fields (f - suc i)) (λ (g : Field). test g.kind ≡ true) → (i ≤ f)
        × IsSomeAnd (slice_get (field ∷ fields) (f - i)) (λ (g : Field). test g.kind ≡ true)
    later (past, there) =
        let next : suc (f - suc i) ≡ f - i = omega arith in
        (omega arith, subst (λ (k : ℕ). IsSomeAnd (slice_get (field ∷ fields) k) (λ (g : Field). test g.kind ≡ true)) next there)

    here : test field.kind ≡ true → i ≡ f → (i ≤ f) × IsSomeAnd (slice_get (field ∷ fields) (f - i)) (λ (g : Field). test g.kind ≡ true)
    here passes same =
        let first : 0 ≡ f - i = omega arith in
        (omega arith, subst (λ (k : ℕ). IsSomeAnd (slice_get (field ∷ fields) k) (λ (g : Field). test g.kind ≡ true)) first passes)

    by : (b : Bool) → test field.kind ≡ b → (has_field (numbers_from test (suc i) fields) f ≡ true → (suc i ≤ f)
        × IsSomeAnd (slice_get fields (f - suc i)) (λ (g : Field). test g.kind ≡ true))
        → has_field (if b then i ∷ numbers_from test (suc i) fields else numbers_from test (suc i) fields) f ≡ true → (i ≤ f)
        × IsSomeAnd (slice_get (field ∷ fields) (f - i)) (λ (g : Field). test g.kind ≡ true)
    by false passes rest found = later (rest found)
    by true passes rest found = at (i == f) (Decides-eqb i f).0 found
      where
        at : (b : Bool) → (b ≡ true → i ≡ f) → (b || has_field (numbers_from test (suc i) fields) f) ≡ true → (i ≤ f)
            × IsSomeAnd (slice_get (field ∷ fields) (f - i)) (λ (g : Field). test g.kind ≡ true)
        at true same h = here passes (same refl)
        at false same h = later (rest h)

-- and is of that kind
pub kind-there : (test : Kind → Bool) (fields : List Field) (f : ℕ) → has_field (numbers_from test 0 fields) f ≡ true
    → IsSomeAnd (slice_get fields f) (λ (field : Field). test field.kind ≡ true)
kind-there test fields f there =
    let own : f - 0 ≡ f = omega arith in
    subst (λ (k : ℕ). IsSomeAnd (slice_get fields k) (λ (field : Field). test field.kind ≡ true)) own (kind-from test 0 f fields there).1

-- a number in path order is that of a field
pub order-below : (fields : List Field) (place : ℕ) → place < length fields → get_or (path_order fields) place 0 < length fields
order-below fields place within =
    All-append (λ f. f < length fields) (number_fields fields) (code_fields fields) (below-from is_numerical 0 (length fields) fields (omega arith))
    (below-from (λ k. not (is_numerical k)) 0 (length fields) fields (omega arith)) place 0
    (omega (arith, order-length fields))
