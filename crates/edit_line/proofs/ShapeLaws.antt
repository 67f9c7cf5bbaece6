use Rattle.std.proofs.Common.{◌≡◌, ℕ, zero, suc, ◌+◌, ◌<◌, ◌≤◌, ◌==◌, ◌||◌, Bool, true, false, not, if◌then◌else◌, IsSomeAnd, slice_get, List, [], ◌∷◌, ◌++◌}
use Rattle.std.proofs.Common.{All, get_or, length, map, take, set, refl, sym, ap, ◌∙◌, arith}
use Rattle.std.proofs.lemmas.List.{map_more, take_all}
use Rattle.std.proofs.lemmas.Grind.{take-set_at}
use Rattle.std.proofs.lemmas.Bool.Decides.{Decides-eqb}
use Rattle.edit_line.specs.inner.CodeCounts.{code_count}
use Rattle.edit_model.specs.Corrections.{is_numerical}
use Rattle.edit_model.specs.Corrections as corrections
use Rattle.edit_model.specs.Points.{HasCodesFrom, IsInDomain, Point}
use Rattle.edit_model.specs.Surveys as surveys
use Rattle.edit_model.specs.Surveys.{IsField, IsKind}
use Rattle.edit_model.specs.declared.field.Field.{Field}
use Rattle.edit_model.specs.declared.field.Kind.{Kind}
use Rattle.edit_model.specs.declared.field.Kind.TheVariants as kind
use Rattle.edit_line.proofs.BoolLaws.{or_true}
use Rattle.edit_line.specs.Shapes.{Categorical, Domain, HasCodes, Numerical, code_fields, codes_from, domain_of, domain_with, domains_of, number_fields}
use Rattle.edit_line.specs.Shapes.{has_field, numbers_from, place_in, shape_of, whole_sets}

-- A survey's shape, and its fields of each kind.

-- a field of the survey has at most 64 codes
pub count_few : (k : Kind) → IsKind k → code_count k ≤ 64
count_few (kind.Number scale) is = omega arith
count_few (kind.Code codes) is = is.1

-- the number of codes tells the domain
count_tells : (k : Kind) → IsKind k → domain_with (code_count k) ≡ domain_of k
count_tells (kind.Number scale) is = refl
count_tells (kind.Code codes) is = some (length codes) is.0
  where
    some : (n : ℕ) → 1 ≤ n → domain_with n ≡ Categorical n
    some zero h = absurd (omega arith)
    some (suc n) h = refl

counts_tell : (fields : List Field) → All IsField fields → map domain_with (map (λ (f : Field). code_count f.kind) fields) ≡ shape_of fields
counts_tell [] are = refl
counts_tell (f ∷ fields) are =
    let here = count_tells f.kind (are 0 f (omega arith)).fits in
    let rest = counts_tell fields (λ k d below. are (suc k) d (omega arith)) in
    λ i. here i ∷ rest i

-- the counts up to a place, and so with the field there
pub counts_more : (fields : List Field) (codes : List ℕ) (i count : ℕ) (f : Field) → i < length fields → i < length codes → f ≡ get_or fields i f → count
    ≡ code_count f.kind
    → take i codes ≡ map (λ (f : Field). code_count f.kind) (take i fields) → take (i + 1) (set codes i count)
    ≡ map (λ (f : Field). code_count f.kind) (take (i + 1) fields)
counts_more fields codes i count f below within here is before =
    take-set_at codes i (i + 1) count refl within
    ∙ ap (λ ns. ns ++ count ∷ []) before
    ∙ ap (λ n. map (λ (f : Field). code_count f.kind) (take i fields) ++ n ∷ []) (is ∙ ap (λ (g : Field). code_count g.kind) here)
    ∙ sym (map_more (λ (f : Field). code_count f.kind) fields i f below)

-- the counts of all fields give the shape
pub domains-all : (fields : List Field) (codes : List ℕ) (i : ℕ) → All IsField fields → length fields ≡ i → take i codes
    ≡ map (λ (f : Field). code_count f.kind) (take i fields)
    → domains_of (length fields) codes ≡ shape_of fields
domains-all fields codes i are end counts =
    ap (λ n. map domain_with (take n codes)) end ∙ ap (λ ns. map domain_with ns) counts ∙ ap
    (λ (fs : List Field). map domain_with (map (λ (f : Field). code_count f.kind) fs)) (take_all i fields (omega arith)) ∙ counts_tell fields are

-- ---- the fields of each kind are those of the survey

numbers-from : (i : ℕ) (fields : List Field) → numbers_from i (shape_of fields) ≡ corrections.numbers_from is_numerical i fields
numbers-from i [] = refl
numbers-from i (f ∷ fields) = by f.kind (numbers-from (suc i) fields)
  where
    by : (k : Kind) → numbers_from (suc i) (shape_of fields) ≡ corrections.numbers_from is_numerical (suc i) fields
        → numbers_from i (domain_of k ∷ shape_of fields)
        ≡ (if is_numerical k then i ∷ corrections.numbers_from is_numerical (suc i) fields else corrections.numbers_from is_numerical (suc i) fields)
    by (kind.Number scale) e = ap (λ ns. i ∷ ns) e
    by (kind.Code codes) e = e

pub number_fields-same : (fields : List Field) → number_fields (shape_of fields) ≡ corrections.number_fields fields
number_fields-same fields = numbers-from 0 fields

codes-from : (i : ℕ) (fields : List Field) → codes_from i (shape_of fields) ≡ corrections.numbers_from (λ k. not (is_numerical k)) i fields
codes-from i [] = refl
codes-from i (f ∷ fields) = by f.kind (codes-from (suc i) fields)
  where
    by : (k : Kind) → codes_from (suc i) (shape_of fields) ≡ corrections.numbers_from (λ k. not (is_numerical k)) (suc i) fields
        → codes_from i (domain_of k ∷ shape_of fields)
        ≡ (if not (is_numerical k) then i ∷ corrections.numbers_from (λ k. not (is_numerical k)) (suc i) fields else corrections.numbers_from
        (λ k. not (is_numerical k)) (suc i) fields)
    by (kind.Number scale) e = e
    by (kind.Code codes) e = ap (λ ns. i ∷ ns) e

pub code_fields-same : (fields : List Field) → code_fields (shape_of fields) ≡ corrections.code_fields fields
code_fields-same fields = codes-from 0 fields

-- the numerical fields of a survey, by a shape that is its own
pub same_fields : (numbers : List ℕ) (fields : List Field) (shape : List Domain) → numbers ≡ corrections.number_fields fields → shape ≡ shape_of fields
    → numbers ≡ number_fields shape
same_fields numbers fields shape are is = are ∙ sym (number_fields-same fields) ∙ ap (λ (s : List Domain). number_fields s) (sym is)

-- the categorical fields of a survey, by a shape that is its own
pub same_codes : (codes : List ℕ) (fields : List Field) (shape : List Domain) → codes ≡ corrections.code_fields fields → shape ≡ shape_of fields → codes
    ≡ code_fields shape
same_codes codes fields shape are is = are ∙ sym (code_fields-same fields) ∙ ap (λ (s : List Domain). code_fields s) (sym is)

-- there is a whole set for each categorical field
pub length-wholes : (i : ℕ) (shape : List Domain) → length (whole_sets shape) ≡ length (codes_from i shape)
length-wholes i [] = refl
length-wholes i (Numerical ∷ shape) = length-wholes (suc i) shape
length-wholes i (Categorical k ∷ shape) = let rest = length-wholes (suc i) shape in omega arith

-- a field's place among the categorical ones
pub place-within : (fields : List ℕ) (f : ℕ) → has_field fields f ≡ true → place_in fields f < length fields
place-within [] f there = absurd (cc)
place-within (i ∷ fields) f there = by (i == f) (place-within fields f) there
  where
    by : (b : Bool) → (has_field fields f ≡ true → place_in fields f < length fields) → (b || has_field fields f) ≡ true
        → (if b then 0 else suc (place_in fields f)) < suc (length fields)
    by true rest h = omega arith
    by false rest h = let below = rest h in omega arith

-- ---- a survey's field in its shape

own_number : (i k : ℕ) → k ≡ 0 → (i == (i + k)) ≡ true
own_number i k none = (Decides-eqb i (i + k)).1 (omega arith)

-- a field on which a set of codes is given is categorical
pub codes-there : (i k set : ℕ) (fields : List Field) → IsSomeAnd (slice_get fields k) (λ (f : Field). surveys.IsSetOf f.kind set)
    → has_field (codes_from i (shape_of fields)) (i + k) ≡ true
codes-there i k set [] there = absurd there
codes-there i zero set (f ∷ fields) there = by f.kind there
  where
    by : (kind_of : Kind) → surveys.IsSetOf kind_of set → has_field (codes_from i (domain_of kind_of ∷ shape_of fields)) (i + 0) ≡ true
    by (kind.Number scale) h = absurd h
    by (kind.Code codes) h = ap (λ b. b || has_field (codes_from (suc i) (shape_of fields)) (i + 0)) (own_number i 0 refl)
codes-there i (suc k) set (f ∷ fields) there = by f.kind (ap (λ n. has_field (codes_from (suc i) (shape_of fields)) n) next
    ∙ codes-there (suc i) k set fields there)
  where
    next : i + suc k ≡ suc i + k
    next = omega arith

    by : (kind_of : Kind) → has_field (codes_from (suc i) (shape_of fields)) (i + suc k) ≡ true
        → has_field (codes_from i (domain_of kind_of ∷ shape_of fields)) (i + suc k) ≡ true
    by (kind.Number scale) h = h
    by (kind.Code codes) h = ap (λ b. (i == (i + suc k)) || b) h ∙ or_true (i == (i + suc k))

-- a field that is numerical in the survey is so in its shape
pub number-there : (i k : ℕ) (fields : List Field) → IsSomeAnd (slice_get fields k) (λ (f : Field). surveys.IsNumber f.kind)
    → has_field (numbers_from i (shape_of fields)) (i + k) ≡ true
number-there i k [] there = absurd there
number-there i zero (f ∷ fields) there = by f.kind there
  where
    by : (kind_of : Kind) → surveys.IsNumber kind_of → has_field (numbers_from i (domain_of kind_of ∷ shape_of fields)) (i + 0) ≡ true
    by (kind.Number scale) h = ap (λ b. b || has_field (numbers_from (suc i) (shape_of fields)) (i + 0)) (own_number i 0 refl)
    by (kind.Code codes) h = absurd h
number-there i (suc k) (f ∷ fields) there = by f.kind (ap (λ n. has_field (numbers_from (suc i) (shape_of fields)) n) next
    ∙ number-there (suc i) k fields there)
  where
    next : i + suc k ≡ suc i + k
    next = omega arith

    by : (kind_of : Kind) → has_field (numbers_from (suc i) (shape_of fields)) (i + suc k) ≡ true
        → has_field (numbers_from i (domain_of kind_of ∷ shape_of fields)) (i + suc k) ≡ true
    by (kind.Number scale) h = ap (λ b. (i == (i + suc k)) || b) h ∙ or_true (i == (i + suc k))
    by (kind.Code codes) h = h

-- a point with codes of their domains, by the survey's fields and by its shape
pub HasCodes-shape : (i : ℕ) (fields : List Field) (p : Point) → HasCodesFrom i fields p → HasCodes i (shape_of fields) p
HasCodes-shape i [] p held = tt
HasCodes-shape i (f ∷ fields) p held = by f.kind held.0 (HasCodes-shape (suc i) fields p held.1)
  where
    by : (kind_of : Kind) → IsInDomain kind_of (p.code i) → HasCodes (suc i) (shape_of fields) p → HasCodes i (domain_of kind_of ∷ shape_of fields) p
    by (kind.Number scale) h rest = rest
    by (kind.Code codes) h rest = (h, rest)

-- and the other way round
pub HasCodes-fields : (i : ℕ) (fields : List Field) (p : Point) → HasCodes i (shape_of fields) p → HasCodesFrom i fields p
HasCodes-fields i [] p held = tt
HasCodes-fields i (f ∷ fields) p held = by f.kind (HasCodes-fields (suc i) fields p) held
  where
    by : (kind_of : Kind) → (HasCodes (suc i) (shape_of fields) p → HasCodesFrom (suc i) fields p) → HasCodes i (domain_of kind_of ∷ shape_of fields) p
        → IsInDomain kind_of (p.code i) × HasCodesFrom (suc i) fields p
    by (kind.Number scale) rest h = (tt, rest h)
    by (kind.Code codes) rest h = (h.0, rest h.1)
