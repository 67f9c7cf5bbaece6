use Rattle.std.proofs.Common.{◌≡◌, ℕ, zero, suc, ◌+◌, ◌-◌, ◌<◌, ◌≤◌, ◌^◌, ◌==◌, ◌&&◌, nat_eq, if◌then◌else◌, Bool, true, false, List, [], ◌∷◌, length, map}
use Rattle.std.proofs.Common.{slice_index_or, slice_set, refl, sym, ap, ◌∙◌, arith, All, ◌||◌, subst}
use Rattle.std.specs.List.{list_all}
use Rattle.std.proofs.lemmas.Bool.Decides.{Decides-eqb}
use Rattle.std.proofs.lemmas.List.{length-map}
use Rattle.std.proofs.lemmas.Nat.Bits.{bit_at_ones}
use Rattle.edit_line.specs.inner.LineFields.{IsCategorical}
use Rattle.edit_model.specs.Points.{Point, has_code}
use Rattle.edit_model.specs.Surveys.{IsField, IsKind}
use Rattle.edit_model.specs.declared.field.Field.{Field}
use Rattle.edit_model.specs.declared.field.Kind.{Kind}
use Rattle.edit_model.specs.declared.field.Kind.TheVariants as kind
use Rattle.edit_line.proofs.SetLaws.{and_false}
use Rattle.edit_line.specs.Sets.{are_codes_in}
use Rattle.edit_line.specs.Shapes.{Categorical, Domain, HasCodes, Numerical, codes_at, code_fields, codes_from, place_in, whole_sets, domain_of, has_field}
use Rattle.edit_line.specs.Shapes.{shape_of}
use Rattle.edit_line.specs.CodeFields.{TakesCodes, codes_of, codes_up, place_of, size_from, size_of, whole_of, with_code_at}

-- A field of a shape, and the codes of a point.

not_self : (i j : ℕ) → j < i → (i == j) ≡ false
not_self i j less = by (i == j) refl
  where
    by : (b : Bool) → (i == j) ≡ b → b ≡ false
    by true e = absurd (omega (arith, (Decides-eqb i j).0 e))
    by false e = refl

-- the later fields keep their codes
codes-others : (i : ℕ) (shape : List Domain) (p : Point) (f code : ℕ) → f < i → map (with_code_at p f code).code (codes_from i shape)
    ≡ map p.code (codes_from i shape)
codes-others i [] p f code less = refl
codes-others i (Numerical ∷ shape) p f code less = codes-others (suc i) shape p f code (omega arith)
codes-others i (Categorical k ∷ shape) p f code less =
    ap (λ b. (if b then code else p.code i) ∷ map (with_code_at p f code).code (codes_from (suc i) shape)) (not_self i f less)
    ∙ ap (λ cs. p.code i ∷ cs) (codes-others (suc i) shape p f code (omega arith))

-- the codes with one more at the field's place
codes-with : (i : ℕ) (shape : List Domain) (p : Point) (f code : ℕ) → map (with_code_at p f code).code (codes_from i shape)
    ≡ slice_set (map p.code (codes_from i shape)) (place_in (codes_from i shape) f) code
codes-with i [] p f code = refl
codes-with i (Numerical ∷ shape) p f code = codes-with (suc i) shape p f code
codes-with i (Categorical k ∷ shape) p f code = by (i == f) refl (codes-with (suc i) shape p f code)
  where
    by : (b : Bool) → (i == f) ≡ b
        → map (with_code_at p f code).code (codes_from (suc i) shape) ≡ slice_set (map p.code (codes_from (suc i) shape))
        (place_in (codes_from (suc i) shape) f) code
        → ((if b then code else p.code i) ∷ map (with_code_at p f code).code (codes_from (suc i) shape))
        ≡ slice_set (p.code i ∷ map p.code (codes_from (suc i) shape)) (if b then 0 else suc (place_in (codes_from (suc i) shape) f)) code
    by true e rest = ap (λ cs. code ∷ cs) (codes-others (suc i) shape p f code (omega (arith, (Decides-eqb i f).0 e)))
    by false e rest = ap (λ cs. p.code i ∷ cs) rest

pub codes_at-with : (shape : List Domain) (p : Point) (f code : ℕ) → codes_at shape (with_code_at p f code)
    ≡ slice_set (codes_at shape p) (place_of shape f) code
codes_at-with shape p f code = codes-with 0 shape p f code

place-below : (i : ℕ) (shape : List Domain) (f : ℕ) → 0 < size_from i shape f → place_in (codes_from i shape) f < length (codes_from i shape)
place-below i [] f some = absurd (omega arith)
place-below i (Numerical ∷ shape) f some = place-below (suc i) shape f some
place-below i (Categorical k ∷ shape) f some = by (i == f) (place-below (suc i) shape f) some
  where
    by : (b : Bool) → (0 < size_from (suc i) shape f → place_in (codes_from (suc i) shape) f < length (codes_from (suc i) shape))
        → 0 < (if b then k else size_from (suc i) shape f)
        → (if b then 0 else suc (place_in (codes_from (suc i) shape) f)) < suc (length (codes_from (suc i) shape))
    by true rest h = omega arith
    by false rest h = let below = rest h in omega arith

pub place_of-below : (shape : List Domain) (f : ℕ) → TakesCodes shape f → place_of shape f < length (code_fields shape)
place_of-below shape f some = place-below 0 shape f some

whole-from : (i : ℕ) (shape : List Domain) (f : ℕ) → 0 < size_from i shape f → slice_index_or (whole_sets shape) (place_in (codes_from i shape) f) 0
    ≡ 2 ^ size_from i shape f - 1
whole-from i [] f some = absurd (omega arith)
whole-from i (Numerical ∷ shape) f some = whole-from (suc i) shape f some
whole-from i (Categorical k ∷ shape) f some = by (i == f) (whole-from (suc i) shape f) some
  where
    by : (b : Bool) → (0 < size_from (suc i) shape f → slice_index_or (whole_sets shape) (place_in (codes_from (suc i) shape) f) 0
        ≡ 2 ^ size_from (suc i) shape f - 1) → 0 < (if b then k else size_from (suc i) shape f)
        → slice_index_or ((2 ^ k - 1) ∷ whole_sets shape) (if b then 0 else suc (place_in (codes_from (suc i) shape) f)) 0
        ≡ 2 ^ (if b then k else size_from (suc i) shape f) - 1
    by true rest h = refl
    by false rest h = rest h

-- the whole set has all codes of the field
pub whole_of-is : (shape : List Domain) (f : ℕ) → TakesCodes shape f → whole_of shape f ≡ 2 ^ size_of shape f - 1
whole_of-is shape f some = whole-from 0 shape f some

ones-have : (k code : ℕ) → code < k → has_code (2 ^ k - 1) code ≡ true
ones-have k code below = ap (λ n. nat_eq n 1) (bit_at_ones k code below)

pub whole_of-has : (shape : List Domain) (f code : ℕ) → code < size_of shape f → has_code (whole_of shape f) code ≡ true
whole_of-has shape f code below = ap (λ w. has_code w code) (whole_of-is shape f (omega arith)) ∙ ones-have (size_of shape f) code below

-- and so each of its codes
all-have : (whole i k n : ℕ) → ((code : ℕ) → code < n → has_code whole code ≡ true) → i + k ≤ n → list_all (has_code whole) (codes_up i k) ≡ true
all-have whole i zero n each fits = refl
all-have whole i (suc k) n each fits = ap (λ b. b && list_all (has_code whole) (codes_up (suc i) k)) (each i (omega arith))
    ∙ all-have whole (suc i) k n each (omega arith)

pub whole_of-all : (shape : List Domain) (f : ℕ) → list_all (has_code (whole_of shape f)) (codes_of shape f) ≡ true
whole_of-all shape f = all-have (whole_of shape f) 0 (size_of shape f) (size_of shape f) (λ code below. whole_of-has shape f code below) (omega arith)

-- codes of their domains are in the whole sets
wholes-from : (i : ℕ) (shape : List Domain) (p : Point) → HasCodes i shape p → are_codes_in (whole_sets shape) (map p.code (codes_from i shape)) ≡ true
wholes-from i [] p held = refl
wholes-from i (Numerical ∷ shape) p held = wholes-from (suc i) shape p held
wholes-from i (Categorical k ∷ shape) p held =
    ap (λ b. b && are_codes_in (whole_sets shape) (map p.code (codes_from (suc i) shape))) (ones-have k (p.code i) held.0) ∙ wholes-from (suc i) shape p held.1

pub wholes-inside : (shape : List Domain) (p : Point) → HasCodes 0 shape p → are_codes_in (whole_sets shape) (codes_at shape p) ≡ true
wholes-inside shape p held = wholes-from 0 shape p held

-- the point's code at the field is in the field's whole set
whole-code : (i : ℕ) (shape : List Domain) (p : Point) (f : ℕ) → 0 < size_from i shape f → HasCodes i shape p
    → has_code (slice_index_or (whole_sets shape) (place_in (codes_from i shape) f) 0) (slice_index_or (map p.code (codes_from i shape))
    (place_in (codes_from i shape) f) 0) ≡ true
whole-code i [] p f some held = absurd (omega arith)
whole-code i (Numerical ∷ shape) p f some held = whole-code (suc i) shape p f some held
whole-code i (Categorical k ∷ shape) p f some held = by (i == f) (λ some. whole-code (suc i) shape p f some held.1) some
  where
    by : (b : Bool)
        → (0 < size_from (suc i) shape f → has_code (slice_index_or (whole_sets shape) (place_in (codes_from (suc i) shape) f) 0)
        (slice_index_or (map p.code (codes_from (suc i) shape)) (place_in (codes_from (suc i) shape) f) 0) ≡ true)
        → 0 < (if b then k else size_from (suc i) shape f)
        → has_code (slice_index_or ((2 ^ k - 1) ∷ whole_sets shape) (if b then 0 else suc (place_in (codes_from (suc i) shape) f)) 0)
        (slice_index_or (p.code i ∷ map p.code (codes_from (suc i) shape)) (if b then 0 else suc (place_in (codes_from (suc i) shape) f)) 0)
        ≡ true
    by true rest h = ones-have k (p.code i) held.0
    by false rest h = rest h

pub whole_of-code : (shape : List Domain) (p : Point) (f : ℕ) → TakesCodes shape f → HasCodes 0 shape p
    → has_code (whole_of shape f) (slice_index_or (codes_at shape p) (place_of shape f) 0) ≡ true
whole_of-code shape p f some held = whole-code 0 shape p f some held

pub length-codes_at : (shape : List Domain) (p : Point) → length (codes_at shape p) ≡ length (code_fields shape)
length-codes_at shape p = length-map (code_fields shape) p.code

-- a categorical field of a survey takes codes
takes-from : (i : ℕ) (fields : List Field) (f : ℕ) → All IsField fields → has_field (codes_from i (shape_of fields)) f ≡ true
    → 0 < size_from i (shape_of fields) f
takes-from i [] f are there = absurd (cc)
takes-from i (g ∷ fields) f are there = by g.kind (are 0 g (omega arith)).fits (takes-from (suc i) fields f (λ k d below. are (suc k) d (omega arith))) there
  where
    by : (k : Kind) → IsKind k → (has_field (codes_from (suc i) (shape_of fields)) f ≡ true → 0 < size_from (suc i) (shape_of fields) f)
        → has_field (codes_from i (domain_of k ∷ shape_of fields)) f ≡ true → 0 < size_from i (domain_of k ∷ shape_of fields) f
    by (kind.Number scale) is rest h = rest h
    by (kind.Code codes) is rest h = here (i == f) rest h
      where
        here : (b : Bool) → (has_field (codes_from (suc i) (shape_of fields)) f ≡ true → 0 < size_from (suc i) (shape_of fields) f)
            → (b || has_field (codes_from (suc i) (shape_of fields)) f) ≡ true
            → 0 < (if b then length codes else size_from (suc i) (shape_of fields) f)
        here true rest h = is.0
        here false rest h = rest h

pub takes-codes : (fields : List Field) (f : ℕ) → All IsField fields → IsCategorical (shape_of fields) f → TakesCodes (shape_of fields) f
takes-codes fields f are categorical = takes-from 0 fields f are categorical

-- ---- all codes of a field

-- a test that some code does not pass
pub some-code : (t : ℕ → Bool) (i k : ℕ) → list_all t (codes_up i k) ≡ false → (code : ℕ) × (code < i + k) × (t code ≡ false)
some-code t i zero h = absurd (cc)
some-code t i (suc k) h = by (t i) refl (some-code t (suc i) k) h
  where
    by : (b : Bool) → t i ≡ b → (list_all t (codes_up (suc i) k) ≡ false → (code : ℕ) × (code < suc i + k) × (t code ≡ false))
        → (b && list_all t (codes_up (suc i) k)) ≡ false → (code : ℕ) × (code < i + suc k) × (t code ≡ false)
    by true e later rest = let (code, below, fails) = later rest in (code, omega arith, fails)
    by false e later rest = (i, omega arith, e)

pub not_all : (t : ℕ → Bool) (i k code : ℕ) → i ≤ code → code < i + k → t code ≡ false → list_all t (codes_up i k) ≡ false
not_all t i zero code from below fails = absurd (omega arith)
not_all t i (suc k) code from below fails = by (nat_eq i code) refl (λ after. not_all t (suc i) k code after (omega arith) fails)
  where
    by : (b : Bool) → nat_eq i code ≡ b → (suc i ≤ code → list_all t (codes_up (suc i) k) ≡ false) → (t i && list_all t (codes_up (suc i) k)) ≡ false
    by true e rest = ap (λ c. t c && list_all t (codes_up (suc i) k)) ((Decides-eqb i code).0 e) ∙ ap (λ b. b && list_all t (codes_up (suc i) k)) fails
    by false e rest = ap (λ b. t i && b) (rest (later (λ h. absurd (cc (sym e ∙ (Decides-eqb i code).1 h))))) ∙ and_false (t i)
      where
        later : (i ≡ code → ⊥) → suc i ≤ code
        later apart = omega arith

-- ---- a point with another code

-- with its own code it has the codes that it had
pub codes-own : (shape : List Domain) (p : Point) (f code : ℕ) → p.code f ≡ code → codes_at shape (with_code_at p f code) ≡ codes_at shape p
codes-own shape p f code same = all (code_fields shape)
  where
    own : (i : ℕ) (b : Bool) → (i == f) ≡ b → (if b then code else p.code i) ≡ p.code i
    own i true e = sym same ∙ ap (λ j. p.code j) (sym ((Decides-eqb i f).0 e))
    own i false e = refl

    all : (fields : List ℕ) → map (with_code_at p f code).code fields ≡ map p.code fields
    all [] = refl
    all (i ∷ fields) = ap (λ n. n ∷ map (with_code_at p f code).code fields) (own i (i == f) refl) ∙ ap (λ (ns : List ℕ). p.code i ∷ ns) (all fields)

no_size : (i : ℕ) (shape : List Domain) (f : ℕ) → f < i → size_from i shape f ≡ 0
no_size i [] f less = refl
no_size i (Numerical ∷ shape) f less = no_size (suc i) shape f (omega arith)
no_size i (Categorical k ∷ shape) f less = ap (λ b. if b then k else size_from (suc i) shape f) (not_self i f less) ∙ no_size (suc i) shape f (omega arith)

held-from : (i : ℕ) (shape : List Domain) (p : Point) (f code : ℕ) → HasCodes i shape p → (0 < size_from i shape f → code < size_from i shape f)
    → HasCodes i shape (with_code_at p f code)
held-from i [] p f code held below = tt
held-from i (Numerical ∷ shape) p f code held below = held-from (suc i) shape p f code held below
held-from i (Categorical k ∷ shape) p f code held below = by (i == f) refl held.0 (held-from (suc i) shape p f code held.1) below
  where
    by : (b : Bool) → (i == f) ≡ b → p.code i < k → ((0 < size_from (suc i) shape f → code < size_from (suc i) shape f)
        → HasCodes (suc i) shape (with_code_at p f code))
        → (0 < (if b then k else size_from (suc i) shape f) → code < (if b then k else size_from (suc i) shape f)) → ((if b then code else p.code i) < k)
        × HasCodes (suc i) shape (with_code_at p f code)
    by true e own rest h =
        let same : i ≡ f = (Decides-eqb i f).0 e in
        let none : size_from (suc i) shape f ≡ 0 = no_size (suc i) shape f (omega arith) in
        (h (omega (arith, own)), rest (λ some. absurd (omega (arith, none))))
    by false e own rest h = (own, rest h)

-- with another code of the field's domain its codes are still in their domains
pub HasCodes-with : (shape : List Domain) (p : Point) (f code : ℕ) → HasCodes 0 shape p → code < size_of shape f → HasCodes 0 shape (with_code_at p f code)
HasCodes-with shape p f code held below = held-from 0 shape p f code held (λ some. below)

-- and so are those of a point with the same codes
pub HasCodes-same : (i : ℕ) (shape : List Domain) (p q : Point) → ((j : ℕ) → q.code j ≡ p.code j) → HasCodes i shape p → HasCodes i shape q
HasCodes-same i [] p q same held = tt
HasCodes-same i (Numerical ∷ shape) p q same held = HasCodes-same (suc i) shape p q same held
HasCodes-same i (Categorical k ∷ shape) p q same held = (subst (λ (n : ℕ). n < k) (sym (same i)) held.0, HasCodes-same (suc i) shape p q same held.1)
