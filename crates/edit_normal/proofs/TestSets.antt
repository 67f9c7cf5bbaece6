use Rattle.std.proofs.Common.{◌≡◌, ℕ, zero, suc, ◌+◌, ◌-◌, ◌<◌, ◌^◌, ◌%◌, ◌==◌, ◌&&◌, ◌||◌, not, nat_eq, if◌then◌else◌, Bool, true, false, List, [], ◌∷◌}
use Rattle.std.proofs.Common.{length, map, bit_and, bit_xor, slice_index_or, slice_set, refl, sym, ap, ◌∙◌, arith}
use Rattle.std.specs.Int.{bit_at}
use Rattle.std.proofs.lemmas.Bool.Decides.{Decides-eqb}
use Rattle.std.proofs.lemmas.List.{length-map, length-set}
use Rattle.std.proofs.lemmas.Nat.Bits.{bit_at-lt, bit_at_ones, bit_at_xor}
use Rattle.edit_model.specs.Points.{Point, has_code, test_holds}
use Rattle.edit_model.specs.declared.rule.Test.TheVariants.{Codes}
use Rattle.edit_line.specs.Sets.{are_codes_in}
use Rattle.edit_line.specs.Shapes.{Categorical, Domain, HasCodes, Numerical, code_fields, codes_at, codes_from, has_field, place_in, whole_sets}
use Rattle.edit_line.proofs.OtherFields.{has-and}
use Rattle.edit_line.proofs.ShapeLaws.{place-within}
use Rattle.edit_normal.specs.NormalForm.{narrowed, test_set}

-- The codes that meet a test, and sets that are narrowed to them.

-- a set without a code of the whole set has what the other has not
has-other : (whole codes code : ℕ) → bit_at whole code ≡ 1 → has_code (bit_xor whole codes) code ≡ not (has_code codes code)
has-other whole codes code all = by (has_code codes code) refl
  where
    by : (b : Bool) → has_code codes code ≡ b → has_code (bit_xor whole codes) code ≡ not b
    by true e =
        let one : bit_at codes code ≡ 1 = (Decides-eqb (bit_at codes code) 1).0 e in
        let bits : bit_at (bit_xor whole codes) code ≡ 0 = bit_at_xor whole codes code ∙ ap (λ n. (n + bit_at codes code) % 2) all
        ∙ ap (λ n. (1 + n) % 2) one in
        ap (λ n. nat_eq n 1) bits
    by false e =
        let none : bit_at codes code ≡ 0 = zero_bit (bit_at codes code) (bit_at-lt codes code)
        (λ h. absurd (cc (sym e ∙ (Decides-eqb (bit_at codes code) 1).1 h))) in
        let bits : bit_at (bit_xor whole codes) code ≡ 1 = bit_at_xor whole codes code ∙ ap (λ n. (n + bit_at codes code) % 2) all
        ∙ ap (λ n. (1 + n) % 2) none in
        ap (λ n. nat_eq n 1) bits
      where
        zero_bit : (n : ℕ) → n < 2 → (n ≡ 1 → ⊥) → n ≡ 0
        zero_bit n h other = omega arith

-- the codes that meet a test
test_set-has : (whole codes code : ℕ) (negated : Bool) → bit_at whole code ≡ 1 → has_code (test_set whole negated codes) code
    ≡ (if negated then not (has_code codes code) else has_code codes code)
test_set-has whole codes code true all = has-other whole codes code all
test_set-has whole codes code false all = refl

-- ---- the field's place

pub code-at : (p : Point) (fields : List ℕ) (f : ℕ) → has_field fields f ≡ true → slice_index_or (map p.code fields) (place_in fields f) 0 ≡ p.code f
code-at p [] f there = absurd (cc)
code-at p (i ∷ fields) f there = by (i == f) refl (code-at p fields f) there
  where
    by : (b : Bool) → (i == f) ≡ b → (has_field fields f ≡ true → slice_index_or (map p.code fields) (place_in fields f) 0 ≡ p.code f)
        → (b || has_field fields f) ≡ true
        → slice_index_or (p.code i ∷ map p.code fields) (if b then 0 else suc (place_in fields f)) 0 ≡ p.code f
    by true e rest h = ap p.code ((Decides-eqb i f).0 e)
    by false e rest h = rest h

-- a code of the field's domain is in the field's whole set
pub whole-has : (i : ℕ) (shape : List Domain) (p : Point) (f : ℕ) → HasCodes i shape p → has_field (codes_from i shape) f ≡ true
    → bit_at (slice_index_or (whole_sets shape) (place_in (codes_from i shape) f) 0) (p.code f) ≡ 1
whole-has i [] p f held there = absurd (cc)
whole-has i (Numerical ∷ shape) p f held there = whole-has (suc i) shape p f held there
whole-has i (Categorical k ∷ shape) p f held there = by (i == f) refl (whole-has (suc i) shape p f held.1) there
  where
    by : (b : Bool) → (i == f) ≡ b → (has_field (codes_from (suc i) shape) f ≡ true → bit_at
        (slice_index_or (whole_sets shape) (place_in (codes_from (suc i) shape) f) 0) (p.code f) ≡ 1)
        → (b || has_field (codes_from (suc i) shape) f) ≡ true
        → bit_at (slice_index_or ((2 ^ k - 1) ∷ whole_sets shape) (if b then 0 else suc (place_in (codes_from (suc i) shape) f)) 0) (p.code f) ≡ 1
    by true e rest h = ap (λ n. bit_at (2 ^ k - 1) (p.code n)) (sym ((Decides-eqb i f).0 e)) ∙ bit_at_ones k (p.code i) held.0
    by false e rest h = rest h

-- codes of their domains are in the whole sets
pub whole-inside : (i : ℕ) (shape : List Domain) (p : Point) → HasCodes i shape p → are_codes_in (whole_sets shape) (map p.code (codes_from i shape)) ≡ true
whole-inside i [] p held = refl
whole-inside i (Numerical ∷ shape) p held = whole-inside (suc i) shape p held
whole-inside i (Categorical k ∷ shape) p held = rw (ap (λ n. nat_eq n 1) (bit_at_ones k (p.code i) held.0)) (whole-inside (suc i) shape p held.1)

-- ---- sets that are narrowed at one place

inside-set : (sets codes : List ℕ) (place t : ℕ) → place < length sets → place < length codes
    → are_codes_in (slice_set sets place (bit_and (slice_index_or sets place 0) t)) codes
    ≡ (are_codes_in sets codes && has_code t (slice_index_or codes place 0))
inside-set [] codes place t below within = absurd (omega arith)
inside-set (s ∷ sets) [] place t below within = absurd (omega arith)
inside-set (s ∷ sets) (code ∷ codes) zero t below within = ap (λ b. b && are_codes_in sets codes) (has-and s t code)
    ∙ moved (has_code s code) (has_code t code) (are_codes_in sets codes)
  where
    moved : (a b c : Bool) → ((a && b) && c) ≡ ((a && c) && b)
    moved true true true = refl
    moved true true false = refl
    moved true false true = refl
    moved true false false = refl
    moved false b c = refl
inside-set (s ∷ sets) (code ∷ codes) (suc place) t below within = ap (λ b. has_code s code && b) (inside-set sets codes place t (omega arith) (omega arith))
    ∙ grouped (has_code s code) (are_codes_in sets codes) _
  where
    grouped : (a b c : Bool) → (a && (b && c)) ≡ ((a && b) && c)
    grouped true b c = refl
    grouped false b c = refl

-- the narrowed sets have the point's codes exactly where the sets have them and the test is true
pub narrowed-inside : (shape : List Domain) (sets : List ℕ) (field : ℕ) (negated : Bool) (codes : ℕ) (p : Point) → length sets ≡ length (code_fields shape)
    → has_field (code_fields shape) field ≡ true → HasCodes 0 shape p
    → are_codes_in (narrowed shape sets field negated codes) (codes_at shape p)
    ≡ (are_codes_in sets (codes_at shape p) && test_holds (Codes field negated codes) p)
narrowed-inside shape sets field negated codes p same there held =
    let place = place_in (code_fields shape) field in
    let below : place < length (code_fields shape) = place-within (code_fields shape) field there in
    let at : slice_index_or (codes_at shape p) place 0 ≡ p.code field = code-at p (code_fields shape) field there in
    let all = whole-has 0 shape p field held there in
    inside-set sets (codes_at shape p) place _ (omega arith) (omega (arith, length-map (code_fields shape) p.code))
    ∙ ap (λ c. are_codes_in sets (codes_at shape p) && has_code (test_set (slice_index_or (whole_sets shape) place 0) negated codes) c) at
    ∙ ap (λ b. are_codes_in sets (codes_at shape p) && b) (test_set-has (slice_index_or (whole_sets shape) place 0) codes (p.code field) negated all)

pub narrowed-length : (shape : List Domain) (sets : List ℕ) (field : ℕ) (negated : Bool) (codes : ℕ) → length (narrowed shape sets field negated codes)
    ≡ length sets
narrowed-length shape sets field negated codes = length-set sets _ _
