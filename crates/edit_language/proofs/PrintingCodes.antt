-- A printed list of codes stands for the set that it was printed from.
use Rattle.std.proofs.Common.{◌≡◌, ◌∙◌, refl, sym, ap, ℕ, zero, suc, ◌*◌, ◌/◌, ◌%◌, ◌<◌, ◌≤◌, ◌^◌, Bool, true, false, eqb, List, [], ◌∷◌, length, inl, inr}
use Rattle.std.proofs.Common.{arith}
use Rattle.std.proofs.Math.Nat.{pow-suc}
use Rattle.std.proofs.lemmas.Bool.{and_from, and_parts, cases_Bool, cond_both, eqb-false, eqb-true, or_left, or_right}
use Rattle.std.proofs.lemmas.Nat.Bits.{bit_at-lt, bit_at-suc, bit_at_lowest}
use Rattle.std.proofs.lemmas.Slice.Eq.{bytes_eq-Decides}
use Rattle.std.specs.Bool.{⊤}
use Rattle.std.specs.Prelude.{if◌then◌else◌}
use Rattle.std.specs.Int.{bit_at}
use Rattle.std.specs.List.{AllByRecursion, list_all}
use Rattle.std.specs.Str.{bytes_eq}
use Rattle.edit_language.specs.Faults.{has_double}
use Rattle.edit_language.specs.Meaning.{code_set, is_listed}
use Rattle.edit_language.specs.Printing.{codes_of_set}

-- no code of the list is the code
abbrev pub AreOther : List ℕ → List (List ℕ) → Type 0
AreOther code [] = ⊤
AreOther code (c ∷ list) = (bytes_eq code c ≡ false) × (bytes_eq c code ≡ false) × AreOther code list

-- all codes differ
abbrev pub AreApart : List (List ℕ) → Type 0
AreApart [] = ⊤
AreApart (c ∷ list) = AreOther c list × AreApart list

itself : (code : List ℕ) → bytes_eq code code ≡ true
itself code = (bytes_eq-Decides code code).1 refl

-- ---- what is kept of a list

pub others_kept : (set i : ℕ) (list : List (List ℕ)) (code : List ℕ) → AreOther code list → AreOther code (codes_of_set set i list)
others_kept set i [] code other = tt
others_kept set i (c ∷ list) code other =
    let rest = others_kept set (suc i) list code other.2 in cond_both (eqb (bit_at set i) 1) _ _ (AreOther code) (λ _. (other.0, other.1, rest)) (λ _. rest)

pub apart_kept : (set i : ℕ) (list : List (List ℕ)) → AreApart list → AreApart (codes_of_set set i list)
apart_kept set i [] apart = tt
apart_kept set i (c ∷ list) apart =
    let rest = apart_kept set (suc i) list apart.1 in
    cond_both (eqb (bit_at set i) 1) _ _ AreApart (λ _. (others_kept set (suc i) list c apart.0, rest)) (λ _. rest)

pub all_kept : (P : List ℕ → Type 0) (set i : ℕ) (list : List (List ℕ)) → AllByRecursion P list → AllByRecursion P (codes_of_set set i list)
all_kept P set i [] all = tt
all_kept P set i (c ∷ list) all =
    let rest = all_kept P set (suc i) list all.1 in cond_both (eqb (bit_at set i) 1) _ _ (AllByRecursion P) (λ _. (all.0, rest)) (λ _. rest)

-- ---- which codes are listed

not_listed : (list : List (List ℕ)) (code : List ℕ) → AreOther code list → is_listed list code ≡ false
not_listed [] code other = refl
not_listed (c ∷ list) code other = rw (other.1, not_listed list code other.2) refl

pub no_double : (list : List (List ℕ)) → AreApart list → has_double list ≡ false
no_double [] apart = refl
no_double (c ∷ list) apart = rw (not_listed list c apart.0, no_double list apart.1) refl

-- the codes are listed where their bits are set, from number i on
abbrev pub IsListedBy : ℕ → ℕ → List (List ℕ) → List (List ℕ) → Type 0
IsListedBy set i [] list = ⊤
IsListedBy set i (c ∷ codes) list = (is_listed list c ≡ eqb (bit_at set i) 1) × IsListedBy set (suc i) codes list

listed_more : (set i : ℕ) (codes : List (List ℕ)) (c : List ℕ) (list : List (List ℕ)) → AreOther c codes → IsListedBy set i codes list
    → IsListedBy set i codes (c ∷ list)
listed_more set i [] c list other listed = tt
listed_more set i (d ∷ codes) c list other listed =
    let same : is_listed (c ∷ list) d ≡ is_listed list d = rw (other.0) refl in (same ∙ listed.0, listed_more set (suc i) codes c list other.2 listed.1)

pub listed_by_bits : (set i : ℕ) (codes : List (List ℕ)) → AreApart codes → IsListedBy set i codes (codes_of_set set i codes)
listed_by_bits set i [] apart = tt
listed_by_bits set i (c ∷ codes) apart =
    let later = codes_of_set set (suc i) codes in
    let rest = listed_by_bits set (suc i) codes apart.1 in
    cond_both (eqb (bit_at set i) 1) _ _ (IsListedBy set i (c ∷ codes))
    (λ e. (rw (itself c) (sym e), listed_more set (suc i) codes c later apart.0 rest))
    (λ e. (not_listed later c (others_kept set (suc i) codes c apart.0) ∙ sym e, rest))

-- ---- the set

bit_is : (set i : ℕ) → (if eqb (bit_at set i) 1 then 1 else 0) ≡ bit_at set i
bit_is set i =
    elim (cases_Bool (eqb (bit_at set i) 1)) [
      | inl one ↦ rw one (sym (eqb-true _ _ one))
      | inr other ↦ rw other (let small = bit_at-lt set i in let none = eqb-false _ _ other in zero_is (bit_at set i) small none)
    ]
  where
    zero_is : (n : ℕ) → n < 2 → (n ≡ 1 → ⊥) → 0 ≡ n
    zero_is zero small none = refl
    zero_is (suc zero) small none = absurd (none refl)
    zero_is (suc (suc n)) small none = absurd (omega arith)

shifted : (set i : ℕ) (codes list : List (List ℕ)) → IsListedBy set (suc i) codes list → IsListedBy (set / 2) i codes list
shifted set i [] list listed = tt
shifted set i (c ∷ codes) list listed = (listed.0 ∙ ap (λ (n : ℕ). eqb n 1) (bit_at-suc set i), shifted set (suc i) codes list listed.1)

pub set_back : (set : ℕ) (codes list : List (List ℕ)) → set < 2 ^ length codes → IsListedBy set 0 codes list → code_set codes list ≡ set
set_back set [] list below listed = omega arith
set_back set (c ∷ codes) list below listed =
    let half : set / 2 < 2 ^ length codes = half_below set (length codes) below in
    let rest = set_back (set / 2) codes list half (shifted set 0 codes list listed.1) in
    let low : (if is_listed list c then 1 else 0) ≡ set % 2 = ap (λ (b : Bool). if b then 1 else 0) listed.0 ∙ bit_is set 0 ∙ bit_at_lowest set in
    rw (low, rest) (omega arith)
  where
    half_below : (n k : ℕ) → n < 2 ^ suc k → n / 2 < 2 ^ k
    half_below n k h = let twice : 2 ^ suc k ≡ 2 ^ k * 2 = pow-suc 2 k in omega arith

-- ---- a set that is not empty has a code

none_listed : (codes : List (List ℕ)) → code_set codes [] ≡ 0
none_listed [] = refl
none_listed (c ∷ codes) = rw (none_listed codes) refl

some_listed : (codes list : List (List ℕ)) (set : ℕ) → code_set codes list ≡ set → 0 < set → 1 ≤ length list
some_listed codes [] set is some = absurd (omega (arith, none_listed codes))
some_listed codes (c ∷ list) set is some = omega arith

-- the printed codes of a set stand for the set
pub set_printed : (set : ℕ) (codes : List (List ℕ)) → AreApart codes → set < 2 ^ length codes → code_set codes (codes_of_set set 0 codes) ≡ set
set_printed set codes apart below = set_back set codes (codes_of_set set 0 codes) below (listed_by_bits set 0 codes apart)

pub some_printed : (set : ℕ) (codes : List (List ℕ)) → AreApart codes → 0 < set → set < 2 ^ length codes → 1 ≤ length (codes_of_set set 0 codes)
some_printed set codes apart some below = some_listed codes (codes_of_set set 0 codes) set (set_printed set codes apart below) some

-- ---- each printed code is one of the field's

pub known_codes : (set i : ℕ) (codes all : List (List ℕ)) → list_all (is_listed all) codes ≡ true → list_all (is_listed all) (codes_of_set set i codes) ≡ true
known_codes set i [] all known = refl
known_codes set i (c ∷ codes) all known =
    let parts = and_parts _ _ known in
    let rest = known_codes set (suc i) codes all parts.1 in
    cond_both (eqb (bit_at set i) 1) _ _ (λ list. list_all (is_listed all) list ≡ true) (λ _. and_from _ _ parts.0 rest) (λ _. rest)

listed_still : (c : List ℕ) (codes all : List (List ℕ)) → list_all (is_listed all) codes ≡ true → list_all (is_listed (c ∷ all)) codes ≡ true
listed_still c [] all known = refl
listed_still c (d ∷ codes) all known =
    let parts = and_parts _ _ known in and_from _ _ (or_right (bytes_eq c d) _ parts.0) (listed_still c codes all parts.1)

pub all_listed : (codes : List (List ℕ)) → list_all (is_listed codes) codes ≡ true
all_listed [] = refl
all_listed (c ∷ codes) = and_from _ _ (or_left (bytes_eq c c) _ (itself c)) (listed_still c codes codes (all_listed codes))
