-- Lists of codes: a code that stands twice, and the set of the codes that are listed.
use Rattle.std.proofs.Common.{◌≡◌, ◌≢◌, ℕ, suc, ◌+◌, ◌*◌, ◌^◌, ◌<◌, ◌≤◌, Bool, true, false, if◌then◌else◌, All, AllPairs, List, [], ◌∷◌, ◌++◌, drop, take}
use Rattle.std.proofs.Common.{get_or, length, refl, sym, ap, ◌∙◌, inl, inr, arith, add-one}
use Rattle.std.specs.Str.{bytes_eq}
use Rattle.std.proofs.Math.Seq.{drop-cons}
use Rattle.std.proofs.Math.Nat.{pow-le-pow_right}
use Rattle.std.proofs.lemmas.Bool.{cases_Bool, false_from_ne_true, or_cases, or_from, or_left, or_parts, or_right}
use Rattle.std.proofs.lemmas.List.{at_drop_more, take_more, take-append-drop}
use Rattle.std.proofs.lemmas.List.Elements.{All-cons, All-head, All-nil, All-tail}
use Rattle.std.proofs.lemmas.List.Folds.{list_any-append}
use Rattle.std.proofs.lemmas.List.Kept.{AllPairs-cons}
use Rattle.std.proofs.lemmas.Slice.Eq.{bytes_eq-Decides}
use Rattle.edit_language.specs.Faults.{has_double}
use Rattle.edit_language.specs.Meaning.{code_set, is_listed}

-- a code that differs is not found equal
pub unequal : (a b : List ℕ) → a ≢ b → bytes_eq a b ≡ false
unequal a b differs = false_from_ne_true (bytes_eq a b) (λ same. differs ((bytes_eq-Decides a b).0 same))

-- a code is equal to itself
pub equal : (a : List ℕ) → bytes_eq a a ≡ true
equal a = (bytes_eq-Decides a a).1 refl

-- a list without a double has none with a new code behind it
pub still_distinct : (xs : List (List ℕ)) (x : List ℕ) → has_double xs ≡ false → All (λ n. n ≢ x) xs → has_double (xs ++ x ∷ []) ≡ false
still_distinct [] x distinct new = refl
still_distinct (t ∷ ts) x distinct new =
    let parts = or_parts (is_listed ts t) (has_double ts) distinct in
    let differs : bytes_eq x t ≡ false = unequal x t (λ same. All-head (λ n. n ≢ x) t ts new (sym same)) in
    let unlisted : is_listed (ts ++ x ∷ []) t ≡ false = list_any-append (λ c. bytes_eq c t) ts (x ∷ []) ∙ or_from _ _ parts.0 (or_from _ _ differs refl) in
    or_from _ _ unlisted (still_distinct ts x parts.1 (All-tail (λ n. n ≢ x) t ts new))

-- a code that is listed already makes a double
pub double_there : (xs : List (List ℕ)) (x : List ℕ) (rest : List (List ℕ)) → ¬ All (λ n. n ≢ x) xs → has_double (xs ++ x ∷ rest) ≡ true
double_there [] x rest there = absurd (there (All-nil (λ n. n ≢ x)))
double_there (t ∷ ts) x rest there = elim (cases_Bool (bytes_eq x t)) [
  | inl same ↦ or_left _ _ (list_any-append (λ c. bytes_eq c t) ts (x ∷ rest) ∙ or_right _ _ (or_left _ _ same))
  | inr differs ↦ or_right _ _ (double_there ts x rest
      (λ new. there (All-cons (λ n. n ≢ x) t ts (λ same. let found : bytes_eq x t ≡ true = (bytes_eq-Decides x t).1 (sym same) in cc) new)))
]

-- the codes up to a place, and the code there
module _ (first : List ℕ) (rest : List (List ℕ)) (i : ℕ) (seen : List (List ℕ)) (code : List ℕ) (within : i < length rest) (are : seen ≡ first ∷ take i rest)
    (here : code ≡ get_or rest i code) where
  whole : first ∷ rest ≡ seen ++ code ∷ drop (i + 1) rest
  whole =
      let left : drop i rest ≡ code ∷ drop (i + 1) rest = drop-cons rest i code within ∙ rw (← here, add-one) refl in
      let all : take i rest ++ drop i rest ≡ rest = take-append-drop i rest in
      ap (λ (cs : List (List ℕ)). first ∷ cs) (sym all ∙ ap (λ (cs : List (List ℕ)). take i rest ++ cs) left)
      ∙ ap (λ (cs : List (List ℕ)). cs ++ code ∷ drop (i + 1) rest) (sym are)

  -- a code that is listed already makes a double
  pub double_at : ¬ All (λ n. n ≢ code) seen → true ≡ has_double (first ∷ rest)
  double_at there = sym (ap has_double whole ∙ double_there seen code (drop (i + 1) rest) there)

  -- a new code makes none
  pub distinct_at : (next : List (List ℕ)) → has_double seen ≡ false → next ≡ seen ++ code ∷ [] → All (λ n. n ≢ code) seen
      → (next ≡ first ∷ take (i + 1) rest) × (has_double next ≡ false)
  distinct_at next distinct is new =
      let longer : take (i + 1) rest ≡ take i rest ++ code ∷ [] = take_more rest i code within ∙ rw (← here) refl in (
        is ∙ ap (λ (cs : List (List ℕ)). cs ++ code ∷ []) are ∙ ap (λ (cs : List (List ℕ)). first ∷ cs) (sym longer),
        ap has_double is
            ∙ still_distinct seen code distinct new,
      )

-- a list without a double has distinct codes
pub distinct_codes : (xs : List (List ℕ)) → has_double xs ≡ false → AllPairs (λ a b. a ≢ b) xs
distinct_codes [] distinct = λ i j d below within. absurd (omega arith)
distinct_codes (t ∷ ts) distinct =
    let parts = or_parts (is_listed ts t) (has_double ts) distinct in
    AllPairs-cons (λ a b. a ≢ b) t ts (unlisted_differ t ts parts.0) (distinct_codes ts parts.1)
  where
    unlisted_differ : (t : List ℕ) (ts : List (List ℕ)) → is_listed ts t ≡ false → All (λ b. t ≢ b) ts
    unlisted_differ t [] none = All-nil (λ b. t ≢ b)
    unlisted_differ t (b ∷ ts) none =
        let parts = or_parts (bytes_eq b t) (is_listed ts t) none in
        All-cons (λ b. t ≢ b) b ts (λ same. let found : bytes_eq b t ≡ true = (bytes_eq-Decides b t).1 (sym same) in cc) (unlisted_differ t ts parts.1)

-- ---- sets of codes

-- a set of codes has no bit past the codes
pub code_set_small : (codes list : List (List ℕ)) → code_set codes list < 2 ^ length codes
code_set_small [] list = omega arith
code_set_small (code ∷ codes) list =
    let rest = code_set_small codes list in
    let twice : 2 ^ length (code ∷ codes) ≡ 2 * 2 ^ length codes = pow-suc' (length codes) in
    rw twice (small (is_listed list code) (code_set codes list) (2 ^ length codes) rest)
  where
    small : (b : Bool) (n m : ℕ) → n < m → (if b then 1 else 0) + 2 * n < 2 * m
    small true n m below = omega arith
    small false n m below = omega arith

    pow-suc' : (n : ℕ) → 2 ^ suc n ≡ 2 * 2 ^ n
    pow-suc' n = omega arith

-- it is not empty where one of the codes is listed
pub code_set_some : (codes list : List (List ℕ)) (first : List ℕ) → is_listed codes first ≡ true → is_listed list first ≡ true → 0 < code_set codes list
code_set_some [] list first there listed = absurd cc
code_set_some (code ∷ codes) list first there listed = elim (or_cases (bytes_eq code first) (is_listed codes first) there) [
  | inl same ↦
      let is : code ≡ first = (bytes_eq-Decides code first).0 same in
      let has : is_listed list code ≡ true = rw is listed in
      rw has (omega arith)
  | inr later ↦ more (is_listed list code) (code_set codes list) (code_set_some codes list first later listed)
]
  where
    more : (b : Bool) (n : ℕ) → 0 < n → 0 < (if b then 1 else 0) + 2 * n
    more true n above = omega arith
    more false n above = omega arith

-- one code more
pub code_set_more : (codes list : List (List ℕ)) (i : ℕ) (code : List ℕ) → i < length codes
    → 2 ^ i * code_set (drop i codes) list ≡ (if is_listed list (get_or codes i code) then 2 ^ i else 0) + 2 ^ (i + 1) * code_set (drop (i + 1) codes) list
code_set_more codes list i code within = at_drop_more (λ cs. 2 ^ i * code_set cs list) codes i code within
    ∙ split (is_listed list (get_or codes i code)) (code_set (drop (i + 1) codes) list) i
  where
    split : (b : Bool) (n i : ℕ) → 2 ^ i * ((if b then 1 else 0) + 2 * n) ≡ (if b then 2 ^ i else 0) + 2 ^ (i + 1) * n
    split true n i = let twice : 2 ^ (i + 1) ≡ 2 * 2 ^ i = rw add-one (omega arith) in rw twice (grind arith)
    split false n i = let twice : 2 ^ (i + 1) ≡ 2 * 2 ^ i = rw add-one (omega arith) in rw twice (grind arith)

-- a set so far, and the code that comes next
pub set_step : (codes list : List (List ℕ)) (i : ℕ) (code : List ℕ) (set bit : ℕ) → length codes ≤ 64 → i < length codes
    → set + 2 ^ i * code_set (drop i codes) list ≡ code_set codes list
    → code ≡ get_or codes i code → bit ≡ (if is_listed list code then 2 ^ i else 0)
    → (set + bit < 2 ^ 64) × (set + bit + 2 ^ (i + 1) * code_set (drop (i + 1) codes) list ≡ code_set codes list)
set_step codes list i code set bit few within so_far here is =
    let more = code_set_more codes list i code within in
    let listed : bit ≡ (if is_listed list (get_or codes i code) then 2 ^ i else 0) = is ∙ ap (λ (c : List ℕ). if is_listed list c then 2 ^ i else 0) here in
    let small = code_set_small codes list in
    let most : 2 ^ length codes ≤ 2 ^ 64 = pow-le-pow_right {n = 2} (omega arith) {i = length codes} {j = 64} few in
    let sum : 2 ^ i * code_set (drop i codes) list ≡ bit + 2 ^ (i + 1) * code_set (drop (i + 1) codes) list = rw listed more in
    step set bit (2 ^ i * code_set (drop i codes) list) (2 ^ (i + 1) * code_set (drop (i + 1) codes) list) (code_set codes list)
    (2 ^ length codes) sum so_far small most
  where
    step : (set bit old new whole top : ℕ) → old ≡ bit + new → set + old ≡ whole → whole < top → top ≤ 2 ^ 64 → (set + bit < 2 ^ 64) × (set + bit + new ≡ whole)
    step set bit old new whole top sum so_far small most = (omega arith, omega arith)
