use Rattle.std.proofs.Common.{◌≡◌, ◌∙◌, not, cond, ℕ, ◌+◌, ◌<◌, Bool, true, false, List, [], ◌∷◌, ◌++◌, length, get_or, All, refl, sym, ap, arith}
use Rattle.std.specs.List.{count_by, filter, range_with_len}
use Rattle.std.specs.List.Sorted.{IsStrictlyIncreasing}
use Rattle.std.proofs.lemmas.List.{map-id}
use Rattle.std.proofs.lemmas.List.Elements.{All-filter, filter-append}
use Rattle.std.proofs.lemmas.List.Folds.{fold-map}
use Rattle.std.proofs.lemmas.List.FromFn.{fill_by_all, get_or-range_with_len, length-range_with_len, map-range_with_len_more}
use Rattle.std.proofs.lemmas.List.Kept.{IsStrictlyIncreasing-filter}

-- Marks of records, one for each.

-- as many marks pass a test as records
pub counted : (f : ℕ → Bool) (test : Bool → Bool) (marks : List Bool) (n : ℕ) → length marks ≡ n → ((k : ℕ) → k < n → get_or marks k false ≡ f k)
    → count_by test marks ≡ count_by (λ k. test (f k)) (range_with_len 0 n)
counted f test marks n long each =
    ap (λ (ms : List Bool). count_by test ms) (fill_by_all f marks n false long each)
    ∙ fold-map (λ (a : ℕ) (mark : Bool). a + cond (test mark) 1 0) f 0 (range_with_len 0 n)

-- ---- the records that are left, one after the other

pub range_more : (n : ℕ) → range_with_len 0 (n + 1) ≡ range_with_len 0 n ++ n ∷ []
range_more n = sym (map-id (range_with_len 0 (n + 1))) ∙ map-range_with_len_more (λ (k : ℕ). k) 0 n n (omega arith)
    ∙ ap (λ (ks : List ℕ). ks ++ n ∷ []) (map-id (range_with_len 0 n))

-- with a record more
pub filter_more_of : (test : ℕ → Bool) (n : ℕ) → filter test (range_with_len 0 (n + 1)) ≡ filter test (range_with_len 0 n) ++ cond (test n) (n ∷ []) []
filter_more_of test n = ap (filter test) (range_more n) ∙ filter-append test (range_with_len 0 n) (n ∷ [])

-- the same of those that fail
pub kept_more : (test : ℕ → Bool) (n : ℕ)
    → filter (λ k. not (test k)) (range_with_len 0 (n + 1)) ≡ filter (λ k. not (test k)) (range_with_len 0 n) ++ cond (test n) [] (n ∷ [])
kept_more test n = filter_more_of (λ k. not (test k)) n ∙ ap (λ (ks : List ℕ). filter (λ k. not (test k)) (range_with_len 0 n) ++ ks) (one (test n))
  where
    one : (b : Bool) → cond (not b) (n ∷ []) [] ≡ cond b [] (n ∷ [])
    one true = refl
    one false = refl

-- the numbers of records are below how many there are, and rise
pub kept-within : (test : ℕ → Bool) (n : ℕ) → All (λ k. k < n) (filter test (range_with_len 0 n))
kept-within test n = All-filter test (λ k. k < n) (range_with_len 0 n) (λ k d below. omega (
  arith,
  length-range_with_len 0 n,
  get_or-range_with_len 0 n k d
      (omega (arith, length-range_with_len 0 n)),
))

pub kept-rising : (test : ℕ → Bool) (n : ℕ) → IsStrictlyIncreasing (filter test (range_with_len 0 n))
kept-rising test n =
    IsStrictlyIncreasing-filter test (range_with_len 0 n)
    (λ k below. let inside : k + 1 < n = omega (arith, length-range_with_len 0 n) in omega (
      arith,
      get_or-range_with_len 0 n k 0
          (omega arith),
      get_or-range_with_len 0 n (k + 1) 0 inside,
    ))
