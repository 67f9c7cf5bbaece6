use Rattle.std.proofs.Common.{◌≡◌, ◌∙◌, ℕ, zero, suc, ◌+◌, ◌-◌, ◌*◌, ◌<◌, ◌≤◌, List, [], ◌∷◌, ◌++◌, drop, get_or, length, length-append, take, ap, sym, subst}
use Rattle.std.proofs.Common.{arith, map}
use Rattle.std.specs.List.{flat_map}
use Rattle.std.proofs.Math.Nat.{mul-le-mul_right}
use Rattle.std.proofs.Math.Seq.{drop-append-add, take-append_seam}
use Rattle.std.proofs.lemmas.List.{map_more}

-- Lists that stand one after the other, as many elements each.

more_rows : (r c : ℕ) → suc r * c ≡ c + r * c
more_rows r c = omega arith

pub row_within : (k r c : ℕ) → k < r → k * c + c ≤ r * c
row_within k r c below = let m = mul-le-mul_right c (less k r below) in omega (arith, m, more_rows k c)
  where
    less : (k r : ℕ) → k < r → suc k ≤ r
    less k r h = omega (arith, h)

module _ {X : Type 0} (marks : X → List ℕ) (count : ℕ) (each : (x : X) → length (marks x) ≡ count) where
  pub table_long : (xs : List X) → length (flat_map marks xs) ≡ length xs * count
  table_long [] = omega arith
  table_long (x ∷ xs) =
      let l = length-append (marks x) (flat_map marks xs) in
      omega (arith, l, each x, table_long xs, more_rows (length xs) count)

  pub table_at : (xs : List X) (k : ℕ) (d : X) → k < length xs → take count (drop (k * count) (flat_map marks xs)) ≡ marks (get_or xs k d)
  table_at [] k d below = absurd (omega (arith, below))
  table_at (x ∷ xs) zero d below =
      ap (λ n. take count (drop n (marks x ++ flat_map marks xs))) none
      ∙ ap (λ n. take n (marks x ++ flat_map marks xs)) (sym (each x))
      ∙ take-append_seam (marks x) (flat_map marks xs)
    where
      none : 0 * count ≡ 0
      none = omega arith
  table_at (x ∷ xs) (suc k) d below =
      ap (λ n. take count (drop n (marks x ++ flat_map marks xs))) (more_rows k count ∙ ap (λ n. n + k * count) (sym (each x)))
      ∙ ap (take count) (drop-append-add (marks x) (flat_map marks xs) (k * count))
      ∙ table_at xs k d (omega (arith, below))

  pub table_within : (xs : List X) (k : ℕ) → k < length xs → k * count + count ≤ length (flat_map marks xs)
  table_within xs k below = let t = table_long xs in let r = row_within k (length xs) count below in omega (arith, t, r)

-- a part of such a table, as it is looked up
module _ {X : Type 0} (n m k : ℕ) (all table : List X) (count_is : n ≡ m) (all_is : all ≡ table) where
  pub part_within : k * m + m ≤ length table → k * n + n ≤ length all
  part_within within = subst (λ q. k * q + q ≤ length all) (sym count_is) (subst (λ (xs : List X). k * m + m ≤ length xs) (sym all_is) within)

  pub part_is : take (k * n + n - k * n) (drop (k * n) all) ≡ take m (drop (k * m) table)
  part_is = ap (λ q. take q (drop (k * n) all)) (less (k * n) n) ∙ ap (λ q. take q (drop (k * q) all)) count_is
      ∙ ap (λ (xs : List X). take m (drop (k * m) xs)) all_is
    where
      less : (a b : ℕ) → a + b - a ≡ b
      less a b = omega arith

-- an entry of a table, as it is looked up
module _ {X : Type 0} (marks : X → List ℕ) (count : ℕ) (each : (x : X) → length (marks x) ≡ count) (n k : ℕ) (all : List ℕ) (xs : List X)
    (count_is : n ≡ count) (all_is : all ≡ flat_map marks xs) (below : k < length xs) where
  pub entry_within : k * n + n ≤ length all
  entry_within = part_within n count k all (flat_map marks xs) count_is all_is (table_within marks count each xs k below)

  pub entry_is : (d : X) → take (k * n + n - k * n) (drop (k * n) all) ≡ marks (get_or xs k d)
  entry_is d = part_is n count k all (flat_map marks xs) count_is all_is ∙ table_at marks count each xs k d below

-- a list that a loop makes of another, element by element: one more
pub mapped_more : {X Y : Type 0} (f : X → Y) (xs : List X) (i : ℕ) (d : X) (y : Y) (before after : List Y) → i < length xs → y ≡ f (get_or xs i d)
    → before ≡ map f (take i xs) → after ≡ before ++ y ∷ [] → after ≡ map f (take (i + 1) xs)
mapped_more f xs i d y before after less is so_far pushed =
    pushed ∙ ap (λ ys. ys ++ y ∷ []) so_far ∙ ap (λ z. map f (take i xs) ++ z ∷ []) is ∙ sym (map_more f xs i d less)
