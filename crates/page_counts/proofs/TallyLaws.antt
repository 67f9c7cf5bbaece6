use Rattle.std.proofs.Common.{◌≡◌, ◌∙◌, ◌==◌, cond, ℕ, ◌<◌, ◌≤◌, Bool, true, List, [], ◌∷◌, length, get_or}
use Rattle.std.proofs.Common.{map, Any, Contains, Option, Some, None, IfSome, count_by, unwrap_or, refl, sym, ap, subst, arith}
use Rattle.std.specs.BTreeMap.{BTreeMap, IsOrdered, get, keys}
use Rattle.std.specs.List.Sorted.{IsStrictlyIncreasing}
use Rattle.std.specs.Ordering.{eq_by_cmp, nat_cmp}
use Rattle.std.proofs.lemmas.Bool.{eq-eqb}
use Rattle.std.proofs.lemmas.Bool.Decides.{nat_tests}
use Rattle.std.proofs.lemmas.Cmp.{nat_cmp_total}
use Rattle.std.proofs.lemmas.List.{get_or-map, get_or_default, length-map}
use Rattle.std.proofs.lemmas.List.Sums.{get_or-le-sum_by}
use Rattle.std.proofs.lemmas.Map.Keys.{IsStrictlyIncreasing-from_sorted}
use Rattle.std.proofs.lemmas.Map.Views.{All-found, Contains-from_lookup}
use Rattle.page_counts.specs.Amounts.{IsTally}
use Rattle.page_counts.specs.declared.amounts.Amount.{Amount}
use Rattle.page_counts.specs.declared.amounts.SizeCount.{SizeCount}

-- What the entries of a map of counts say.

-- the size and its count
abbrev pair : SizeCount → ℕ × ℕ
pair c = (c.size, c.count)

sizes_are : (counts : List SizeCount) → map (λ (c : SizeCount). c.size) counts ≡ map (λ (e : ℕ × ℕ). e.0) (map pair counts)
sizes_are [] = refl
sizes_are (c ∷ counts) = ap (λ (ks : List ℕ). c.size ∷ ks) (sizes_are counts)

-- equal by order is equal
same_key : (x y : ℕ) → eq_by_cmp nat_cmp x y ≡ true → x ≡ y
same_key x y is = grind (arith, nat_tests)

-- a number counts itself
counts_itself : (q n : ℕ) → cond (q == q) 1 0 ≤ n → 1 ≤ n
counts_itself q n h = subst (λ (b : Bool). cond b 1 0 ≤ n) (eq-eqb q q refl) h

module _ (amounts : List Amount) (m : BTreeMap ℕ ℕ) (ordered : IsOrdered nat_cmp m) (counts : List SizeCount) (same : map pair counts ≡ m.entries)
    (found : (size : ℕ) → unwrap_or (get nat_cmp m size) 0 ≡ count_by (λ (a : Amount). a.size == size) amounts) (some : (size : ℕ) → IfSome
    (get nat_cmp m size) (λ n. 1 ≤ n)) where
  long : length counts ≡ length m.entries
  long = sym (length-map counts pair) ∙ ap (λ (es : List (ℕ × ℕ)). length es) same

  -- an entry is read
  entry_at : (k : ℕ) (d : SizeCount) → k < length counts → get_or m.entries k (pair d) ≡ pair (get_or counts k d)
  entry_at k d below = ap (λ (es : List (ℕ × ℕ)). get_or es k (pair d)) (sym same) ∙ get_or-map pair counts k d (pair d) below

  entry : (k : ℕ) (d : SizeCount) → k < length counts → get nat_cmp m (get_or counts k d).size ≡ Some (get_or counts k d).count
  entry k d below =
      subst (λ (e : ℕ × ℕ). get nat_cmp m e.0 ≡ Some e.1) (entry_at k d below) (All-found nat_cmp_total m ordered k (pair d) (omega (arith, long)))

  -- a size that occurs is counted
  counted_size : (q v : ℕ) → Contains m.entries (q, v) → Any (λ (c : SizeCount). c.size ≡ q) counts
  counted_size q v (j, below, is) =
      let d : SizeCount = record { size = q; count = v } in
      let inside : j < length counts = omega (arith, long) in
      let x : SizeCount = get_or counts j d in
      (j, x, inside, get_or_default counts j x d inside, ap (λ (e : ℕ × ℕ). e.0) (sym (entry_at j d inside) ∙ is))

  occurs : (q : ℕ) (o : Option ℕ) → get nat_cmp m q ≡ o → 1 ≤ unwrap_or o 0 → Any (λ (c : SizeCount). c.size ≡ q) counts
  occurs q None is low = absurd (omega arith)
  occurs q (Some v) is low = counted_size q v (Contains-from_lookup {eq = eq_by_cmp nat_cmp} same_key q v m.entries is)

  size_occurs : (k : ℕ) (d : Amount) → k < length amounts → Any (λ (c : SizeCount). c.size ≡ (get_or amounts k d).size) counts
  size_occurs k d below =
      let q = (get_or amounts k d).size in
      let some_count : 1 ≤ count_by (λ (a : Amount). a.size == q) amounts =
      counts_itself q (count_by (λ (a : Amount). a.size == q) amounts) (get_or-le-sum_by (λ (a : Amount). cond (a.size == q) 1 0) amounts k d below) in
      occurs q (get nat_cmp m q) refl (omega (arith, some_count, found q))

  pub tallied : IsTally amounts counts
  tallied = record {
    rising = subst IsStrictlyIncreasing (sym (sizes_are counts
        ∙ ap (λ (es : List (ℕ × ℕ)). map (λ (e : ℕ × ℕ). e.0) es) same)) (IsStrictlyIncreasing-from_sorted (keys m) ordered);
    each = λ k d below. sym (ap (λ (o : Option ℕ). unwrap_or o 0) (entry k d below)) ∙ found (get_or counts k d).size;
    some = λ k d below. subst (λ (o : Option ℕ). IfSome o (λ n. 1 ≤ n)) (entry k d below) (some (get_or counts k d).size);
    all = λ k d below. size_occurs k d below;
  }
