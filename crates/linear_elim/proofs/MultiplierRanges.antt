use Rattle.std.proofs.Common.{◌≡◌, ◌≢◌, ℕ, zero, suc, ◌<◌, ◌≤◌, ◌*◌, ◌^◌, ◌==◌, Bool, true, false, if◌then◌else◌, List, [], ◌∷◌, ◌++◌, Some, None}
use Rattle.std.proofs.Common.{length, ℤ, pos, negsuc, ◌*ℤ◌, unsigned_abs, refl, sym, subst, arith}
use Rattle.std.proofs.lemmas.Bool.Decides.{Decides-ltb}
use Rattle.std.proofs.lemmas.Int.{unsigned_abs-mul}
use Rattle.fraction128.specs.Range.{InRange}
use Rattle.fraction128.proofs.Whole.{parts, ring, same_dif}
use Rattle.edit_line.specs.Combinations.{first_overflow, in_range, sum_fits}
use Rattle.edit_line.specs.Shapes.{beside}
use Rattle.edit_line.proofs.BoolLaws.{both_true}

-- The multipliers of a sum whose numbers are in range are in range themselves.

no_product : (m : ℤ) → InRange (m *ℤ pos 0)
no_product m = subst InRange (sym (none m)) (omega arith)
  where
    none : (m : ℤ) → m *ℤ pos 0 ≡ pos 0
    none m = rw (parts m) (simp ring (same_dif _ _ _ _ (omega arith)))

ranged : (z : ℤ) → in_range z ≡ true → InRange z
ranged z h = (Decides-ltb (unsigned_abs z) (2 ^ 127)).0 h

-- the products at a field are in range, where no number leaves the range
pub products-beside : (i : ℕ) (m n x y : ℤ) (fields : List ℕ) (first second : List ℤ) (f : ℕ) → length first ≡ length second
    → first_overflow i m n (first ++ x ∷ []) (second ++ y ∷ []) ≡ None
    → InRange (m *ℤ beside (pos 0) fields first f) × InRange (n *ℤ beside (pos 0) fields second f)
products-beside i m n x y [] first second f same fits = (no_product m, no_product n)
products-beside i m n x y (g ∷ fields) [] [] f same fits = (no_product m, no_product n)
products-beside i m n x y (g ∷ fields) [] (b ∷ second) f same fits = absurd (omega (arith, same))
products-beside i m n x y (g ∷ fields) (a ∷ first) [] f same fits = absurd (omega (arith, same))
products-beside i m n x y (g ∷ fields) (a ∷ first) (b ∷ second) f same fits =
    by (sum_fits m n a b) refl fits (products-beside (suc i) m n x y fields first second f (omega (arith, same)))
  where
    at : (c : Bool) → InRange (m *ℤ a) → InRange (n *ℤ b) → InRange (m *ℤ beside (pos 0) fields first f) × InRange (n *ℤ beside (pos 0) fields second f)
        → InRange (m *ℤ (if c then a else beside (pos 0) fields first f)) × InRange (n *ℤ (if c then b else beside (pos 0) fields second f))
    at true one two rest = (one, two)
    at false one two rest = rest

    by : (s : Bool) → sum_fits m n a b ≡ s → (if s then first_overflow (suc i) m n (first ++ x ∷ []) (second ++ y ∷ []) else Some i) ≡ None
        → (first_overflow (suc i) m n (first ++ x ∷ []) (second ++ y ∷ []) ≡ None
        → InRange (m *ℤ beside (pos 0) fields first f) × InRange (n *ℤ beside (pos 0) fields second f))
        → InRange (m *ℤ (if g == f then a else beside (pos 0) fields first f)) × InRange (n *ℤ (if g == f then b else beside (pos 0) fields second f))
    by true is h rest =
        let (one, more) = both_true (in_range (m *ℤ a)) _ is in
        let (two, sum) = both_true (in_range (n *ℤ b)) _ more in
        at (g == f) (ranged (m *ℤ a) one) (ranged (n *ℤ b) two) (rest h)
    by false is h rest = absurd (cc)

-- a factor of a product in range is in range, where the other is not 0
pub factor-ranged : (m a : ℤ) → a ≢ pos 0 → InRange (m *ℤ a) → InRange m
factor-ranged m a apart fits = by (unsigned_abs a) refl (subst (λ n. n < 2 ^ 127) (unsigned_abs-mul m a) (omega (arith, fits)))
  where
    none : (a : ℤ) → unsigned_abs a ≡ 0 → a ≡ pos 0
    none (pos zero) e = refl
    none (pos (suc n)) e = absurd (omega (arith, e))
    none (negsuc n) e = absurd (omega (arith, e))

    grows : (m k : ℕ) → m ≤ m * suc k
    grows m k = grind arith

    by : (k : ℕ) → unsigned_abs a ≡ k → unsigned_abs m * unsigned_abs a < 2 ^ 127 → InRange m
    by zero e h = absurd (apart (none a e))
    by (suc k) e h =
        let bound : unsigned_abs m * suc k < 2 ^ 127 = subst (λ n. unsigned_abs m * n < 2 ^ 127) e h in
        omega (arith, grows (unsigned_abs m) k, bound)
