use Rattle.std.proofs.Common.{◌≡◌, ℕ, zero, suc, ◌<◌, ◌^◌, List, [], ◌∷◌, All, map, take, ℤ, pos, negsuc, ◌<ℤ◌, ◌+ℤ◌, ◌*ℤ◌, unsigned_abs, int_div, refl, sym}
use Rattle.std.proofs.Common.{ap, ◌∙◌, subst, arith}
use Rattle.std.specs.Int.{◌∣◌}
use Rattle.std.proofs.Math.Nat.{eq-one_of_dvd-one, one-dvd}
use Rattle.std.proofs.lemmas.Nat.Gcd.{dvd_refl, dvd_trans}
use Rattle.std.proofs.lemmas.Int.{ints}
use Rattle.std.proofs.lemmas.List.{length-map}
use Rattle.fraction128.proofs.DivisorLaws.{IsGcd-gcd, gcd-below, quotient-exact, quotient-in_range}
use Rattle.fraction128.proofs.Whole.{parts, ring, same_dif}
use Rattle.fraction128.specs.Divisor.{gcd}
use Rattle.fraction128.specs.Range.{InRange}
use Rattle.edit_model.specs.Points.{Point}
use Rattle.edit_line.specs.Divisors.{divided_by, divisor_of, gcd_all, gcd_onto, or_one, reduced}
use Rattle.edit_line.specs.Lines.{IsEnough, IsLine, LineHolds, LineParts, amount, parts_of, weighted}
use Rattle.edit_line.specs.Sets.{AreCodesIn}
use Rattle.edit_line.specs.Shapes.{codes_at, numerators_at}
use Rattle.edit_line.proofs.Enough.{IsEnough-times, IsEnough_cancel}

-- A line that is divided by the greatest common divisor of its numbers says what the line says.

-- the common divisor divides the first number and each of the list
gcd_onto-first : (g : ℕ) (xs : List ℤ) → gcd_onto g xs ∣ g
gcd_onto-first g [] = dvd_refl g
gcd_onto-first g (x ∷ xs) = dvd_trans _ (gcd_onto-first (gcd g (unsigned_abs x)) xs) (IsGcd-gcd g (unsigned_abs x)).0

gcd_onto-each : (g : ℕ) (xs : List ℤ) → All (λ x. gcd_onto g xs ∣ unsigned_abs x) xs
gcd_onto-each g [] k d below = absurd (omega arith)
gcd_onto-each g (x ∷ xs) zero d below = dvd_trans _ (gcd_onto-first (gcd g (unsigned_abs x)) xs) (IsGcd-gcd g (unsigned_abs x)).1
gcd_onto-each g (x ∷ xs) (suc k) d below = gcd_onto-each (gcd g (unsigned_abs x)) xs k d (omega arith)

-- 1 in place of 0 divides what the number divides
or_one-divides : (g n : ℕ) → g ∣ n → or_one g ∣ n
or_one-divides zero n d = one-dvd n
or_one-divides (suc g) n d = d

or_one-above : (g : ℕ) → pos 0 <ℤ pos (or_one g)
or_one-above zero = omega (arith, ints)
or_one-above (suc g) = omega (arith, ints)

or_one-below : (g m : ℕ) → g < m → 1 < m → or_one g < m
or_one-below zero m below more = more
or_one-below (suc g) m below more = below

module _ (factors : List ℤ) (constant : ℤ) where
  -- the divisor is positive
  pub divisor-above : pos 0 <ℤ divisor_of factors constant
  divisor-above = or_one-above (gcd_all (constant ∷ factors))

  -- and divides each of the numbers
  pub divides-constant : or_one (gcd_all (constant ∷ factors)) ∣ unsigned_abs constant
  divides-constant = or_one-divides (gcd_all (constant ∷ factors)) _ (gcd_onto-each 0 (constant ∷ factors) 0 constant (omega arith))

  pub divides-factors : All (λ x. or_one (gcd_all (constant ∷ factors)) ∣ unsigned_abs x) factors
  divides-factors k d below = or_one-divides (gcd_all (constant ∷ factors)) _ (gcd_onto-each 0 (constant ∷ factors) (suc k) d (omega arith))

-- ---- the range

gcd_onto-below : (g m : ℕ) (xs : List ℤ) → g < m → All (λ x. unsigned_abs x < m) xs → gcd_onto g xs < m
gcd_onto-below g m [] below all = below
gcd_onto-below g m (x ∷ xs) below all = gcd_onto-below (gcd g (unsigned_abs x)) m xs (gcd-below g (unsigned_abs x) m below (all 0 x (omega arith)))
    (λ k d under. all (suc k) d (omega arith))

-- the divisor is in range where the numbers are
pub divisor-in_range : (factors : List ℤ) (constant : ℤ) → All InRange factors → InRange constant → InRange (divisor_of factors constant)
divisor-in_range factors constant all fits = or_one-below (gcd_all (constant ∷ factors)) _ (gcd_onto-below 0 _ (constant ∷ factors) (omega arith) each)
    (omega arith)
  where
    each : All (λ x. unsigned_abs x < 2 ^ 127) (constant ∷ factors)
    each zero d below = fits
    each (suc k) d below = all k d (omega arith)

-- and so are the quotients
pub quotients-in_range : (xs : List ℤ) (g : ℕ) → All InRange xs → All InRange (map (λ c. int_div c (pos g)) xs)
quotients-in_range [] g all k d below = absurd (omega arith)
quotients-in_range (x ∷ xs) g all zero d below = quotient-in_range x _ g refl (all 0 x (omega arith))
quotients-in_range (x ∷ xs) g all (suc k) d below = quotients-in_range xs g (λ j e under. all (suc j) e (omega arith)) k d (omega arith)

-- ---- what the divided line says

product_over : (w q x g a : ℤ) → q *ℤ g ≡ a → (q *ℤ x +ℤ w) *ℤ g ≡ a *ℤ x +ℤ w *ℤ g
product_over w q x g a e = opened q x w g ∙ ap (λ (b : ℤ). b *ℤ x +ℤ w *ℤ g) e
  where
    opened : (q x w g : ℤ) → (q *ℤ x +ℤ w) *ℤ g ≡ (q *ℤ g) *ℤ x +ℤ w *ℤ g
    opened q x w g = rw (parts q, parts x, parts w, parts g) (simp ring (same_dif _ _ _ _ (omega arith)))

no_product : (g : ℤ) → pos 0 *ℤ g ≡ pos 0
no_product g = rw (parts g) (simp ring (same_dif _ _ _ _ (omega arith)))

weighted-quotients : (factors values : List ℤ) (g : ℕ) → All (λ x. g ∣ unsigned_abs x) factors → weighted (map (λ c. int_div c (pos g)) factors) values *ℤ pos g
    ≡ weighted factors values
weighted-quotients [] values g divides = no_product (pos g)
weighted-quotients (a ∷ factors) [] g divides = no_product (pos g)
weighted-quotients (a ∷ factors) (x ∷ values) g divides =
    product_over (weighted (map (λ c. int_div c (pos g)) factors) values) (int_div a (pos g)) x (pos g) a
    (quotient-exact a _ g refl (divides 0 a (omega arith)))
    ∙ ap (λ (w : ℤ). a *ℤ x +ℤ w) (weighted-quotients factors values g (λ k d below. divides (suc k) d (omega arith)))

sum_over : (w q d g a v : ℤ) → q *ℤ g ≡ a → w *ℤ g ≡ v → (w +ℤ q *ℤ d) *ℤ g ≡ v +ℤ a *ℤ d
sum_over w q d g a v e f = opened w q d g ∙ ap (λ (b : ℤ). w *ℤ g +ℤ b *ℤ d) e ∙ ap (λ (b : ℤ). b +ℤ a *ℤ d) f
  where
    opened : (w q d g : ℤ) → (w +ℤ q *ℤ d) *ℤ g ≡ w *ℤ g +ℤ (q *ℤ g) *ℤ d
    opened w q d g = rw (parts w, parts q, parts d, parts g) (simp ring (same_dif _ _ _ _ (omega arith)))

-- the amount of the divided line, times the divisor, is that of the line
pub reduced-amount : (line : LineParts) (p : Point) → amount (reduced line) p *ℤ divisor_of line.factors line.constant ≡ amount line p
unfolding reduced
reduced-amount line p =
    sum_over _ _ p.denominator _ line.constant _ (quotient-exact line.constant _ _ refl (divides-constant line.factors line.constant))
    (weighted-quotients line.factors (numerators_at line.shape p) _ (divides-factors line.factors line.constant))

-- where the divided line holds, the line's amount is enough at codes of its sets
pub reduced-enough : (line : LineParts) (p : Point) → LineHolds (reduced line) p → AreCodesIn line.sets (codes_at line.shape p)
    → IsEnough line.relation (amount line p)
unfolding reduced
reduced-enough line p holds inside =
    subst (λ (z : ℤ). IsEnough line.relation z) (reduced-amount line p) (IsEnough-times line.relation (amount (reduced line) p) _
    (divisor-above line.factors line.constant) (holds.enough inside))

-- and the other way round
pub enough-reduced : (line : LineParts) (p : Point) → (AreCodesIn line.sets (codes_at line.shape p) → IsEnough line.relation (amount line p))
    → LineHolds (reduced line) p
unfolding reduced
enough-reduced line p enough = record {
  enough = λ inside.
      IsEnough_cancel line.relation (amount (reduced line) p) _ (divisor-above line.factors line.constant)
      (subst (λ (z : ℤ). IsEnough line.relation z) (sym (reduced-amount line p)) (enough inside));
}

-- ---- a divided line is a line

pub IsLine-divided : (line : LineParts) (g : ℤ) → pos 0 <ℤ g → IsLine line → IsLine (divided_by g line)
IsLine-divided line (pos g) above is = record {
  sets = is.sets;
  factors = length-map line.factors _ ∙ is.factors;
  in_range = (quotients-in_range line.factors g is.in_range.0, quotient-in_range line.constant _ g refl is.in_range.1);
  whole = is.whole;
}
IsLine-divided line (negsuc g) above is = absurd above.lt

-- the line that is made of the quotients
pub divided-is : (line : LineParts) (g dividing : ℤ) (factors : List ℤ) (given q last : ℤ) → dividing ≡ g → given ≡ line.constant → factors
    ≡ map (λ c. int_div c dividing) line.factors → q ≡ int_div given dividing → last ≡ q
    → parts_of line.shape line.sets factors last line.relation ≡ divided_by g line
divided-is line g dividing factors given q last dividing_is given_is factors_are q_is last_is =
    let quotients : factors ≡ map (λ c. int_div c g) line.factors = factors_are ∙ ap (λ (d : ℤ). map (λ c. int_div c d) line.factors) dividing_is in
    let constant : last ≡ int_div line.constant g = last_is ∙ q_is ∙ (λ i. int_div (given_is i) (dividing_is i)) in
    λ i. parts_of line.shape line.sets (quotients i) (constant i) line.relation

-- a line that is divided by the greatest common divisor of its numbers
pub reduced-is : (old new : LineParts) (factors : List ℤ) (constant g divisor : ℤ) → factors ≡ old.factors → constant ≡ old.constant → divisor
    ≡ divisor_of factors constant → g ≡ divisor → new ≡ divided_by g old → new ≡ reduced old
unfolding reduced
reduced-is old new factors constant g divisor factors_are constant_is divisor_is g_is new_is = new_is
    ∙ ap (λ (d : ℤ). divided_by d old) (g_is ∙ divisor_is ∙ (λ i. divisor_of (factors_are i) (constant_is i)))

pub shape-reduced : (line : LineParts) → (reduced line).shape ≡ line.shape
unfolding reduced
shape-reduced line = refl

-- ---- the divisor 1

-- a quotient by 1 is the number
int_div-one : (z : ℤ) → int_div z (pos 1) ≡ z
int_div-one z = times-one (int_div z (pos 1)) ∙ quotient-exact z (int_div z (pos 1)) 1 refl (one-dvd (unsigned_abs z))
  where
    times-one : (q : ℤ) → q ≡ q *ℤ pos 1
    times-one q = rw (parts q) (simp ring (same_dif _ _ _ _ (omega arith)))

-- numbers that are divided by 1 stay
pub quotients-one : (xs : List ℤ) (g : ℤ) → g ≡ pos 1 → xs ≡ map (λ c. int_div c g) xs
quotients-one [] g is = refl
quotients-one (x ∷ xs) g is = (λ i. sym (ap (λ (d : ℤ). int_div x d) is ∙ int_div-one x) i ∷ quotients-one xs g is i)

-- 1 has no common divisor with any number but 1
pub gcd-one : (n : ℕ) → gcd 1 n ≡ 1
gcd-one n = eq-one_of_dvd-one (IsGcd-gcd 1 n).0

gcd_onto-one : (xs : List ℤ) → gcd_onto 1 xs ≡ 1
gcd_onto-one [] = refl
gcd_onto-one (x ∷ xs) = ap (λ g. gcd_onto g xs) (gcd-one (unsigned_abs x)) ∙ gcd_onto-one xs

-- a common divisor that is 1 for the first numbers is 1 for all
gcd_onto-stops : (g : ℕ) (xs : List ℤ) (i : ℕ) → gcd_onto g (take i xs) ≡ 1 → gcd_onto g xs ≡ 1
gcd_onto-stops g xs zero one = ap (λ d. gcd_onto d xs) one ∙ gcd_onto-one xs
gcd_onto-stops g [] (suc i) one = one
gcd_onto-stops g (x ∷ xs) (suc i) one = gcd_onto-stops (gcd g (unsigned_abs x)) xs i one

pub divisor-stops : (constant d : ℤ) (factors : List ℤ) (i : ℕ) → d ≡ pos (gcd_all (constant ∷ take i factors)) → d ≡ pos 1 → d
    ≡ pos (gcd_all (constant ∷ factors))
divisor-stops constant d factors i is one =
    one ∙ ap (λ n. pos n) (sym (gcd_onto-stops (gcd 0 (unsigned_abs constant)) factors i (cc (is, one))))

-- the quotient by 1
pub quotient-one : (z g : ℤ) → g ≡ pos 1 → z ≡ int_div z g
quotient-one z g is = sym (ap (λ (d : ℤ). int_div z d) is ∙ int_div-one z)
