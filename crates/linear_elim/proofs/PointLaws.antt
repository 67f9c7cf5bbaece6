use Rattle.std.proofs.Common.{◌≡◌, ◌≢◌, ℕ, suc, ◌<◌, ◌==◌, ◌||◌, Bool, true, false, if◌then◌else◌, List, [], ◌∷◌, map, ℤ, pos, ◌<ℤ◌, ◌+ℤ◌, ◌-ℤ◌, ◌*ℤ◌}
use Rattle.std.proofs.Common.{refl, sym, ap, ◌∙◌, subst, arith}
use Rattle.std.specs.Ordering.{int_eq}
use Rattle.std.proofs.lemmas.Bool.Decides.{Decides-eqb, Decides-int_eq}
use Rattle.fraction128.proofs.Signs.{above-*}
use Rattle.fraction128.proofs.Whole.{parts, ring, same_dif}
use Rattle.edit_model.specs.Points.{Point}
use Rattle.edit_line.specs.Lines.{IsEnough, LineHolds, LineParts, amount, factor, weighted}
use Rattle.edit_line.specs.Sets.{AreCodesIn}
use Rattle.edit_line.specs.Shapes.{Categorical, Domain, IsNumerical, Numerical, beside, code_fields, codes_at, codes_from, has_field, numbers_from}
use Rattle.edit_line.proofs.Enough.{IsEnough-times, IsEnough_cancel}
use Rattle.linear_elim.specs.PointChanges.{DiffersOnlyAt}

-- A line at two points, and at a point with another value at a field.

-- ---- fields of a shape

-- a field before number i is none of those from i on
pub beside-before : (f i : ℕ) (shape : List Domain) (factors : List ℤ) → f < i → beside (pos 0) (numbers_from i shape) factors f ≡ pos 0
beside-before f i [] factors below = refl
beside-before f i (Numerical ∷ shape) [] below = refl
beside-before f i (Numerical ∷ shape) (a ∷ factors) below = by (i == f) refl (beside-before f (suc i) shape factors (omega arith))
  where
    by : (b : Bool) → (i == f) ≡ b → beside (pos 0) (numbers_from (suc i) shape) factors f ≡ pos 0
        → (if b then a else beside (pos 0) (numbers_from (suc i) shape) factors f) ≡ pos 0
    by true e rest = let same : i ≡ f = (Decides-eqb i f).0 e in absurd (omega arith)
    by false e rest = rest
beside-before f i (Categorical k ∷ shape) factors below = beside-before f (suc i) shape factors (omega arith)

no_number-before : (f i : ℕ) (shape : List Domain) → f < i → has_field (numbers_from i shape) f ≡ false
no_number-before f i [] below = refl
no_number-before f i (Numerical ∷ shape) below = by (i == f) refl (no_number-before f (suc i) shape (omega arith))
  where
    by : (b : Bool) → (i == f) ≡ b → has_field (numbers_from (suc i) shape) f ≡ false → (b || has_field (numbers_from (suc i) shape) f) ≡ false
    by true e rest = let same : i ≡ f = (Decides-eqb i f).0 e in absurd (omega arith)
    by false e rest = rest
no_number-before f i (Categorical k ∷ shape) below = no_number-before f (suc i) shape (omega arith)

-- a field before number i is no categorical field from there on
pub no_code-before : (f i : ℕ) (shape : List Domain) → f < i → has_field (codes_from i shape) f ≡ false
no_code-before f i [] below = refl
no_code-before f i (Numerical ∷ shape) below = no_code-before f (suc i) shape (omega arith)
no_code-before f i (Categorical k ∷ shape) below = by (i == f) refl (no_code-before f (suc i) shape (omega arith))
  where
    by : (b : Bool) → (i == f) ≡ b → has_field (codes_from (suc i) shape) f ≡ false → (b || has_field (codes_from (suc i) shape) f) ≡ false
    by true e rest = let same : i ≡ f = (Decides-eqb i f).0 e in absurd (omega arith)
    by false e rest = rest

-- a numerical field is not categorical
pub number-no_code : (f i : ℕ) (shape : List Domain) → has_field (numbers_from i shape) f ≡ true → has_field (codes_from i shape) f ≡ false
number-no_code f i [] h = refl
number-no_code f i (Numerical ∷ shape) h = by (i == f) refl (number-no_code f (suc i) shape) h
  where
    by : (b : Bool) → (i == f) ≡ b → (has_field (numbers_from (suc i) shape) f ≡ true → has_field (codes_from (suc i) shape) f ≡ false)
        → (b || has_field (numbers_from (suc i) shape) f) ≡ true → has_field (codes_from (suc i) shape) f ≡ false
    by true e rest h = let same : i ≡ f = (Decides-eqb i f).0 e in no_code-before f (suc i) shape (omega arith)
    by false e rest h = rest h
number-no_code f i (Categorical k ∷ shape) h = by (i == f) refl (number-no_code f (suc i) shape h)
  where
    by : (b : Bool) → (i == f) ≡ b → has_field (codes_from (suc i) shape) f ≡ false → (b || has_field (codes_from (suc i) shape) f) ≡ false
    by true e rest = let same : i ≡ f = (Decides-eqb i f).0 e in absurd (cc (sym h ∙ no_number-before f (suc i) shape (omega arith)))
    by false e rest = rest

-- two functions that agree at the fields of a list
pub map-agree : {X : Type 0} (g h : ℕ → X) (fields : List ℕ) → ((i : ℕ) → has_field fields i ≡ true → g i ≡ h i) → map g fields ≡ map h fields
map-agree g h [] same = refl
map-agree g h (i ∷ fields) same =
    let here = same i (own i (has_field fields i)) in
    let rest = map-agree g h fields (λ j there. same j (later (i == j) (has_field fields j) there)) in
    λ k. here k ∷ rest k
  where
    own : (i : ℕ) (b : Bool) → ((i == i) || b) ≡ true
    own i b = rw ((Decides-eqb i i).1 refl) refl

    later : (a b : Bool) → b ≡ true → (a || b) ≡ true
    later true b e = refl
    later false b e = e

-- the codes of points that differ at a numerical field alone
pub codes-others : (shape : List Domain) (f : ℕ) (p q : Point) → IsNumerical shape f → DiffersOnlyAt f p q → codes_at shape q ≡ codes_at shape p
codes-others shape f p q number differs = map-agree q.code p.code (code_fields shape) (λ i there. differs.codes i (other i there))
  where
    other : (i : ℕ) → has_field (code_fields shape) i ≡ true → i ≢ f
    other i there same = cc (sym there ∙ ap (λ j. has_field (code_fields shape) j) same ∙ number-no_code f 0 shape number)

-- ---- the amounts at two points with the same values

nothing_on : (d e : ℤ) → pos 0 *ℤ d ≡ pos 0 *ℤ e
nothing_on d e = rw (parts d, parts e) (simp ring (same_dif _ _ _ _ (omega arith)))

product_on : (a x y d e w v : ℤ) → x *ℤ d ≡ y *ℤ e → w *ℤ d ≡ v *ℤ e → (a *ℤ x +ℤ w) *ℤ d ≡ (a *ℤ y +ℤ v) *ℤ e
product_on a x y d e w v p q = opened a x w d ∙ ap (λ (z : ℤ). a *ℤ z +ℤ w *ℤ d) p ∙ ap (λ (z : ℤ). a *ℤ (y *ℤ e) +ℤ z) q ∙ sym (opened a y v e)
  where
    opened : (a x w d : ℤ) → (a *ℤ x +ℤ w) *ℤ d ≡ a *ℤ (x *ℤ d) +ℤ w *ℤ d
    opened a x w d = rw (parts a, parts x, parts w, parts d) (simp ring (same_dif _ _ _ _ (omega arith)))

none_on : (a x y d e w v : ℤ) → a ≡ pos 0 → w *ℤ d ≡ v *ℤ e → (a *ℤ x +ℤ w) *ℤ d ≡ (a *ℤ y +ℤ v) *ℤ e
none_on a x y d e w v zero_is q = rw (zero_is) (opened x w d ∙ q ∙ sym (opened y v e))
  where
    opened : (x w d : ℤ) → (pos 0 *ℤ x +ℤ w) *ℤ d ≡ w *ℤ d
    opened x w d = rw (parts x, parts w, parts d) (simp ring (same_dif _ _ _ _ (omega arith)))

-- the sums, where each field with a factor has the same value at both points
weighted-same : (p q : Point) (i : ℕ) (shape : List Domain) (factors : List ℤ)
    → ((j : ℕ) → beside (pos 0) (numbers_from i shape) factors j ≢ pos 0 → q.numerator j *ℤ p.denominator ≡ p.numerator j *ℤ q.denominator)
    → weighted factors (map q.numerator (numbers_from i shape)) *ℤ p.denominator ≡ weighted factors (map p.numerator (numbers_from i shape)) *ℤ q.denominator
weighted-same p q i [] [] same = nothing_on p.denominator q.denominator
weighted-same p q i [] (a ∷ factors) same = nothing_on p.denominator q.denominator
weighted-same p q i (Categorical k ∷ shape) factors same = weighted-same p q (suc i) shape factors same
weighted-same p q i (Numerical ∷ shape) [] same = nothing_on p.denominator q.denominator
weighted-same p q i (Numerical ∷ shape) (a ∷ factors) same = by (int_eq a (pos 0)) refl (weighted-same p q (suc i) shape factors later)
  where
    own : beside (pos 0) (i ∷ numbers_from (suc i) shape) (a ∷ factors) i ≡ a
    own = rw ((Decides-eqb i i).1 refl) refl

    later : (j : ℕ) → beside (pos 0) (numbers_from (suc i) shape) factors j ≢ pos 0 → q.numerator j *ℤ p.denominator ≡ p.numerator j *ℤ q.denominator
    later j some = same j (at_next (i == j) refl)
      where
        at_next : (b : Bool) → (i == j) ≡ b → (if b then a else beside (pos 0) (numbers_from (suc i) shape) factors j) ≢ pos 0
        at_next true e = λ _. let is : i ≡ j = (Decides-eqb i j).0 e in some (beside-before j (suc i) shape factors (omega arith))
        at_next false e = some

    by : (b : Bool) → int_eq a (pos 0) ≡ b
        → weighted factors (map q.numerator (numbers_from (suc i) shape)) *ℤ p.denominator
        ≡ weighted factors (map p.numerator (numbers_from (suc i) shape)) *ℤ q.denominator
        → weighted (a ∷ factors) (map q.numerator (i ∷ numbers_from (suc i) shape)) *ℤ p.denominator
        ≡ weighted (a ∷ factors) (map p.numerator (i ∷ numbers_from (suc i) shape)) *ℤ q.denominator
    by true e rest = none_on a _ _ _ _ _ _ ((Decides-int_eq a (pos 0)).0 e) rest
    by false e rest = product_on a _ _ _ _ _ _ (same i (λ is. cc (sym e ∙ (Decides-int_eq a (pos 0)).1 (sym own ∙ is)))) rest

constant_on : (w v c d e : ℤ) → w *ℤ d ≡ v *ℤ e → (w +ℤ c *ℤ e) *ℤ d ≡ (v +ℤ c *ℤ d) *ℤ e
constant_on w v c d e q = opened w c d e ∙ ap (λ (z : ℤ). z +ℤ c *ℤ d *ℤ e) q ∙ closed v c d e
  where
    opened : (w c d e : ℤ) → (w +ℤ c *ℤ e) *ℤ d ≡ w *ℤ d +ℤ c *ℤ d *ℤ e
    opened w c d e = rw (parts w, parts c, parts d, parts e) (simp ring (same_dif _ _ _ _ (omega arith)))

    closed : (v c d e : ℤ) → v *ℤ e +ℤ c *ℤ d *ℤ e ≡ (v +ℤ c *ℤ d) *ℤ e
    closed v c d e = rw (parts v, parts c, parts d, parts e) (simp ring (same_dif _ _ _ _ (omega arith)))

-- the amounts at two points with the same values where the line has a factor
pub amount-same : (line : LineParts) (p q : Point) → ((i : ℕ) → factor line i ≢ pos 0 → q.numerator i *ℤ p.denominator ≡ p.numerator i *ℤ q.denominator)
    → amount line q *ℤ p.denominator ≡ amount line p *ℤ q.denominator
amount-same line p q same = constant_on _ _ line.constant p.denominator q.denominator (weighted-same p q 0 line.shape line.factors same)

-- a line that holds at a point holds where the codes are the same, and the values at its fields
pub LineHolds-same : (line : LineParts) (p q : Point) → codes_at line.shape q ≡ codes_at line.shape p
    → ((i : ℕ) → factor line i ≢ pos 0 → q.numerator i *ℤ p.denominator ≡ p.numerator i *ℤ q.denominator) → LineHolds line q → LineHolds line p
LineHolds-same line p q codes same holds = record {
  enough = λ inside.
      let at_q : IsEnough line.relation (amount line q) = holds.enough (subst (λ (cs : List ℕ). AreCodesIn line.sets cs) (sym codes) inside) in
      IsEnough_cancel line.relation (amount line p) q.denominator q.positive
      (subst (λ (z : ℤ). IsEnough line.relation z) (amount-same line p q same) (IsEnough-times line.relation (amount line q) p.denominator p.positive at_q));
}

-- a line without the numerical field holds at both of two points that differ only there
pub LineHolds-others : (line : LineParts) (p q : Point) (f : ℕ) → IsNumerical line.shape f → DiffersOnlyAt f p q → factor line f ≡ pos 0 → LineHolds line q
    → LineHolds line p
LineHolds-others line p q f number differs none =
    LineHolds-same line p q (codes-others line.shape f p q number differs) (λ i some. differs.numbers i (λ same. some (ap (λ j. factor line j) same ∙ none)))

-- ---- a point with another value at a field

-- the point with code c and the value v / (denominator * d) at the field
abbrev pub put : Point → ℕ → ℕ → ℤ → (d : ℤ) → pos 0 <ℤ d → Point
put p f c v d above = record {
  code = λ i. if i == f then c else p.code i;
  numerator = λ i. if i == f then v else p.numerator i *ℤ d;
  denominator = p.denominator *ℤ d;
  positive = above-* p.denominator d p.positive above;
}

-- what a line's amount is beside its part at the field
abbrev pub rest_at : LineParts → ℕ → Point → ℤ
rest_at line f p = amount line p -ℤ factor line f *ℤ p.numerator f

module _ (p : Point) (f c : ℕ) (v d : ℤ) (above : pos 0 <ℤ d) where
  abbrev new_numbers : ℕ → List Domain → List ℤ
  new_numbers i shape = map (put p f c v d above).numerator (numbers_from i shape)

  nothing : pos 0 ≡ pos 0 *ℤ d
  nothing = rw (parts d) (simp ring (same_dif _ _ _ _ (omega arith)))

  -- the sum over fields after f
  weighted-past : (i : ℕ) (shape : List Domain) (factors : List ℤ) → f < i
      → weighted factors (new_numbers i shape) ≡ weighted factors (map p.numerator (numbers_from i shape)) *ℤ d
  weighted-past i [] [] below = nothing
  weighted-past i [] (a ∷ factors) below = nothing
  weighted-past i (Categorical k ∷ shape) factors below = weighted-past (suc i) shape factors (omega arith)
  weighted-past i (Numerical ∷ shape) [] below = nothing
  weighted-past i (Numerical ∷ shape) (a ∷ factors) below = by (i == f) refl (weighted-past (suc i) shape factors (omega arith))
    where
      opened : (a x w u : ℤ) → u ≡ w *ℤ d → a *ℤ (x *ℤ d) +ℤ u ≡ (a *ℤ x +ℤ w) *ℤ d
      opened a x w u e = rw (e, parts a, parts x, parts w, parts d) (simp ring (same_dif _ _ _ _ (omega arith)))

      by : (b : Bool) → (i == f) ≡ b → weighted factors (new_numbers (suc i) shape) ≡ weighted factors (map p.numerator (numbers_from (suc i) shape)) *ℤ d
          → a *ℤ (if b then v else p.numerator i *ℤ d) +ℤ weighted factors (new_numbers (suc i) shape)
          ≡ (a *ℤ p.numerator i +ℤ weighted factors (map p.numerator (numbers_from (suc i) shape))) *ℤ d
      by true e rest = let same : i ≡ f = (Decides-eqb i f).0 e in absurd (omega arith)
      by false e rest = opened a (p.numerator i) _ _ rest

  no_sum : (n : ℤ) → pos 0 ≡ pos 0 *ℤ v +ℤ (pos 0 -ℤ pos 0 *ℤ n) *ℤ d
  no_sum n = rw (parts v, parts n, parts d) (simp ring (same_dif _ _ _ _ (omega arith)))

  -- the sum with the new value
  weighted-put : (i : ℕ) (shape : List Domain) (factors : List ℤ)
      → weighted factors (new_numbers i shape)
      ≡ beside (pos 0) (numbers_from i shape) factors f *ℤ v +ℤ
      (weighted factors (map p.numerator (numbers_from i shape)) -ℤ beside (pos 0) (numbers_from i shape) factors f *ℤ p.numerator f) *ℤ d
  weighted-put i [] [] = no_sum (p.numerator f)
  weighted-put i [] (a ∷ factors) = no_sum (p.numerator f)
  weighted-put i (Categorical k ∷ shape) factors = weighted-put (suc i) shape factors
  weighted-put i (Numerical ∷ shape) [] = no_sum (p.numerator f)
  weighted-put i (Numerical ∷ shape) (a ∷ factors) = by (i == f) refl (weighted-put (suc i) shape factors)
    where
      here : (a v x w u : ℤ) → u ≡ w *ℤ d → a *ℤ v +ℤ u ≡ a *ℤ v +ℤ ((a *ℤ x +ℤ w) -ℤ a *ℤ x) *ℤ d
      here a v x w u e = rw (e, parts a, parts v, parts x, parts w, parts d) (simp ring (same_dif _ _ _ _ (omega arith)))

      later : (a b v x n w u : ℤ) → u ≡ b *ℤ v +ℤ (w -ℤ b *ℤ n) *ℤ d → a *ℤ (x *ℤ d) +ℤ u ≡ b *ℤ v +ℤ ((a *ℤ x +ℤ w) -ℤ b *ℤ n) *ℤ d
      later a b v x n w u e = rw (e, parts a, parts b, parts v, parts x, parts n, parts w, parts d) (simp ring (same_dif _ _ _ _ (omega arith)))

      by : (b : Bool) → (i == f) ≡ b
          → weighted factors (new_numbers (suc i) shape)
          ≡ beside (pos 0) (numbers_from (suc i) shape) factors f *ℤ v +ℤ
          (weighted factors (map p.numerator (numbers_from (suc i) shape)) -ℤ beside (pos 0) (numbers_from (suc i) shape) factors f *ℤ p.numerator f) *ℤ d
          → a *ℤ (if b then v else p.numerator i *ℤ d) +ℤ weighted factors (new_numbers (suc i) shape)
          ≡ (if b then a else beside (pos 0) (numbers_from (suc i) shape) factors f) *ℤ v
          +ℤ ((a *ℤ p.numerator i +ℤ weighted factors (map p.numerator (numbers_from (suc i) shape))) -ℤ
          (if b then a else beside (pos 0) (numbers_from (suc i) shape) factors f) *ℤ p.numerator f) *ℤ d
      by true e rest =
          let same : i ≡ f = (Decides-eqb i f).0 e in
          here a v (p.numerator i) _ _ (weighted-past (suc i) shape factors (omega arith))
          ∙ ap (λ j. a *ℤ v +ℤ ((a *ℤ p.numerator i +ℤ weighted factors (map p.numerator (numbers_from (suc i) shape))) -ℤ a *ℤ p.numerator j) *ℤ d) same
      by false e rest = later a _ v (p.numerator i) (p.numerator f) _ _ rest

  -- the amount with the new value
  pub amount-put : (line : LineParts) → amount line (put p f c v d above) ≡ factor line f *ℤ v +ℤ rest_at line f p *ℤ d
  amount-put line = moved _ line.constant (factor line f) v _ (p.numerator f) p.denominator (weighted-put 0 line.shape line.factors)
    where
      moved : (u k a v w n e : ℤ) → u ≡ a *ℤ v +ℤ (w -ℤ a *ℤ n) *ℤ d → u +ℤ k *ℤ (e *ℤ d) ≡ a *ℤ v +ℤ ((w +ℤ k *ℤ e) -ℤ a *ℤ n) *ℤ d
      moved u k a v w n e h = rw (h, parts k, parts a, parts v, parts w, parts n, parts e, parts d) (simp ring (same_dif _ _ _ _ (omega arith)))

  -- the point differs at the field alone
  pub put-differs : DiffersOnlyAt f p (put p f c v d above)
  put-differs = record {
    codes = λ i other. code i other (i == f) refl;
    numbers = λ i other. number i other (i == f) refl;
  }
    where
      code : (i : ℕ) → i ≢ f → (b : Bool) → (i == f) ≡ b → (if b then c else p.code i) ≡ p.code i
      code i other true e = absurd (other ((Decides-eqb i f).0 e))
      code i other false e = refl

      turned : (x d e : ℤ) → x *ℤ d *ℤ e ≡ x *ℤ (e *ℤ d)
      turned x d e = rw (parts x, parts d, parts e) (simp ring (same_dif _ _ _ _ (omega arith)))

      number : (i : ℕ) → i ≢ f → (b : Bool) → (i == f) ≡ b → (if b then v else p.numerator i *ℤ d) *ℤ p.denominator ≡ p.numerator i *ℤ (p.denominator *ℤ d)
      number i other true e = absurd (other ((Decides-eqb i f).0 e))
      number i other false e = turned (p.numerator i) d p.denominator

-- with the point's own code at the field, no code changes
pub put-code : (p : Point) (f : ℕ) (v d : ℤ) (above : pos 0 <ℤ d) (i : ℕ) → (put p f (p.code f) v d above).code i ≡ p.code i
put-code p f v d above i = by (i == f) refl
  where
    by : (b : Bool) → (i == f) ≡ b → (if b then p.code f else p.code i) ≡ p.code i
    by true e = ap (λ j. p.code j) (sym ((Decides-eqb i f).0 e))
    by false e = refl

-- where the line holds with the new value
pub holds-put : (line : LineParts) (p : Point) (f : ℕ) (v d : ℤ) (above : pos 0 <ℤ d)
    → (AreCodesIn line.sets (codes_at line.shape p) → IsEnough line.relation (factor line f *ℤ v +ℤ rest_at line f p *ℤ d))
    → LineHolds line (put p f (p.code f) v d above)
holds-put line p f v d above enough = record {
  enough = λ inside.
      let here : AreCodesIn line.sets (codes_at line.shape p) = subst (λ (cs : List ℕ). AreCodesIn line.sets cs)
      (map-agree _ p.code (code_fields line.shape) (λ i there. put-code p f v d above i)) inside in
      subst (λ (z : ℤ). IsEnough line.relation z) (sym (amount-put p f (p.code f) v d above line)) (enough here);
}
