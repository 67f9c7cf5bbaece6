use Rattle.std.proofs.Common.{◌≡◌, ◌↔◌, ℕ, zero, suc, ◌<◌, ◌≤◌, ◌^◌, ◌==◌, ◌&&◌, ◌||◌, not, Bool, true, false, if◌then◌else◌, List, [], ◌∷◌, length, map}
use Rattle.std.proofs.Common.{slice_index_or, slice_set, ℤ, pos, negsuc, ◌<ℤ◌, ◌+ℤ◌, ◌*ℤ◌, refl, sym, ap, ◌∙◌, subst, arith}
use lib.IntN.{neg_ℤ}
use Rattle.std.specs.Int.{bit_at}
use Rattle.std.proofs.lemmas.Bool.Decides.{Decides-eqb}
use Rattle.std.proofs.lemmas.Int.{ints}
use Rattle.std.proofs.lemmas.Nat.Bits.{bit_at-pow_other, bit_at-pow_same}
use Rattle.fraction128.specs.declared.fraction.Fraction.{Fraction}
use Rattle.fraction128.proofs.Whole.{parts, ring, same_dif}
use Rattle.edit_model.specs.Points.{Point, has_code}
use Rattle.edit_line.specs.Lines.{LineHolds, amount, weighted}
use Rattle.edit_line.specs.Sets.{AreCodesIn, are_codes_in}
use Rattle.edit_line.specs.Shapes.{Categorical, Domain, HasCodes, Numerical, codes_at, code_fields, has_field, number_fields, numbers_from, numerators_at}
use Rattle.edit_line.specs.Shapes.{place_in, whole_sets}
use Rattle.edit_line.proofs.NegationLaws.{never-Decides}
use Rattle.edit_line.proofs.PointCodes.{length-codes_at, wholes-inside}
use Rattle.edit_line.proofs.SetLaws.{is_inside-Decides}
use Rattle.edit_line.proofs.ShapeLaws.{length-wholes, place-within}
use Rattle.derivation.proofs.CoverLaws.{code-at}
use Rattle.deduce_fill.specs.Tests.{above_line, alone_at, below_line, other_line}

-- What the lines of a test say of a point.

-- ---- the sum of one field

nothing : (x w : ℤ) → w ≡ pos 0 → pos 0 *ℤ x +ℤ w ≡ pos 0
nothing x w e = rw (e, parts x) (simp ring (same_dif _ _ _ _ (omega arith)))

added_none : (a x w : ℤ) → w ≡ pos 0 → a *ℤ x +ℤ w ≡ a *ℤ x
added_none a x w e = rw (e, parts a, parts x) (simp ring (same_dif _ _ _ _ (omega arith)))

added_zero : (x v w : ℤ) → w ≡ v → pos 0 *ℤ x +ℤ w ≡ v
added_zero x v w e = rw (e, parts x, parts v) (simp ring (same_dif _ _ _ _ (omega arith)))

unequal : (a b : ℕ) → (a ≡ b → ⊥) → (a == b) ≡ false
unequal a b apart = by (a == b) refl
  where
    by : (e : Bool) → (a == b) ≡ e → e ≡ false
    by true e = absurd (apart ((Decides-eqb a b).0 e))
    by false e = refl

module _ (p : Point) (f : ℕ) (a : ℤ) where
  abbrev alone : List ℕ → List ℤ
  alone fields = map (λ g. if g == f then a else pos 0) fields

  -- a field before these adds nothing to them
  alone-before : (i : ℕ) (shape : List Domain) → f < i → weighted (alone (numbers_from i shape)) (map p.numerator (numbers_from i shape)) ≡ pos 0
  alone-before i [] before = refl
  alone-before i (Categorical k ∷ shape) before = alone-before (suc i) shape (omega arith)
  alone-before i (Numerical ∷ shape) before =
      ap (λ (b : Bool). (if b then a else pos 0) *ℤ p.numerator i +ℤ weighted (alone (numbers_from (suc i) shape))
      (map p.numerator (numbers_from (suc i) shape))) (unequal i f (λ same. omega (arith, same, before)))
      ∙ nothing (p.numerator i) _ (alone-before (suc i) shape (omega arith))

  alone-among : (i : ℕ) (shape : List Domain) → has_field (numbers_from i shape) f ≡ true
      → weighted (alone (numbers_from i shape)) (map p.numerator (numbers_from i shape)) ≡ a *ℤ p.numerator f
  alone-among i [] there = absurd (cc)
  alone-among i (Categorical k ∷ shape) there = alone-among (suc i) shape there
  alone-among i (Numerical ∷ shape) there = by (i == f) refl there (λ h. alone-among (suc i) shape h)
    where
      rest : ℤ
      rest = weighted (alone (numbers_from (suc i) shape)) (map p.numerator (numbers_from (suc i) shape))

      by : (b : Bool) → (i == f) ≡ b → (b || has_field (numbers_from (suc i) shape) f) ≡ true
          → (has_field (numbers_from (suc i) shape) f ≡ true → rest ≡ a *ℤ p.numerator f)
          → (if b then a else pos 0) *ℤ p.numerator i +ℤ rest ≡ a *ℤ p.numerator f
      by true e h later =
          let is : i ≡ f = (Decides-eqb i f).0 e in
          added_none a (p.numerator i) rest (alone-before (suc i) shape (omega (arith, is))) ∙ ap (λ n. a *ℤ p.numerator n) is
      by false e h later = added_zero (p.numerator i) (a *ℤ p.numerator f) rest (later h)

  pub alone-sum : (shape : List Domain) → has_field (number_fields shape) f ≡ true → weighted (alone_at shape f a) (numerators_at shape p) ≡ a *ℤ p.numerator f
  alone-sum shape there = alone-among 0 shape there

-- ---- a number

module _ (shape : List Domain) (p : Point) (codes : HasCodes 0 shape p) (f : ℕ) where
  inside : AreCodesIn (whole_sets shape) (codes_at shape p)
  inside = (is_inside-Decides (whole_sets shape) (codes_at shape p)).0 (wholes-inside shape p codes)

  module _ (x : Fraction) (there : has_field (number_fields shape) f ≡ true) where
    above-amount : amount (above_line shape f x) p ≡ x.denominator *ℤ p.numerator f +ℤ neg_ℤ x.numerator *ℤ p.denominator
    above-amount = ap (λ (w : ℤ). w +ℤ neg_ℤ x.numerator *ℤ p.denominator) (alone-sum p f x.denominator shape there)

    below-amount : amount (below_line shape f x) p ≡ neg_ℤ x.denominator *ℤ p.numerator f +ℤ x.numerator *ℤ p.denominator
    below-amount = ap (λ (w : ℤ). w +ℤ x.numerator *ℤ p.denominator) (alone-sum p f (neg_ℤ x.denominator) shape there)

    above-holds : LineHolds (above_line shape f x) p ↔ (pos 0 <ℤ (x.denominator *ℤ p.numerator f +ℤ neg_ℤ x.numerator *ℤ p.denominator))
    above-holds = (
      λ holds. subst (λ (z : ℤ). pos 0 <ℤ z) above-amount
          (holds.enough inside),
      λ above. record { enough = λ _. subst (λ (z : ℤ). pos 0 <ℤ z) (sym above-amount) above },
    )

    below-holds : LineHolds (below_line shape f x) p ↔ (pos 0 <ℤ (neg_ℤ x.denominator *ℤ p.numerator f +ℤ x.numerator *ℤ p.denominator))
    below-holds = (
      λ holds. subst (λ (z : ℤ). pos 0 <ℤ z) below-amount
          (holds.enough inside),
      λ above. record { enough = λ _. subst (λ (z : ℤ). pos 0 <ℤ z) (sym below-amount) above },
    )

    apart-above : (n d y q : ℤ) → y *ℤ d ≡ n *ℤ q → d *ℤ y +ℤ neg_ℤ n *ℤ q ≡ pos 0
    apart-above n d y q same = turned d y n q ∙ ap (λ (z : ℤ). z +ℤ neg_ℤ (n *ℤ q)) same ∙ gone (n *ℤ q)
      where
        turned : (d y n q : ℤ) → d *ℤ y +ℤ neg_ℤ n *ℤ q ≡ y *ℤ d +ℤ neg_ℤ (n *ℤ q)
        turned d y n q = rw (parts d, parts y, parts n, parts q) (simp ring (same_dif _ _ _ _ (omega arith)))

        gone : (z : ℤ) → z +ℤ neg_ℤ z ≡ pos 0
        gone z = rw (parts z) (simp ring (same_dif _ _ _ _ (omega arith)))

    opposite : (d y n q : ℤ) → neg_ℤ d *ℤ y +ℤ n *ℤ q ≡ neg_ℤ (d *ℤ y +ℤ neg_ℤ n *ℤ q)
    opposite d y n q = rw (parts d, parts y, parts n, parts q) (simp ring (same_dif _ _ _ _ (omega arith)))

    -- a point with the number is neither above nor below it
    pub number-neither : p.numerator f *ℤ x.denominator ≡ x.numerator *ℤ p.denominator
        → (¬ LineHolds (above_line shape f x) p) × (¬ LineHolds (below_line shape f x) p)
    number-neither same =
        let none = apart-above x.numerator x.denominator (p.numerator f) p.denominator same in (
          λ holds. zero_not (subst (λ (z : ℤ). pos 0 <ℤ z) none (above-holds.0 holds)),
          λ holds. zero_not (subst (λ (z : ℤ). pos 0 <ℤ z) (opposite x.denominator (p.numerator f) x.numerator p.denominator ∙ ap neg_ℤ none)
              (below-holds.0 holds)),
        )
      where
        zero_not : pos 0 <ℤ pos 0 → ⊥
        zero_not h = omega (arith, ints)

    -- and one that is neither has it
    pub neither-number : (¬ LineHolds (above_line shape f x) p) → (¬ LineHolds (below_line shape f x) p)
        → p.numerator f *ℤ x.denominator ≡ x.numerator *ℤ p.denominator
    neither-number not_above not_below =
        same x.numerator x.denominator (p.numerator f) p.denominator
        (between (x.denominator *ℤ p.numerator f +ℤ neg_ℤ x.numerator *ℤ p.denominator) (λ h. not_above (above-holds.1 h))
        (λ h. not_below (below-holds.1 (subst (λ (z : ℤ). pos 0 <ℤ z) (sym (opposite x.denominator (p.numerator f) x.numerator p.denominator)) h))))
      where
        between : (z : ℤ) → (pos 0 <ℤ z → ⊥) → (pos 0 <ℤ neg_ℤ z → ⊥) → z ≡ pos 0
        between (pos zero) up down = refl
        between (pos (suc n)) up down = absurd (up (above n))
          where
            above : (n : ℕ) → pos 0 <ℤ pos (suc n)
            above n = omega (arith, ints)
        between (negsuc n) up down = absurd (down (above n))
          where
            above : (n : ℕ) → pos 0 <ℤ neg_ℤ (negsuc n)
            above n = omega (arith, ints)

        same : (n d y q : ℤ) → d *ℤ y +ℤ neg_ℤ n *ℤ q ≡ pos 0 → y *ℤ d ≡ n *ℤ q
        same n d y q e = apart d y n q ∙ ap (λ (z : ℤ). z +ℤ n *ℤ q) e ∙ from_zero (n *ℤ q)
          where
            apart : (d y n q : ℤ) → y *ℤ d ≡ (d *ℤ y +ℤ neg_ℤ n *ℤ q) +ℤ n *ℤ q
            apart d y n q = rw (parts d, parts y, parts n, parts q) (simp ring (same_dif _ _ _ _ (omega arith)))

            from_zero : (z : ℤ) → pos 0 +ℤ z ≡ z
            from_zero z = rw (parts z) (simp ring (same_dif _ _ _ _ (omega arith)))

  -- ---- a code

  module _ (code : ℕ) (there : has_field (code_fields shape) f ≡ true) where
    -- of sets that are whole but at one place, that place decides
    inside-at : (sets cs : List ℕ) (place set : ℕ) → place < length sets → length sets ≤ length cs → are_codes_in sets cs ≡ true
        → are_codes_in (slice_set sets place set) cs ≡ has_code set (slice_index_or cs place 0)
    inside-at [] cs place set below fits all = absurd (omega arith)
    inside-at (s ∷ sets) [] place set below fits all = absurd (omega arith)
    inside-at (s ∷ sets) (c ∷ cs) zero set below fits all = by (has_code s c) (has_code set c) (are_codes_in sets cs) all
      where
        by : (a b r : Bool) → (a && r) ≡ true → (b && r) ≡ b
        by true true true h = refl
        by true false true h = refl
        by true b false h = absurd (cc)
        by false b r h = absurd (cc)
    inside-at (s ∷ sets) (c ∷ cs) (suc place) set below fits all = by (has_code s c) all (inside-at sets cs place set (omega arith) (omega arith))
      where
        by : (a : Bool) → (a && are_codes_in sets cs) ≡ true
            → (are_codes_in sets cs ≡ true → are_codes_in (slice_set sets place set) cs ≡ has_code set (slice_index_or cs place 0))
            → (a && are_codes_in (slice_set sets place set) cs) ≡ has_code set (slice_index_or cs place 0)
        by true h rest = rest h
        by false h rest = absurd (cc)

    one-code : (c k : ℕ) → has_code (2 ^ c) k ≡ (c == k)
    one-code c k = by (c == k) refl
      where
        by : (b : Bool) → (c == k) ≡ b → has_code (2 ^ c) k ≡ b
        by true e = ap (λ n. n == 1) (ap (bit_at (2 ^ c)) (sym ((Decides-eqb c k).0 e)) ∙ bit_at-pow_same c)
        by false e = ap (λ n. n == 1) (bit_at-pow_other c k (λ same. cc (sym e ∙ (Decides-eqb c k).1 (sym same))))

    -- the line holds exactly where the code is another one
    pub other-is : are_codes_in (slice_set (whole_sets shape) (place_in (code_fields shape) f) (2 ^ code)) (codes_at shape p) ≡ (code == p.code f)
    other-is =
        inside-at (whole_sets shape) (codes_at shape p) (place_in (code_fields shape) f) (2 ^ code)
        (let below = place-within (code_fields shape) f there in omega (arith, below, length-wholes 0 shape))
        (omega (arith, length-wholes 0 shape, length-codes_at shape p))
        (wholes-inside shape p codes)
        ∙ ap (has_code (2 ^ code)) (code-at shape p f there) ∙ one-code code (p.code f)

    pub code-not : (code == p.code f) ≡ true → ¬ LineHolds (other_line shape f code) p
    code-not same holds =
        cc (sym ((never-Decides shape (slice_set (whole_sets shape) (place_in (code_fields shape) f) (2 ^ code)) p).1 holds) ∙ ap not (other-is ∙ same))

    pub not-code : (¬ LineHolds (other_line shape f code) p) → (code == p.code f) ≡ true
    not-code fails = by (code == p.code f) refl
      where
        by : (b : Bool) → (code == p.code f) ≡ b → b ≡ true
        by true e = refl
        by false e = absurd (fails ((never-Decides shape (slice_set (whole_sets shape) (place_in (code_fields shape) f) (2 ^ code)) p).0
            (ap not (other-is ∙ e))))
