use Rattle.std.proofs.Common.{◌≡◌, ℕ, suc, ◌<◌, ◌==◌, ◌||◌, if◌then◌else◌, Bool, true, false, List, [], ◌∷◌, map, ℤ, pos, ◌+ℤ◌, ◌*ℤ◌, refl, sym, ap, ◌∙◌, arith}
use Rattle.std.proofs.lemmas.Bool.Decides.{Decides-eqb}
use lib.IntN.{neg_ℤ}
use Rattle.fraction128.proofs.Whole.{parts, ring, same_dif}
use Rattle.edit_model.specs.Points.{Point, linear_sum, sum_of_terms}
use Rattle.edit_model.specs.declared.rule.Linear.{Linear}
use Rattle.edit_model.specs.declared.rule.Term.{Term}
use Rattle.edit_line.specs.Lines.{amount, parts_of, weighted}
use Rattle.edit_line.specs.declared.relation.Relation.{Relation}
use Rattle.edit_line.specs.Shapes.{Categorical, Domain, Numerical, has_field, number_fields, numbers_from, numerators_at}
use Rattle.edit_normal.specs.NormalForm.{term_factor}

-- A linear test's sum, by a factor for each numerical field.

-- the terms are on distinct numerical fields
abbrev pub HasTerms : List Domain → List Term → Type 0
HasTerms shape [] = Unit {0}
HasTerms shape (t ∷ ts) = (has_field (number_fields shape) t.field ≡ true) × (term_factor ts t.field ≡ pos 0) × HasTerms shape ts

nothing : (x w : ℤ) → w ≡ pos 0 → pos 0 *ℤ x +ℤ w ≡ pos 0
nothing x w e = rw (e, parts x) (simp ring (same_dif _ _ _ _ (omega arith)))

added_first : (a x w b : ℤ) → b ≡ pos 0 → a *ℤ x +ℤ w ≡ a *ℤ x +ℤ (b *ℤ x +ℤ w)
added_first a x w b e = rw (e, parts a, parts x, parts w) (simp ring (same_dif _ _ _ _ (omega arith)))

added_later : (c y v a x w : ℤ) → v ≡ a *ℤ x +ℤ w → c *ℤ y +ℤ v ≡ a *ℤ x +ℤ (c *ℤ y +ℤ w)
added_later c y v a x w e = rw (e, parts c, parts y, parts a, parts x, parts w) (simp ring (same_dif _ _ _ _ (omega arith)))

module _ (p : Point) where
  -- without terms nothing is added
  weighted-no_terms : (fields : List ℕ) → weighted (map (term_factor []) fields) (map p.numerator fields) ≡ pos 0
  weighted-no_terms [] = refl
  weighted-no_terms (f ∷ fields) = nothing (p.numerator f) _ (weighted-no_terms fields)

  module _ (t : Term) (ts : List Term) where
    -- a term on a field before these adds nothing to them
    term-before : (i : ℕ) (shape : List Domain) → t.field < i → weighted (map (term_factor (t ∷ ts)) (numbers_from i shape))
        (map p.numerator (numbers_from i shape)) ≡ weighted (map (term_factor ts) (numbers_from i shape)) (map p.numerator (numbers_from i shape))
    term-before i [] before = refl
    term-before i (Categorical k ∷ shape) before = term-before (suc i) shape (omega arith)
    term-before i (Numerical ∷ shape) before =
        ap (λ b. (if b then t.factor else term_factor ts i) *ℤ p.numerator i +ℤ weighted (map (term_factor (t ∷ ts)) (numbers_from (suc i) shape))
        (map p.numerator (numbers_from (suc i) shape))) other
        ∙ ap (λ (w : ℤ). term_factor ts i *ℤ p.numerator i +ℤ w) (term-before (suc i) shape (omega arith))
      where
        other : (t.field == i) ≡ false
        other = unequal (t.field == i) (λ h. let same = (Decides-eqb t.field i).0 h in omega arith)
          where
            unequal : (b : Bool) → (b ≡ true → ⊥) → b ≡ false
            unequal true h = absurd (h refl)
            unequal false h = refl

    -- a term on one of the fields adds its product
    term-among : (i : ℕ) (shape : List Domain) → has_field (numbers_from i shape) t.field ≡ true → term_factor ts t.field ≡ pos 0
        → weighted (map (term_factor (t ∷ ts)) (numbers_from i shape)) (map p.numerator (numbers_from i shape))
        ≡ t.factor *ℤ p.numerator t.field +ℤ weighted (map (term_factor ts) (numbers_from i shape)) (map p.numerator (numbers_from i shape))
    term-among i [] there none = absurd (cc)
    term-among i (Categorical k ∷ shape) there none = term-among (suc i) shape there none
    term-among i (Numerical ∷ shape) there none = by (i == t.field) refl there (λ h. term-among (suc i) shape h none)
      where
        rest : List Term → ℤ
        rest terms = weighted (map (term_factor terms) (numbers_from (suc i) shape)) (map p.numerator (numbers_from (suc i) shape))

        by : (b : Bool) → (i == t.field) ≡ b → (b || has_field (numbers_from (suc i) shape) t.field) ≡ true
            → (has_field (numbers_from (suc i) shape) t.field ≡ true → rest (t ∷ ts) ≡ t.factor *ℤ p.numerator t.field +ℤ rest ts)
            → term_factor (t ∷ ts) i *ℤ p.numerator i +ℤ rest (t ∷ ts) ≡ t.factor *ℤ p.numerator t.field +ℤ (term_factor ts i *ℤ p.numerator i +ℤ rest ts)
        by true e h later =
            let is : i ≡ t.field = (Decides-eqb i t.field).0 e in
            let own : (t.field == i) ≡ true = (Decides-eqb t.field i).1 (sym is) in
            let zero_there : term_factor ts i ≡ pos 0 = ap (λ n. term_factor ts n) is ∙ none in
            ap (λ c. (if c then t.factor else term_factor ts i) *ℤ p.numerator i +ℤ rest (t ∷ ts)) own
            ∙ ap (λ (w : ℤ). t.factor *ℤ p.numerator i +ℤ w) (term-before (suc i) shape (omega arith))
            ∙ added_first t.factor (p.numerator i) (rest ts) (term_factor ts i) zero_there
            ∙ ap (λ n. t.factor *ℤ p.numerator n +ℤ (term_factor ts i *ℤ p.numerator i +ℤ rest ts)) is
        by false e h later =
            let other : (t.field == i) ≡ false =
            unequal (t.field == i) (λ same. absurd (cc (sym e ∙ (Decides-eqb i t.field).1 (sym ((Decides-eqb t.field i).0 same))))) in
            ap (λ c. (if c then t.factor else term_factor ts i) *ℤ p.numerator i +ℤ rest (t ∷ ts)) other
            ∙ added_later (term_factor ts i) (p.numerator i) (rest (t ∷ ts)) t.factor (p.numerator t.field) (rest ts) (later h)
          where
            unequal : (b : Bool) → (b ≡ true → ⊥) → b ≡ false
            unequal true h = absurd (h refl)
            unequal false h = refl

  -- the sum over the fields is the sum over the terms
  pub terms-sum : (shape : List Domain) (terms : List Term) → HasTerms shape terms → weighted (map (term_factor terms) (number_fields shape))
      (numerators_at shape p) ≡ sum_of_terms terms p
  terms-sum shape [] has = weighted-no_terms (number_fields shape)
  terms-sum shape (t ∷ ts) has = term-among t ts 0 shape has.0 has.1 ∙ ap (λ (w : ℤ). t.factor *ℤ p.numerator t.field +ℤ w) (terms-sum shape ts has.2)

  -- the amount of a test's line is the test's sum
  pub amount-sum : (shape : List Domain) (sets : List ℕ) (e : Linear) (relation : Relation) → HasTerms shape e.terms
      → amount (parts_of shape sets (map (term_factor e.terms) (number_fields shape)) e.constant relation) p ≡ linear_sum e p
  amount-sum shape sets e relation has = ap (λ (w : ℤ). w +ℤ e.constant *ℤ p.denominator) (terms-sum shape e.terms has)

  weighted-negative : (g : ℕ → ℤ) (fields : List ℕ) → weighted (map (λ f. neg_ℤ (g f)) fields) (map p.numerator fields)
      ≡ neg_ℤ (weighted (map g fields) (map p.numerator fields))
  weighted-negative g [] = refl
  weighted-negative g (f ∷ fields) = ap (λ (w : ℤ). neg_ℤ (g f) *ℤ p.numerator f +ℤ w) (weighted-negative g fields) ∙ turned (g f) (p.numerator f) _
    where
      turned : (a x w : ℤ) → neg_ℤ a *ℤ x +ℤ neg_ℤ w ≡ neg_ℤ (a *ℤ x +ℤ w)
      turned a x w = rw (parts a, parts x, parts w) (simp ring (same_dif _ _ _ _ (omega arith)))

  -- and that of the negative line is the negative of the sum
  pub amount-negative : (shape : List Domain) (sets : List ℕ) (e : Linear) (relation : Relation) → HasTerms shape e.terms
      → amount (parts_of shape sets (map (λ f. neg_ℤ (term_factor e.terms f)) (number_fields shape)) (neg_ℤ e.constant) relation) p ≡ neg_ℤ (linear_sum e p)
  amount-negative shape sets e relation has =
      ap (λ (w : ℤ). w +ℤ neg_ℤ e.constant *ℤ p.denominator) (weighted-negative (term_factor e.terms) (number_fields shape)) ∙ turned _ e.constant p.denominator
      ∙ ap neg_ℤ (amount-sum shape sets e relation has)
    where
      turned : (w c d : ℤ) → neg_ℤ w +ℤ neg_ℤ c *ℤ d ≡ neg_ℤ (w +ℤ c *ℤ d)
      turned w c d = rw (parts w, parts c, parts d) (simp ring (same_dif _ _ _ _ (omega arith)))
