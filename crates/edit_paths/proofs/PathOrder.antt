use Rattle.std.proofs.Common.{Bool, List, [], ap, arith, false, if◌then◌else◌, inl, inr, nat_lt, refl, slice_index_or, suc, sym, true, zero, ℕ, ◌&&◌, ◌++◌, ◌<◌}
use Rattle.std.proofs.Common.{◌==◌, ◌||◌, ◌∙◌, ◌∷◌, ◌≡◌, ◌≤◌, ◌⊎◌}
use Rattle.std.specs.List.{filter, sum_by}
use Rattle.std.proofs.lemmas.Bool.Decides.{Decides-eqb, Decides-ltb}
use Rattle.std.proofs.lemmas.List.Sums.{sum_by-cons}
use Rattle.edit_model.specs.Corrections.{is_first, path_order}
use Rattle.edit_line.specs.Reductions.{IsIn}
use Rattle.edit_paths.specs.Cases.{SearchCase}
use Rattle.bound_cert.specs.Paths.{changes, path_place, path_weight}
use Rattle.edit_paths.specs.ReachedPaths.{is_before}
use Rattle.edit_model.specs.Words.{weight_at}

-- The order of paths is one: total, transitive, and no two paths are alike in it. A path comes before what extends it.

-- ---- letter by letter

pub first-self : (a : List Bool) → is_first a a ≡ true
first-self [] = refl
first-self (true ∷ a) = first-self a
first-self (false ∷ a) = first-self a

first-total : (a b : List Bool) → is_first a b ≡ false → is_first b a ≡ true
first-total [] b h = absurd (cc)
first-total (x ∷ a) [] h = refl
first-total (false ∷ a) (false ∷ b) h = first-total a b h
first-total (false ∷ a) (true ∷ b) h = absurd (cc)
first-total (true ∷ a) (false ∷ b) h = refl
first-total (true ∷ a) (true ∷ b) h = first-total a b h

first-chain : (a b c : List Bool) → is_first a b ≡ true → is_first b c ≡ true → is_first a c ≡ true
first-chain [] b c h k = refl
first-chain (x ∷ a) [] c h k = absurd (cc)
first-chain (x ∷ a) (y ∷ b) [] h k = absurd (cc)
first-chain (false ∷ a) (false ∷ b) (false ∷ c) h k = first-chain a b c h k
first-chain (false ∷ a) (false ∷ b) (true ∷ c) h k = refl
first-chain (false ∷ a) (true ∷ b) (false ∷ c) h k = absurd (cc)
first-chain (false ∷ a) (true ∷ b) (true ∷ c) h k = refl
first-chain (true ∷ a) (false ∷ b) c h k = absurd (cc)
first-chain (true ∷ a) (true ∷ b) (false ∷ c) h k = absurd (cc)
first-chain (true ∷ a) (true ∷ b) (true ∷ c) h k = first-chain a b c h k

pub first-equal : (a b : List Bool) → is_first a b ≡ true → is_first b a ≡ true → a ≡ b
first-equal [] [] h k = refl
first-equal [] (y ∷ b) h k = absurd (cc)
first-equal (x ∷ a) [] h k = absurd (cc)
first-equal (false ∷ a) (false ∷ b) h k = ap (λ (p : List Bool). false ∷ p) (first-equal a b h k)
first-equal (false ∷ a) (true ∷ b) h k = absurd (cc)
first-equal (true ∷ a) (false ∷ b) h k = absurd (cc)
first-equal (true ∷ a) (true ∷ b) h k = ap (λ (p : List Bool). true ∷ p) (first-equal a b h k)

first-extends : (a b : List Bool) → is_first a (a ++ b) ≡ true
first-extends [] b = refl
first-extends (true ∷ a) b = first-extends a b
first-extends (false ∷ a) b = first-extends a b

-- ---- by weight, and then letter by letter

abbrev ordered : ℕ → ℕ → Bool → Bool
ordered m n t = nat_lt m n || ((m == n) && t)

pub tells : (m n : ℕ) (t : Bool) → ordered m n t ≡ true → (m < n) ⊎ ((m ≡ n) × (t ≡ true))
tells m n t h = by (nat_lt m n) refl (m == n) refl t h
  where
    by : (l : Bool) → nat_lt m n ≡ l → (e : Bool) → (m == n) ≡ e → (u : Bool) → (l || (e && u)) ≡ true → (m < n) ⊎ ((m ≡ n) × (u ≡ true))
    by true l e s u h = inl ((Decides-ltb m n).0 l)
    by false l true s u h = inr ((Decides-eqb m n).0 s, h)
    by false l false s u h = absurd (cc)

less-told : (m n : ℕ) (t : Bool) → m < n → ordered m n t ≡ true
less-told m n t less = ap (λ b. b || ((m == n) && t)) ((Decides-ltb m n).1 less)

same-told : (m n : ℕ) (t : Bool) → m ≡ n → t ≡ true → ordered m n t ≡ true
same-told m n t same is = ap (λ b. nat_lt m n || (b && t)) ((Decides-eqb m n).1 same) ∙ ap (λ b. nat_lt m n || b) is ∙ or_true (nat_lt m n)
  where
    or_true : (b : Bool) → (b || true) ≡ true
    or_true true = refl
    or_true false = refl

not-tells : (m n : ℕ) (t : Bool) → ordered m n t ≡ false → (n < m) ⊎ ((n ≡ m) × (t ≡ false))
not-tells m n t h = by t refl (nat_lt n m) refl
  where
    by : (u : Bool) → t ≡ u → (l : Bool) → nat_lt n m ≡ l → (n < m) ⊎ ((n ≡ m) × (t ≡ false))
    by u is true l = inl ((Decides-ltb n m).0 l)
    by true is false l = absurd (at (grind (arith, l)))
      where
        at : n ≤ m → ⊥
        at some = strict (m == n) refl
          where
            strict : (e : Bool) → (m == n) ≡ e → ⊥
            strict true e = cc (sym h ∙ same-told m n t ((Decides-eqb m n).0 e) is)
            strict false e = cc (sym h ∙ less-told m n t (grind (arith, e, l)))
    by false is false l = inr (even (nat_lt m n) refl, is)
      where
        even : (e : Bool) → nat_lt m n ≡ e → n ≡ m
        even true e = absurd (cc (sym h ∙ less-told m n t ((Decides-ltb m n).0 e)))
        even false e = grind (arith, e, l)

-- ---- weights

-- a path that changes no more weighs no more
pub sum-less : (w : ℕ → ℕ) (s t : ℕ → Bool) (fields : List ℕ) → ((f : ℕ) → IsIn f fields → s f ≡ true → t f ≡ true)
    → sum_by w (filter s fields) ≤ sum_by w (filter t fields)
sum-less w s t [] each = omega arith
sum-less w s t (f ∷ fields) each = by (s f) refl (t f) refl (sum-less w s t fields (λ g at. each g (inr at)))
  where
    by : (a : Bool) → s f ≡ a → (b : Bool) → t f ≡ b → sum_by w (filter s fields) ≤ sum_by w (filter t fields)
        → sum_by w (if a then f ∷ filter s fields else filter s fields) ≤ sum_by w (if b then f ∷ filter t fields else filter t fields)
    by true e true h rest = omega (arith, rest, sum_by-cons w f (filter s fields), sum_by-cons w f (filter t fields))
    by true e false h rest = absurd (cc (sym h ∙ each f (inl refl) e))
    by false e true h rest = omega (arith, rest, sum_by-cons w f (filter t fields))
    by false e false h rest = rest

-- ---- the order

module _ (c : SearchCase) where
  pub before-total : (a b : List Bool) → is_before c.survey.fields a b ≡ false → is_before c.survey.fields b a ≡ true
  before-total a b h = elim (not-tells (path_weight c.survey.fields a) (path_weight c.survey.fields b) (is_first a b) h) [
    | inl less ↦ less-told (path_weight c.survey.fields b) (path_weight c.survey.fields a) (is_first b a) less
    | inr both ↦ same-told (path_weight c.survey.fields b) (path_weight c.survey.fields a) (is_first b a) both.0 (first-total a b both.1)
  ]

  pub before-chain : (a b d : List Bool) → is_before c.survey.fields a b ≡ true → is_before c.survey.fields b d ≡ true → is_before c.survey.fields a d ≡ true
  before-chain a b d h k = by (tells (path_weight c.survey.fields a) (path_weight c.survey.fields b) (is_first a b) h)
      (tells (path_weight c.survey.fields b) (path_weight c.survey.fields d) (is_first b d) k)
    where
      by : (path_weight c.survey.fields a < path_weight c.survey.fields b) ⊎ ((path_weight c.survey.fields a ≡ path_weight c.survey.fields b)
          × (is_first a b ≡ true)) → (path_weight c.survey.fields b < path_weight c.survey.fields d)
          ⊎ ((path_weight c.survey.fields b ≡ path_weight c.survey.fields d) × (is_first b d ≡ true)) → is_before c.survey.fields a d ≡ true
      by (inl m) (inl n) = less-told (path_weight c.survey.fields a) (path_weight c.survey.fields d) (is_first a d) (omega (arith, m, n))
      by (inl m) (inr n) = less-told (path_weight c.survey.fields a) (path_weight c.survey.fields d) (is_first a d) (omega (arith, m, n.0))
      by (inr m) (inl n) = less-told (path_weight c.survey.fields a) (path_weight c.survey.fields d) (is_first a d) (omega (arith, m.0, n))
      by (inr m) (inr n) = same-told (path_weight c.survey.fields a) (path_weight c.survey.fields d) (is_first a d) (m.0 ∙ n.0) (first-chain a b d m.1 n.1)

  pub before-equal : (a b : List Bool) → is_before c.survey.fields a b ≡ true → is_before c.survey.fields b a ≡ true → a ≡ b
  before-equal a b h k = by (tells (path_weight c.survey.fields a) (path_weight c.survey.fields b) (is_first a b) h)
      (tells (path_weight c.survey.fields b) (path_weight c.survey.fields a) (is_first b a) k)
    where
      by : (path_weight c.survey.fields a < path_weight c.survey.fields b) ⊎ ((path_weight c.survey.fields a ≡ path_weight c.survey.fields b)
          × (is_first a b ≡ true)) → (path_weight c.survey.fields b < path_weight c.survey.fields a)
          ⊎ ((path_weight c.survey.fields b ≡ path_weight c.survey.fields a) × (is_first b a ≡ true)) → a ≡ b
      by (inl m) (inl n) = absurd (omega (arith, m, n))
      by (inl m) (inr n) = absurd (omega (arith, m, n.0))
      by (inr m) (inl n) = absurd (omega (arith, m.0, n))
      by (inr m) (inr n) = first-equal a b m.1 n.1

  extended : (a b : List Bool) (i : ℕ) → slice_index_or a i false ≡ true → slice_index_or (a ++ b) i false ≡ true
  extended [] b i h = absurd (cc)
  extended (x ∷ a) b zero h = h
  extended (x ∷ a) b (suc i) h = extended a b i h

  -- a path comes before what extends it
  pub before-extends : (a b : List Bool) → is_before c.survey.fields a (a ++ b) ≡ true
  before-extends a b = by (nat_lt (path_weight c.survey.fields a) (path_weight c.survey.fields (a ++ b))) refl
    where
      less : path_weight c.survey.fields a ≤ path_weight c.survey.fields (a ++ b)
      less = sum-less (weight_at c.survey.fields) (changes c.survey.fields a) (changes c.survey.fields (a ++ b)) (path_order c.survey.fields)
          (λ f at h. extended a b (path_place c.survey.fields f) h)

      by : (l : Bool) → nat_lt (path_weight c.survey.fields a) (path_weight c.survey.fields (a ++ b)) ≡ l → is_before c.survey.fields a (a ++ b) ≡ true
      by true l = less-told (path_weight c.survey.fields a) (path_weight c.survey.fields (a ++ b)) (is_first a (a ++ b)) ((Decides-ltb _ _).0 l)
      by false l = same-told (path_weight c.survey.fields a) (path_weight c.survey.fields (a ++ b)) (is_first a (a ++ b)) (grind (arith, l, less))
          (first-extends a b)
