use Rattle.std.proofs.Common.{◌≡◌, ◌⊎◌, inl, inr, ℕ, ◌++◌, ◌==◌, ◌||◌, Bool, true, false, List, [], ◌∷◌, sym, ap, ◌∙◌, refl}
use Rattle.edit_line.specs.Shapes.{has_field}
use Rattle.std.proofs.lemmas.Bool.Decides.{Decides-eqb}
use Rattle.edit_line.proofs.FieldLists.{has-right}
use Rattle.back_subst.specs.inner.UnderWay.{AreDistinct}
use Rattle.back_subst.proofs.UnderWayLaws.{distinct-apart, own-there}

-- Two fields of one list.

head-same : (x y : ℕ) (xs ys : List ℕ) → x ∷ xs ≡ y ∷ ys → x ≡ y
head-same x y xs ys e = cc

tail-same : (x y : ℕ) (xs ys : List ℕ) → x ∷ xs ≡ y ∷ ys → xs ≡ ys
tail-same x y xs ys e = cc

-- the second field, behind b and before d, comes after the first, behind a and before c
abbrev pub IsLater : List ℕ → ℕ → List ℕ → List ℕ → ℕ → List ℕ → Type 0
IsLater a f c b g d = (more : List ℕ) × (b ≡ a ++ f ∷ more) × (c ≡ more ++ g ∷ d)

-- they are the same, or one of them is later
abbrev pub Places : List ℕ → ℕ → List ℕ → List ℕ → ℕ → List ℕ → Type 0
Places a f c b g d = ((a ≡ b) × (f ≡ g) × (c ≡ d)) ⊎ (IsLater a f c b g d ⊎ IsLater b g d a f c)

pub places : (a : List ℕ) (f : ℕ) (c b : List ℕ) (g : ℕ) (d : List ℕ) → a ++ f ∷ c ≡ b ++ g ∷ d → Places a f c b g d
places [] f c [] g d e = inl (refl, head-same f g c d e, tail-same f g c d e)
places [] f c (y ∷ b) g d e = inr (inl (b, ap (λ n. n ∷ b) (sym (head-same f y c (b ++ g ∷ d) e)), tail-same f y c (b ++ g ∷ d) e))
places (x ∷ a) f c [] g d e = inr (inr (a, ap (λ n. n ∷ a) (head-same x g (a ++ f ∷ c) d e), sym (tail-same x g (a ++ f ∷ c) d e)))
places (x ∷ a) f c (y ∷ b) g d e = by (head-same x y (a ++ f ∷ c) (b ++ g ∷ d) e) (places a f c b g d (tail-same x y (a ++ f ∷ c) (b ++ g ∷ d) e))
  where
    by : x ≡ y → Places a f c b g d → Places (x ∷ a) f c (y ∷ b) g d
    by same (inl (first, here, rest)) = inl (ap (λ n. n ∷ a) same ∙ ap (λ ns. y ∷ ns) first, here, rest)
    by same (inr (inl (more, is, rest))) = inr (inl (more, ap (λ ns. y ∷ ns) is ∙ ap (λ n. n ∷ (a ++ f ∷ more)) (sym same), rest))
    by same (inr (inr (more, is, rest))) = inr (inr (more, ap (λ ns. x ∷ ns) is ∙ ap (λ n. n ∷ (b ++ g ∷ more)) same, rest))

-- a field of distinct ones has one place
pub one-place : (k : ℕ) (a c b d : List ℕ) → AreDistinct (a ++ k ∷ c) → a ++ k ∷ c ≡ b ++ k ∷ d → a ≡ b
one-place k a c b d distinct e = by (places a k c b k d e)
  where
    by : Places a k c b k d → a ≡ b
    by (inl (same, here, rest)) = same
    by (inr (inl (more, is, rest))) =
        absurd (cc (sym (distinct-apart a c k distinct).1 ∙ ap (λ fs. has_field fs k) rest ∙ has-right k more (k ∷ d) (own-there k d)))
    by (inr (inr (more, is, rest))) =
        absurd (cc (sym (distinct-apart a c k distinct).0 ∙ ap (λ fs. has_field fs k) is ∙ has-right k b (k ∷ more) (own-there k more)))

-- a field of a list has a place
pub some-place : (k : ℕ) (fields : List ℕ) → has_field fields k ≡ true → (a : List ℕ) × (c : List ℕ) × (fields ≡ a ++ k ∷ c)
some-place k [] there = absurd (cc)
some-place k (f ∷ fields) there = by (f == k) refl there (some-place k fields)
  where
    by : (b : Bool) → (f == k) ≡ b → (b || has_field fields k) ≡ true → (has_field fields k ≡ true → (a : List ℕ) × (c : List ℕ) × (fields ≡ a ++ k ∷ c))
        → (a : List ℕ) × (c : List ℕ) × (f ∷ fields ≡ a ++ k ∷ c)
    by true e h rest = ([], fields, ap (λ n. n ∷ fields) ((Decides-eqb f k).0 e))
    by false e h rest = let (a, c, is) = rest h in (f ∷ a, c, ap (λ ns. f ∷ ns) is)
