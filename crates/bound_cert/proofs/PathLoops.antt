use Rattle.std.proofs.Common.{◌≡◌, ℕ, ◌+◌, ◌<◌, ◌≤◌, ◌&&◌, not, Bool, true, false, if◌then◌else◌, List, [], ◌∷◌, drop, get_or, length, refl, sym, ap, ◌∙◌}
use Rattle.std.proofs.Common.{arith}
use Rattle.std.specs.List.{filter, fold, list_any, sum_by}
use Rattle.std.proofs.lemmas.List.{drop_all}
use Rattle.std.proofs.lemmas.List.Sums.{sum_by-cons}
use Rattle.edit_model.proofs.ChangedWords.{changed_in}
use Rattle.edit_model.specs.FieldSets.{with_number}
use Rattle.bound_cert.proofs.Letters.{kept_in}
use Rattle.bound_cert.proofs.OrderLoop.{at_both}

-- The loops over a path.

-- ---- what a path keeps and changes, one place on

changed-cons : (w : ℕ → ℕ) (f : ℕ) (fields : List ℕ) (b : Bool) (path : List Bool) → sum_by w (changed_in (f ∷ fields) (b ∷ path))
    ≡ (if b then w f else 0) + sum_by w (changed_in fields path)
changed-cons w f fields true path = sum_by-cons w f (changed_in fields path)
changed-cons w f fields false path = omega arith

changed-end : (fields : List ℕ) → changed_in fields [] ≡ []
changed-end [] = refl
changed-end (f ∷ fields) = refl

kept-end : (fields : List ℕ) → kept_in fields [] ≡ []
kept-end [] = refl
kept-end (f ∷ fields) = refl

module _ (order : List ℕ) (path : List Bool) (i : ℕ) (within : i < length order) (below : i < length path) where
  -- a field's weight is added where it is changed
  pub weight-more : (w : ℕ → ℕ) (weight added whole : ℕ) → added ≡ (if get_or path i false then w (get_or order i 0) else 0)
      → weight + sum_by w (changed_in (drop i order) (drop i path)) ≡ whole → weight + added + sum_by w (changed_in (drop (i + 1) order) (drop (i + 1) path))
      ≡ whole
  weight-more w weight added whole is before =
      let opened = at_both (λ fs p. sum_by w (changed_in fs p)) order path i 0 false within below in
      let split = changed-cons w (get_or order i 0) (drop (i + 1) order) (get_or path i false) (drop (i + 1) path) in omega (arith, opened, split, is, before)

  kept-any : (test : ℕ → Bool) (f : ℕ) (fields : List ℕ) (b : Bool) (rest : List Bool) → (not b && test f) ≡ false
      → list_any test (kept_in (f ∷ fields) (b ∷ rest)) ≡ list_any test (kept_in fields rest)
  kept-any test f fields true rest none = refl
  kept-any test f fields false rest none = rw none refl

  kept-found : (test : ℕ → Bool) (f : ℕ) (fields : List ℕ) (b : Bool) (rest : List Bool) → (not b && test f) ≡ true
      → list_any test (kept_in (f ∷ fields) (b ∷ rest)) ≡ true
  kept-found test f fields true rest found = absurd (cc)
  kept-found test f fields false rest found = rw found refl

  -- a test that no kept field has passed
  pub none-more : (test : ℕ → Bool) (whole : Bool) → (not (get_or path i false) && test (get_or order i 0)) ≡ false
      → list_any test (kept_in (drop i order) (drop i path)) ≡ whole → list_any test (kept_in (drop (i + 1) order) (drop (i + 1) path)) ≡ whole
  none-more test whole none before =
      sym (kept-any test (get_or order i 0) (drop (i + 1) order) (get_or path i false) (drop (i + 1) path) none)
      ∙ sym (at_both (λ fs p. list_any test (kept_in fs p)) order path i 0 false within below) ∙ before

  -- and one that a kept field passes
  pub one-found : (test : ℕ → Bool) (whole : Bool) → (not (get_or path i false) && test (get_or order i 0)) ≡ true
      → list_any test (kept_in (drop i order) (drop i path)) ≡ whole → true ≡ whole
  one-found test whole found before =
      sym (kept-found test (get_or order i 0) (drop (i + 1) order) (get_or path i false) (drop (i + 1) path) found)
      ∙ sym (at_both (λ fs p. list_any test (kept_in fs p)) order path i 0 false within below) ∙ before

  kept-fold : (sound : ℕ → Bool) (set f : ℕ) (fields : List ℕ) (b : Bool) (rest : List Bool)
      → fold with_number set (filter sound (kept_in (f ∷ fields) (b ∷ rest))) ≡ fold with_number (if not b && sound f then with_number set f else set)
      (filter sound (kept_in fields rest))
  kept-fold sound set f fields true rest = refl
  kept-fold sound set f fields false rest = by (sound f)
    where
      by : (c : Bool) → fold with_number set (if c then f ∷ filter sound (kept_in fields rest) else filter sound (kept_in fields rest))
          ≡ fold with_number (if c then with_number set f else set) (filter sound (kept_in fields rest))
      by true = refl
      by false = refl

  -- a set takes in a field that is kept and sound
  pub set-more : (sound : ℕ → Bool) (set next whole : ℕ) → next
      ≡ (if not (get_or path i false) && sound (get_or order i 0) then with_number set (get_or order i 0) else set)
      → fold with_number set (filter sound (kept_in (drop i order) (drop i path))) ≡ whole
      → fold with_number next (filter sound (kept_in (drop (i + 1) order) (drop (i + 1) path))) ≡ whole
  set-more sound set next whole is before =
      ap (λ n. fold with_number n (filter sound (kept_in (drop (i + 1) order) (drop (i + 1) path)))) is
      ∙ sym (kept-fold sound set (get_or order i 0) (drop (i + 1) order) (get_or path i false) (drop (i + 1) path))
      ∙ sym (at_both (λ fs p. fold with_number set (filter sound (kept_in fs p))) order path i 0 false within below)
      ∙ before

-- past the end of the path
pub weight-all : (order : List ℕ) (path : List Bool) (i : ℕ) (w : ℕ → ℕ) (weight whole : ℕ) → length path ≤ i
    → weight + sum_by w (changed_in (drop i order) (drop i path)) ≡ whole → weight ≡ whole
weight-all order path i w weight whole past before =
    let none : sum_by w (changed_in (drop i order) (drop i path)) ≡ 0 = ap (λ (p : List Bool). sum_by w (changed_in (drop i order) p)) (drop_all i path past)
    ∙ ap (sum_by w) (changed-end (drop i order)) in omega (arith, none, before)

pub none-all : (order : List ℕ) (path : List Bool) (i : ℕ) (test : ℕ → Bool) (whole : Bool) → length path ≤ i
    → list_any test (kept_in (drop i order) (drop i path)) ≡ whole → false ≡ whole
none-all order path i test whole past before =
    sym (ap (λ (p : List Bool). list_any test (kept_in (drop i order) p)) (drop_all i path past) ∙ ap (list_any test) (kept-end (drop i order))) ∙ before

pub set-all : (order : List ℕ) (path : List Bool) (i : ℕ) (sound : ℕ → Bool) (set whole : ℕ) → length path ≤ i
    → fold with_number set (filter sound (kept_in (drop i order) (drop i path))) ≡ whole → set ≡ whole
set-all order path i sound set whole past before =
    sym (ap (λ (p : List Bool). fold with_number set (filter sound (kept_in (drop i order) p))) (drop_all i path past)
    ∙ ap (λ (fs : List ℕ). fold with_number set (filter sound fs)) (kept-end (drop i order))) ∙ before
