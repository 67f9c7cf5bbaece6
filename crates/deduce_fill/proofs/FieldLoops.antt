use Rattle.std.proofs.Common.{◌≡◌, ℕ, ◌+◌, ◌<◌, Bool, true, false, if◌then◌else◌, List, [], ◌∷◌, ◌++◌, get_or, length, map, take, refl, sym, ap, ◌∙◌}
use Rattle.std.specs.List.{filter}
use Rattle.std.proofs.lemmas.List.{map-append, take_more}
use Rattle.std.proofs.lemmas.List.Sums.{fold-append}
use Rattle.edit_model.specs.FieldSets.{set_of, with_number}

-- One field more of a list.

pub set_of-more : (fields : List ℕ) (i : ℕ) → i < length fields → set_of (take (i + 1) fields) ≡ with_number (set_of (take i fields)) (get_or fields i 0)
set_of-more fields i below = ap set_of (take_more fields i 0 below) ∙ fold-append with_number 0 (take i fields) (get_or fields i 0 ∷ [])

pub map-more : {Y : Type 0} (g : ℕ → Y) (fields : List ℕ) (i : ℕ) → i < length fields
    → map g (take (i + 1) fields) ≡ map g (take i fields) ++ g (get_or fields i 0) ∷ []
map-more g fields i below = ap (map g) (take_more fields i 0 below) ∙ map-append g (take i fields) (get_or fields i 0 ∷ [])

filter-append : (t : ℕ → Bool) (xs ys : List ℕ) → filter t (xs ++ ys) ≡ filter t xs ++ filter t ys
filter-append t [] ys = refl
filter-append t (x ∷ xs) ys = by (t x) (filter-append t xs ys)
  where
    by : (b : Bool) → filter t (xs ++ ys) ≡ filter t xs ++ filter t ys
        → (if b then x ∷ filter t (xs ++ ys) else filter t (xs ++ ys)) ≡ (if b then x ∷ filter t xs else filter t xs) ++ filter t ys
    by true e = ap (λ zs. x ∷ zs) e
    by false e = e

pub filter-more : (t : ℕ → Bool) (fields : List ℕ) (i : ℕ) → i < length fields
    → filter t (take (i + 1) fields) ≡ filter t (take i fields) ++ (if t (get_or fields i 0) then get_or fields i 0 ∷ [] else [])
filter-more t fields i below = ap (filter t) (take_more fields i 0 below) ∙ filter-append t (take i fields) (get_or fields i 0 ∷ [])

-- and so for a list that stands for the first numbers
pub map-turn : {Y : Type 0} (g : ℕ → Y) (fields : List ℕ) (i : ℕ) (before after : List Y) (y : Y) → i < length fields → before ≡ map g (take i fields)
    → after ≡ before ++ y ∷ [] → y ≡ g (get_or fields i 0) → after ≡ map g (take (i + 1) fields)
map-turn g fields i before after y below so_far more is = more ∙ ap (λ ys. ys ++ y ∷ []) so_far ∙ ap (λ z. map g (take i fields) ++ z ∷ []) is
    ∙ sym (map-more g fields i below)
