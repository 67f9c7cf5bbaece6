use Rattle.std.proofs.Common.{◌≡◌, ◌+◌, ◌<◌, ◌≤◌, ◌||◌, ℕ, suc, Bool, true, false, List, add-one, drop, get_or, length, sym, ap, ◌∙◌}
use Rattle.std.specs.List.{list_any}
use Rattle.std.proofs.Math.Seq.{drop-cons}
use Rattle.std.proofs.lemmas.List.{drop_all}

-- A test of one field after the other.

pub any-at : (t : ℕ → Bool) (fields : List ℕ) (i f : ℕ) → i < length fields → f ≡ get_or fields i 0
    → list_any t (drop i fields) ≡ (t f || list_any t (drop (i + 1) fields))
any-at t fields i f below is =
    rw (add-one) (ap (λ (fs : List ℕ). list_any t fs) (drop-cons fields i 0 below) ∙ ap (λ n. t n || list_any t (drop (suc i) fields)) (sym is))

-- the test is true at the field
pub any-here : (t : ℕ → Bool) (fields : List ℕ) (i f : ℕ) → i < length fields → f ≡ get_or fields i 0 → t f ≡ true → list_any t (drop i fields) ≡ true
any-here t fields i f below is has = any-at t fields i f below is ∙ ap (λ (b : Bool). b || list_any t (drop (i + 1) fields)) has

-- it is not
pub any-later : (t : ℕ → Bool) (fields : List ℕ) (i f : ℕ) → i < length fields → f ≡ get_or fields i 0 → t f ≡ false
    → list_any t (drop i fields) ≡ list_any t (drop (i + 1) fields)
any-later t fields i f below is none = any-at t fields i f below is ∙ ap (λ (b : Bool). b || list_any t (drop (i + 1) fields)) none

-- past the last field
pub any-past : (t : ℕ → Bool) (fields : List ℕ) (i : ℕ) → length fields ≤ i → list_any t (drop i fields) ≡ false
any-past t fields i past = ap (λ (fs : List ℕ). list_any t fs) (drop_all i fields past)
