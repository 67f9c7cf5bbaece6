use Rattle.std.proofs.Common.{◌≡◌, inl, inr, ℕ, ◌+◌, ◌-◌, ◌<◌, ◌≤◌, List, map, length, get_or, arith, ap}
use Rattle.std.proofs.lemmas.Bool.{cases_lt}
use Rattle.std.proofs.lemmas.List.{get_or-map}
use Rattle.std.specs.Prelude.{slice_index}
use Rattle.edit_model.specs.declared.rule.Term.{Term}

-- the field of the term at a place
pub field_at : (terms : List Term) (i : ℕ) (d : Term) → i < length terms → slice_index (map (λ (t : Term). t.field) terms) i ≡ (get_or terms i d).field
field_at terms i d below = get_or-map (λ (t : Term). t.field) terms i d 0 below

-- the term at a place is of a later field than the one before it, if the places say so, and the other way round
pub rises_at : (terms : List Term) (i k : ℕ) (d : Term) → k + 1 ≡ i → i < length terms → (get_or terms (i - 1) d).field < (get_or terms i d).field
    → slice_index (map (λ (t : Term). t.field) terms) k < slice_index (map (λ (t : Term). t.field) terms) (k + 1)
rises_at terms i k d next below here =
    let first = field_at terms k d (omega arith) in
    let second = field_at terms (k + 1) d (omega arith) in
    let before : i - 1 ≡ k = omega arith in
    let first_same = ap (λ (n : ℕ). (get_or terms n d).field) before in
    let second_same = ap (λ (n : ℕ). (get_or terms n d).field) next in
    omega (arith, first, second, first_same, second_same, here)

-- the terms up to a place are in rising field order, and so with the term there
pub rising_more : (terms : List Term) (i : ℕ) (d : Term) → i < length terms
    → ((k : ℕ) → k + 1 < i → slice_index (map (λ (t : Term). t.field) terms) k < slice_index (map (λ (t : Term). t.field) terms) (k + 1))
    → (get_or terms (i - 1) d).field < (get_or terms i d).field
    → (k : ℕ) → k + 1 < i + 1 → slice_index (map (λ (t : Term). t.field) terms) k < slice_index (map (λ (t : Term). t.field) terms) (k + 1)
rising_more terms i d below before here k under =
    elim (cases_lt (k + 1) i) [ inl earlier ↦ before k earlier | inr last ↦ rises_at terms i k d (omega arith) below here ]

-- fields that fall or stay at a place do not rise
pub not_rising : (terms : List Term) (i : ℕ) (d : Term) → 1 ≤ i → i < length terms → (get_or terms i d).field ≤ (get_or terms (i - 1) d).field
    → slice_index (map (λ (t : Term). t.field) terms) (i - 1) < slice_index (map (λ (t : Term). t.field) terms) (i - 1 + 1) → ⊥
not_rising terms i d positive below here rises =
    let first = field_at terms (i - 1) d (omega arith) in
    let second = field_at terms (i - 1 + 1) d (omega arith) in
    let next : i - 1 + 1 ≡ i = omega arith in
    let second_same = ap (λ (n : ℕ). (get_or terms n d).field) next in
    omega (arith, first, second, second_same, here, rises)
