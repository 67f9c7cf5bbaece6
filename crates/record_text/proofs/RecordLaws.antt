use Rattle.std.proofs.Common.{◌≡◌, ◌∙◌, sym, ap, ℕ, zero, suc, ◌+◌, ◌<◌, ◌≤◌, List, [], ◌∷◌, ◌++◌, length, take, get_or, Some, None, arith}
use Rattle.std.proofs.lemmas.List.{take_all, take_more}
use Rattle.csv.specs.Records.{field_at}
use Rattle.csv.proofs.RecordFacts.{field-get}

-- a place where there is a text, and one where there is none
pub field_within : (texts : List (List ℕ)) (i : ℕ) (x : List ℕ) → Some x ≡ field_at texts i → i < length texts
unfolding field_at
field_within [] i x e = cc e
field_within (t ∷ texts) zero x e = omega arith
field_within (t ∷ texts) (suc i) x e = omega (arith, field_within texts i x e)

pub field_past : (texts : List (List ℕ)) (i : ℕ) → None ≡ field_at texts i → length texts ≤ i
unfolding field_at
field_past [] i e = omega arith
field_past (t ∷ texts) zero e = cc e
field_past (t ∷ texts) (suc i) e = omega (arith, field_past texts i e)

-- a copy with one text more, and with all of them
pub copied_more : (texts done : List (List ℕ)) (x : List ℕ) (i j : ℕ) → done ≡ take i texts → Some x ≡ field_at texts i → j ≡ i + 1
    → done ++ x ∷ [] ≡ take j texts
copied_more texts done x i j e at next =
    let here = field_within texts i x at in
    let x-is : get_or texts i [] ≡ x = field-get texts i x (sym at) in
    ap (λ (ts : List (List ℕ)). ts ++ x ∷ []) e ∙ ap (λ (t : List ℕ). take i texts ++ t ∷ []) (sym x-is) ∙ sym (take_more texts i [] here)
    ∙ ap (λ (k : ℕ). take k texts) (sym next)

pub copied_all : (texts done : List (List ℕ)) (i : ℕ) → done ≡ take i texts → None ≡ field_at texts i → done ≡ texts
copied_all texts done i e at = e ∙ take_all i texts (field_past texts i at)
