use Rattle.std.proofs.Common.{◌≡◌, ◌∙◌, cond, ℕ, ◌+◌, Bool, true, false, List, [], ◌∷◌, ◌++◌, map, refl, ap}
use Rattle.std.specs.List.{filter, range_with_len}
use Rattle.std.proofs.lemmas.List.{map-append}
use Rattle.edit_model.specs.declared.field.Field.{Field}
use Rattle.reason_lines.specs.declared.entry.Change.{Change}
use Rattle.page_counts.specs.Records.{is_changed}
use Rattle.page_counts.specs.Weights.{record_weight, weights_of}
use Rattle.page_counts.specs.declared.amounts.Amount.{Amount}
use Rattle.page_counts.proofs.MarkLaws.{filter_more_of}

-- The weights of records, one record after the other.

map_cond : {A B : Type 0} (f : A → B) (x : A) (b : Bool) → map f (cond b (x ∷ []) []) ≡ cond b (f x ∷ []) []
map_cond f x true = refl
map_cond f x false = refl

-- a list of what is kept of the numbers below a number, with a number more
pub kept_map_more : {B : Type 0} (f : ℕ → B) (test : ℕ → Bool) (n : ℕ)
    → map f (filter test (range_with_len 0 (n + 1))) ≡ map f (filter test (range_with_len 0 n)) ++ cond (test n) (f n ∷ []) []
kept_map_more f test n =
    ap (map f) (filter_more_of test n) ∙ map-append f (filter test (range_with_len 0 n)) (cond (test n) (n ∷ []) [])
    ∙ ap (λ ys. map f (filter test (range_with_len 0 n)) ++ ys) (map_cond f n (test n))

-- the weights with a record more
pub weights_more : (fields : List Field) (changes : List Change) (n : ℕ)
    → weights_of fields (n + 1) changes ≡ weights_of fields n changes ++ cond (is_changed changes n)
    (record { number = n; size = record_weight fields changes n } ∷ []) []
weights_more fields changes n = kept_map_more {B = Amount} (λ (number : ℕ). record { number = number; size = record_weight fields changes number })
    (is_changed changes) n
