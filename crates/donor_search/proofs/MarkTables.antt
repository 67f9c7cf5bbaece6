use Rattle.std.proofs.Common.{◌≡◌, ◌∙◌, ℕ, zero, suc, ◌+◌, ◌<◌, ◌≤◌, List, [], ◌∷◌, ◌++◌, add-one, append_assoc, drop, get_or, length, take, refl, ap, sym}
use Rattle.std.proofs.Common.{subst, arith}
use Rattle.std.specs.List.{AllByRecursion, flat_map}
use Rattle.std.proofs.Math.Seq.{drop-cons, take-suc}
use Rattle.std.proofs.lemmas.List.{take_all}
use Rattle.std.proofs.lemmas.List.Elements.{All-from_recursion}
use Rattle.edit_model.specs.PlainNumbers.{HasPlainNumbers, IsPlainValue}
use Rattle.edit_model.specs.Rows.{value_of}
use Rattle.edit_model.specs.declared.value.Value.{Value}
use Rattle.edit_model.specs.declared.value.Value.TheVariants.{Bad}
use Rattle.donor_measure.specs.Buckets.{mark_of, marks_from, marks_of}
use Rattle.donor_measure.specs.Yardsticks.{yardstick_at}
use Rattle.donor_measure.specs.declared.yardstick.Yardstick.{Yardstick}
use Rattle.donor_search.specs.CleanRows.{row_at}
use Rattle.donor_search.specs.Decks.{slot_first_marks, slot_marks}
use Rattle.donor_search.specs.declared.slot.Slot.{Slot}
use Rattle.donor_search.proofs.ProfileLaws.{marks_long}

-- How the marks of records are put one after the other.

mark_here : (i k : ℕ) (ys : List Yardstick) (row : List Value) → k < length ys
    → get_or (marks_from i ys row) k 0 ≡ mark_of (yardstick_at ys k).scale (value_of row (i + k))
mark_here i k [] row below = absurd (omega (arith, below))
mark_here i zero (y ∷ ys) row below = ap (λ n. mark_of y.scale (value_of row n)) same
  where
    same : i ≡ i + 0
    same = omega arith
mark_here i (suc k) (y ∷ ys) row below = mark_here (suc i) k ys row (omega (arith, below)) ∙ ap (λ n. mark_of (yardstick_at ys k).scale (value_of row n)) next
  where
    next : suc i + k ≡ i + suc k
    next = omega arith

pub plain_here : (row : List Value) (k : ℕ) → HasPlainNumbers row → k < length row → IsPlainValue (value_of row k)
plain_here row k plain below = All-from_recursion IsPlainValue row plain k Bad below

-- one mark more of a record
pub marks_more : (ys : List Yardstick) (row : List Value) (k mark : ℕ) (olds marks news : List ℕ) → k < length ys → length (marks_of ys row) ≡ length ys
    → marks ≡ olds ++ take k (marks_of ys row)
    → mark ≡ mark_of (yardstick_at ys k).scale (value_of row k) → news ≡ marks ++ (mark ∷ []) → news ≡ olds ++ take (k + 1) (marks_of ys row)
marks_more ys row k mark olds marks news below long before is put =
    put
    ∙ ap (λ (ms : List ℕ). ms ++ (mark ∷ [])) before
    ∙ append_assoc olds (take k (marks_of ys row)) (mark ∷ [])
    ∙ ap (λ m. olds ++ (take k (marks_of ys row) ++ (m ∷ [])))
    (is ∙ ap (λ n. mark_of (yardstick_at ys k).scale (value_of row n)) from_zero ∙ sym (mark_here 0 k ys row below))
    ∙ ap (λ (ms : List ℕ). olds ++ ms) (sym (take-suc (marks_of ys row) k 0 (omega (arith, below, long))))
    ∙ ap (λ n. olds ++ take n (marks_of ys row)) (sym (add-one k))
  where
    from_zero : k ≡ 0 + k
    from_zero = omega arith

-- those of a row of the sheet
pub row_put : (most : ℕ) (ys given : List Yardstick) (rows : List (List Value)) (k : ℕ) (row : List Value) (marks news : List ℕ) → given ≡ ys
    → row ≡ row_at rows k → k < length rows → AllByRecursion HasPlainNumbers rows
    → (HasPlainNumbers row → news ≡ marks ++ take most (marks_of given row)) → news ≡ marks ++ take most (marks_of ys (row_at rows k))
row_put most ys given rows k row marks news given_is row_is below plain put =
    put (subst HasPlainNumbers (sym row_is) (All-from_recursion HasPlainNumbers rows plain k [] below))
    ∙ ap (λ (r : List Value). marks ++ take most (marks_of given r)) row_is
    ∙ ap (λ (us : List Yardstick). marks ++ take most (marks_of us (row_at rows k))) given_is

-- one list more
pub lists_more : {X : Type 0} (f : X → List ℕ) (xs : List X) (k : ℕ) (d : X) (marks news : List ℕ) → k < length xs
    → marks ++ flat_map f (drop k xs) ≡ flat_map f xs → news ≡ marks ++ f (get_or xs k d)
    → news ++ flat_map f (drop (k + 1) xs) ≡ flat_map f xs
lists_more f xs k d marks news below before put =
    ap (λ (ms : List ℕ). ms ++ flat_map f (drop (k + 1) xs)) put
    ∙ ap (λ n. (marks ++ f (get_or xs k d)) ++ flat_map f (drop n xs)) (add-one k)
    ∙ append_assoc marks (f (get_or xs k d)) (flat_map f (drop (suc k) xs))
    ∙ ap (λ ys. marks ++ flat_map f ys) (sym (drop-cons xs k d below))
    ∙ before

lists_same : {X : Type 0} (f g : X → List ℕ) → ((x : X) → f x ≡ g x) → (xs : List X) → flat_map f xs ≡ flat_map g xs
lists_same f g each [] = refl
lists_same f g each (x ∷ xs) = ap (λ (ms : List ℕ). ms ++ flat_map f xs) (each x) ∙ ap (λ (ms : List ℕ). g x ++ ms) (lists_same f g each xs)

-- the marks at the first fields are all, where these are all
pub whole_marks : (ys : List Yardstick) (rows : List (List Value)) (n : ℕ) → length ys ≤ n → (slots : List Slot)
    → flat_map (slot_first_marks n ys rows) slots ≡ flat_map (slot_marks ys rows) slots
whole_marks ys rows n all slots = lists_same (slot_first_marks n ys rows) (slot_marks ys rows) (λ (x : Slot). take_all n (slot_marks ys rows x) (whole x)) slots
  where
    whole : (x : Slot) → length (slot_marks ys rows x) ≤ n
    whole x = let l = marks_long 0 ys (row_at rows x.donor) in omega (arith, l, all)
