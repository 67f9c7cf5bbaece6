use Rattle.std.proofs.Common.{◌≡◌, ℕ, zero, suc, ◌+◌, ◌<◌, ◌≤◌, ◌++◌, List, [], ◌∷◌, length, map, take, refl, sym, ap, ◌∙◌, subst, arith}
use Rattle.std.specs.List.{flat_map}
use Rattle.std.proofs.lemmas.Grind.{flat_map-append}
use Rattle.std.proofs.lemmas.List.{append-nil, get_or-take, get_or_append_left, get_or_push, length-take-le, length_push, map-append}
use Rattle.std.proofs.lemmas.Option.{get_or_from_slice_get, slice_get-get_or, slice_get_within}
use Rattle.edit_line.specs.Reductions.{IsIn}
use Rattle.edit_line.proofs.Members.{in-flat_map, in-flat_map-out, in-get}
use Rattle.class_books.specs.Histories.{history_in, joined}
use Rattle.record_pieces.proofs.NeedLaws.{place-in}

-- Histories one after the other, of which the last is put behind the first ones.

-- what is made of all elements of the first histories is made of each history
pub joined-map : {X Y : Type 0} (f : X → Y) (n : ℕ) (xs : List (List X)) (ys : List (List Y)) → n ≤ length xs → n ≤ length ys
    → ((class : ℕ) → class < n → map f (history_in class xs) ≡ history_in class ys) → map f (joined (take n xs)) ≡ joined (take n ys)
joined-map f zero xs ys many-x many-y each = refl
joined-map f (suc n) [] ys many-x many-y each = absurd (omega (arith, many-x))
joined-map f (suc n) (x ∷ xs) [] many-x many-y each = absurd (omega (arith, many-y))
joined-map {X} {Y} f (suc n) (x ∷ xs) (y ∷ ys) many-x many-y each =
    map-append f x (joined (take n xs))
    ∙ ap (λ (l : List Y). l ++ map f (joined (take n xs))) (each 0 (omega arith))
    ∙ ap (λ (l : List Y). y ++ l) (joined-map f n xs ys (omega (arith, many-x)) (omega (arith, many-y)) (λ class lt. each (suc class) (omega (arith, lt))))

-- what is made of the elements of one list after the other is made of all together
pub joined-made : {X Y Z : Type 0} (f : Y → Z) (g : X → List Y) (xs : List X) → flat_map (λ x. map f (g x)) xs ≡ map f (joined (map g xs))
joined-made f g [] = refl
joined-made {X} {Y} {Z} f g (x ∷ xs) = ap (λ (l : List Z). map f (g x) ++ l) (joined-made f g xs) ∙ sym (map-append f (g x) (joined (map g xs)))

module _ {X : Type 0} where
  -- an element of a history is one of all
  pub in-joined : (x : X) (class : ℕ) (histories : List (List X)) → class < length histories → IsIn x (history_in class histories)
      → IsIn x (joined histories)
  in-joined x class histories lt there = in-flat_map (λ (h : List X). h) (history_in class histories) x histories
      (in-get (history_in class histories) histories class (slice_get-get_or histories class [] lt)) there

  -- and one of all is of some history
  pub joined-in : (x : X) (histories : List (List X)) → IsIn x (joined histories)
      → (class : ℕ) × (class < length histories) × IsIn x (history_in class histories)
  joined-in x histories there =
      let (h, in_histories, in_h) = in-flat_map-out (λ (h : List X). h) x histories there in
      let (class, at) = place-in h histories in_histories in
      (class, slice_get_within histories class h at, subst (IsIn x) (sym (get_or_from_slice_get histories class h [] at)) in_h)

  -- the first histories, and one behind them
  abbrev pub with_last : ℕ → List (List X) → List X → List (List X)
  with_last n histories last = take n histories ++ last ∷ []

  module _ (n : ℕ) (histories : List (List X)) (last : List X) (many : n ≤ length histories) where
    pub length-first : length (take n histories) ≡ n
    length-first = length-take-le n histories many

    pub length-with_last : length (with_last n histories last) ≡ n + 1
    length-with_last = let pushed = length_push (take n histories) last in let first = length-first in omega (arith, first, pushed)

    pub joined-with_last : joined (with_last n histories last) ≡ joined (take n histories) ++ last
    joined-with_last = flat_map-append (λ (h : List X). h) (take n histories) (last ∷ [])
        ∙ ap (λ (l : List X). joined (take n histories) ++ l) (append-nil last)

    -- the first histories stay, and the last one stands behind them
    pub history-first : (class : ℕ) → class < n → history_in class (with_last n histories last) ≡ history_in class histories
    history-first class lt =
        let first = length-first in
        get_or_append_left (take n histories) (last ∷ []) [] class (omega (arith, lt, first)) ∙ get_or-take n histories class [] lt

    pub history-last : history_in n (with_last n histories last) ≡ last
    history-last = get_or_push (take n histories) last [] n length-first
