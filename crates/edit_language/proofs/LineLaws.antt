-- The first byte of a kind in a line, and the carriage return at its end.
use Rattle.std.proofs.Common.{◌≡◌, ℕ, suc, ◌+◌, ◌-◌, ◌<◌, ◌≤◌, ◌==◌, Bool, true, false, nat_lt, not, ◌&&◌, if◌then◌else◌, List, [], ◌∷◌, ◌++◌, length, take}
use Rattle.std.proofs.Common.{drop, position, Some, None, refl, sym, ap, ◌∙◌, inl, inr, arith}
use Rattle.std.specs.List.{after_first, before_first, position_or_len}
use Rattle.std.specs.Str.{bytes_eq}
use Rattle.std.proofs.lemmas.Bool.{cases_lt, cond-true, cond-false, le-ltb, lt-ltb}
use Rattle.std.proofs.lemmas.List.{length-drop, take_all, take-append-drop}
use Rattle.std.proofs.lemmas.List.Sums.{prefix_len-le-length}
use Rattle.std.proofs.lemmas.Slice.Eq.{bytes_eq-Decides}
use Rattle.edit_language.specs.Lines.{without_return}

-- where a byte is found, it is the first
pub place_is : (p : ℕ → Bool) (text : List ℕ) (place : ℕ) → position p text ≡ Some place
    → (position_or_len p text ≡ place) × (position_or_len p text < length text)
place_is p text place found = elim (cases_lt (position_or_len p text) (length text)) [
  | inl within ↦
      let some : Some (position_or_len p text) ≡ Some place =
      sym (cond-true (nat_lt (position_or_len p text) (length text)) (Some (position_or_len p text)) None (lt-ltb _ _ within)) ∙ found in
      (cc, within)
  | inr past ↦
      let none : None ≡ Some place = sym (cond-false (nat_lt (position_or_len p text) (length text)) (Some (position_or_len p text)) None (le-ltb _ _ past))
      ∙ found in
      absurd cc
]

-- where none is found, there is none
pub place_is_none : (p : ℕ → Bool) (text : List ℕ) → position p text ≡ None → position_or_len p text ≡ length text
place_is_none p text missing = elim (cases_lt (position_or_len p text) (length text)) [
  | inl within ↦
      let some : Some (position_or_len p text) ≡ None = sym
      (cond-true (nat_lt (position_or_len p text) (length text)) (Some (position_or_len p text)) None (lt-ltb _ _ within)) ∙ missing in
      absurd cc
  | inr past ↦ let most : position_or_len p text ≤ length text = prefix_len-le-length (λ b. not (p b)) text in omega arith
]

-- what stands before the byte, and after it
pub before_at : (p : ℕ → Bool) (text : List ℕ) (place : ℕ) → position p text ≡ Some place → take place text ≡ before_first p text
before_at p text place found = ap (λ (n : ℕ). take n text) (sym (place_is p text place found).0)

pub after_at : (p : ℕ → Bool) (text : List ℕ) (place : ℕ) → position p text ≡ Some place
    → take (length text - (place + 1)) (drop (place + 1) text) ≡ after_first p text
after_at p text place found =
    let size : length (drop (place + 1) text) ≡ length text - (place + 1) = length-drop (place + 1) text in
    take_all (length text - (place + 1)) (drop (place + 1) text) (omega arith) ∙ ap (λ (n : ℕ). drop (n + 1) text) (sym (place_is p text place found).0)

-- all of a line where none is found
pub before_none : (p : ℕ → Bool) (text : List ℕ) → position p text ≡ None → text ≡ before_first p text
before_none p text missing = sym (take_all (position_or_len p text) text (let e = place_is_none p text missing in omega arith))

-- a carriage return at the end is left out
return_dropped : (front : List ℕ) → without_return (front ++ 13 ∷ []) ≡ front
return_dropped [] = refl
return_dropped (b ∷ []) = refl
return_dropped (b ∷ c ∷ bs) = ap (λ (cs : List ℕ). b ∷ cs) (return_dropped (c ∷ bs))

-- the line ends in a carriage return
pub return_cut : (line : List ℕ) → bytes_eq (drop (length line - 1) line) (13 ∷ []) ≡ true → take (length line - 1) line ≡ without_return line
return_cut line ends =
    let last : drop (length line - 1) line ≡ 13 ∷ [] = (bytes_eq-Decides _ _).0 ends in
    let whole : line ≡ take (length line - 1) line ++ 13 ∷ [] = sym (take-append-drop (length line - 1) line)
    ∙ ap (λ (cs : List ℕ). take (length line - 1) line ++ cs) last in
    sym (ap without_return whole ∙ return_dropped (take (length line - 1) line))

-- it does not
pub return_kept : (line : List ℕ) → bytes_eq (drop (length line - 1) line) (13 ∷ []) ≡ false → line ≡ without_return line
return_kept [] other = refl
return_kept (b ∷ []) other = kept (b == 13) other
  where
    kept : (same : Bool) → (same && true) ≡ false → b ∷ [] ≡ (if same then [] else b ∷ [])
    kept false h = refl
    kept true h = absurd cc
return_kept (b ∷ c ∷ bs) other =
    let n : length (b ∷ c ∷ bs) - 1 ≡ suc (length (c ∷ bs) - 1) = omega arith in
    ap (λ (cs : List ℕ). b ∷ cs) (return_kept (c ∷ bs) (ap (λ (k : ℕ). bytes_eq (drop k (b ∷ c ∷ bs)) (13 ∷ [])) (sym n) ∙ other))
