use Rattle.std.proofs.Common.{◌≡◌, ℕ, zero, suc, ◌<◌, ◌≤◌, ◌&&◌, not, nat_eq, Bool, true, false, List, [], ◌∷◌, length, bit_and, slice_index_or, slice_set}
use Rattle.std.proofs.Common.{refl, sym, ap, ◌∙◌, arith}
use Rattle.std.specs.Bool.{Decides, one_answer}
use Rattle.std.specs.Int.{bit_at}
use Rattle.std.proofs.lemmas.Bool.Decides.{Decides-eqb}
use Rattle.std.proofs.lemmas.Nat.Bits.{bit_at-lt, bit_at-zero, bit_at_and}
use Rattle.edit_model.specs.Points.{has_code}
use Rattle.edit_line.specs.Sets.{are_subsets, none_is_empty, are_codes_in}
use Rattle.edit_line.proofs.BoolLaws.{and_true, true-both}
use Rattle.edit_line.proofs.SetLaws.{both_true, has-inside}
use Rattle.edit_line.specs.Combinations.{in_both}

-- Boxes on the fields other than one place.

-- whether the codes are in the box on the other fields, and the code at the place in the whole set
abbrev pub inside_but : ℕ → ℕ → List ℕ → List ℕ → Bool
inside_but place whole codes box = are_codes_in (slice_set box place whole) codes

-- the intersection has the codes that both sets have
pub has-and : (s t code : ℕ) → has_code (bit_and s t) code ≡ (has_code s code && has_code t code)
has-and s t code = by (has_code s code) (has_code t code) (Decides-eqb (bit_at s code) 1) (Decides-eqb (bit_at t code) 1)
  where
    by : (a b : Bool) → Decides a (bit_at s code ≡ 1) → Decides b (bit_at t code ≡ 1) → has_code (bit_and s t) code ≡ (a && b)
    by a b p q =
        one_answer (has_code (bit_and s t) code) (a && b) (Decides-eqb (bit_at (bit_and s t) code) 1) (
          λ h. let (first, second) = both_true a b h in omega (arith, bit_at_and s t code, p.0 first, q.0 second),
          λ h. true-both a b (p.1 (omega (arith, bit_at_and s t code, bit_at-lt s code, bit_at-lt t code, h)))
              (q.1 (omega (arith, bit_at_and s t code, bit_at-lt s code, bit_at-lt t code, h))),
        )

crossed : (a b c d : Bool) → ((a && b) && (c && d)) ≡ ((a && c) && (b && d))
crossed true true c d = refl
crossed true false true d = refl
crossed true false false d = refl
crossed false b c d = refl

shared : (a c d : Bool) → (a && (c && d)) ≡ ((a && c) && (a && d))
shared true c d = refl
shared false c d = refl

-- the codes are in both boxes
inside-meets : (first second codes : List ℕ) → are_codes_in (in_both first second) codes ≡ (are_codes_in first codes && are_codes_in second codes)
inside-meets [] second codes = refl
inside-meets (s ∷ first) [] codes = sym (and_true _)
inside-meets (s ∷ first) (t ∷ second) [] = refl
inside-meets (s ∷ first) (t ∷ second) (code ∷ codes) =
    ap (λ b. b && are_codes_in (in_both first second) codes) (has-and s t code) ∙ ap (λ b. (has_code s code && has_code t code) && b)
    (inside-meets first second codes)
    ∙ crossed (has_code s code) (has_code t code) (are_codes_in first codes) (are_codes_in second codes)

-- and so on the other fields
pub inside_but-meets : (place whole : ℕ) (first second codes : List ℕ)
    → inside_but place whole codes (in_both first second) ≡ (inside_but place whole codes first && inside_but place whole codes second)
inside_but-meets place whole [] second codes = refl
inside_but-meets place whole (s ∷ first) [] codes = sym (and_true _)
inside_but-meets zero whole (s ∷ first) (t ∷ second) [] = refl
inside_but-meets (suc place) whole (s ∷ first) (t ∷ second) [] = refl
inside_but-meets zero whole (s ∷ first) (t ∷ second) (code ∷ codes) =
    ap (λ b. has_code whole code && b) (inside-meets first second codes) ∙ shared (has_code whole code) (are_codes_in first codes) (are_codes_in second codes)
inside_but-meets (suc place) whole (s ∷ first) (t ∷ second) (code ∷ codes) =
    ap (λ b. b && inside_but place whole codes (in_both first second)) (has-and s t code) ∙ ap (λ b. (has_code s code && has_code t code) && b)
    (inside_but-meets place whole first second codes)
    ∙ crossed (has_code s code) (has_code t code) (inside_but place whole codes first) (inside_but place whole codes second)

-- made whole once more
pub set-set : (place whole : ℕ) (box : List ℕ) → slice_set (slice_set box place whole) place whole ≡ slice_set box place whole
set-set place whole [] = refl
set-set zero whole (s ∷ box) = refl
set-set (suc place) whole (s ∷ box) = ap (λ b. s ∷ b) (set-set place whole box)

-- a box that is whole at the place is so as it is
pub set-whole : (place whole : ℕ) (box : List ℕ) → slice_index_or box place 0 ≡ whole → slice_set box place whole ≡ box
set-whole place whole [] is = refl
set-whole zero whole (s ∷ box) is = ap (λ t. t ∷ box) (sym is)
set-whole (suc place) whole (s ∷ box) is = ap (λ b. s ∷ b) (set-whole place whole box is)

-- the codes with another one at the place are in the box
pub inside-with : (place whole code : ℕ) (box codes : List ℕ) → place < length box → place < length codes → has_code whole (slice_index_or codes place 0) ≡ true
    → are_codes_in box (slice_set codes place code) ≡ (has_code (slice_index_or box place 0) code && inside_but place whole codes box)
inside-with place whole code [] codes below within all = absurd (omega arith)
inside-with place whole code (s ∷ box) [] below within all = absurd (omega arith)
inside-with zero whole code (s ∷ box) (c ∷ codes) below within all = ap (λ b. has_code s code && (b && are_codes_in box codes)) (sym all)
inside-with (suc place) whole code (s ∷ box) (c ∷ codes) below within all =
    ap (λ b. has_code s c && b) (inside-with place whole code box codes (omega arith) (omega arith) all)
    ∙ swapped (has_code s c) (has_code (slice_index_or box place 0) code) (inside_but place whole codes box)
  where
    swapped : (a b c : Bool) → (a && (b && c)) ≡ (b && (a && c))
    swapped true b c = refl
    swapped false true c = refl
    swapped false false c = refl

-- a code outside a set, which has it not
has-more : (s t code : ℕ) → nat_eq (bit_and s t) s ≡ true → has_code s code ≡ true → has_code t code ≡ true
has-more s t code lies there = (Decides-eqb (bit_at t code) 1).1 (has-inside s t code lies ((Decides-eqb (bit_at s code) 1).0 there))

-- codes in a box are in each box that has it inside
pub inside-grows : (first second codes : List ℕ) → are_subsets first second ≡ true → are_codes_in first codes ≡ true → are_codes_in second codes ≡ true
inside-grows first [] codes lie inside = refl
inside-grows [] (t ∷ second) codes lie inside = absurd (cc)
inside-grows (s ∷ first) (t ∷ second) [] lie inside = refl
inside-grows (s ∷ first) (t ∷ second) (code ∷ codes) lie inside =
    let (here, rest) = both_true _ _ lie in
    let (at, after) = both_true _ _ inside in
    true-both _ _ (has-more s t code here at) (inside-grows first second codes rest after)

-- and so on the other fields
pub inside_but-grows : (place whole : ℕ) (first second codes : List ℕ) → are_subsets first second ≡ true → inside_but place whole codes first ≡ true
    → inside_but place whole codes second ≡ true
inside_but-grows place whole first [] codes lie inside = refl
inside_but-grows place whole [] (t ∷ second) codes lie inside = absurd (cc)
inside_but-grows zero whole (s ∷ first) (t ∷ second) [] lie inside = refl
inside_but-grows (suc place) whole (s ∷ first) (t ∷ second) [] lie inside = refl
inside_but-grows zero whole (s ∷ first) (t ∷ second) (code ∷ codes) lie inside =
    let (here, rest) = both_true _ _ lie in
    let (at, after) = both_true _ _ inside in
    true-both _ _ at (inside-grows first second codes rest after)
inside_but-grows (suc place) whole (s ∷ first) (t ∷ second) (code ∷ codes) lie inside =
    let (here, rest) = both_true _ _ lie in
    let (at, after) = both_true _ _ inside in
    true-both _ _ (has-more s t code here at) (inside_but-grows place whole first second codes rest after)

-- a box with codes in each of its sets has no empty set
pub inside-has_codes : (box codes : List ℕ) → length box ≤ length codes → are_codes_in box codes ≡ true → none_is_empty box ≡ true
inside-has_codes [] codes few inside = refl
inside-has_codes (s ∷ box) [] few inside = absurd (omega arith)
inside-has_codes (s ∷ box) (code ∷ codes) few inside = let (at, rest) = both_true _ _ inside in
    true-both _ _ (above s at) (inside-has_codes box codes (omega arith) rest)
  where
    above : (s : ℕ) → has_code s code ≡ true → not (nat_eq s 0) ≡ true
    above s h = by (nat_eq s 0) refl
      where
        by : (t : Bool) → nat_eq s 0 ≡ t → not t ≡ true
        by true e =
            let none : bit_at s code ≡ 0 = ap (λ n. bit_at n code) ((Decides-eqb s 0).0 e) ∙ bit_at-zero code in
            absurd (omega (arith, none, (Decides-eqb (bit_at s code) 1).0 h))
        by false e = refl

pub length-set : (place whole : ℕ) (box : List ℕ) → length (slice_set box place whole) ≡ length box
length-set place whole [] = refl
length-set zero whole (s ∷ box) = refl
length-set (suc place) whole (s ∷ box) = ap suc (length-set place whole box)

pub length-meets : (n : ℕ) (first second : List ℕ) → length first ≤ n → length second ≤ n → length (in_both first second) ≤ n
length-meets n [] second few few' = few'
length-meets n (s ∷ first) [] few few' = few
length-meets zero (s ∷ first) (t ∷ second) few few' = absurd (omega arith)
length-meets (suc n) (s ∷ first) (t ∷ second) few few' = let rest = length-meets n first second (omega arith) (omega arith) in omega arith
