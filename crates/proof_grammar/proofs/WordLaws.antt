use Rattle.std.proofs.Common.{◌≡◌, ◌≢◌, ℕ, suc, ◌+◌, ◌-◌, ◌<◌, ◌^◌, ◌==◌, ◌&&◌, not, nat_lt, Bool, true, false, if◌then◌else◌, List, [], ◌∷◌, Option, Some}
use Rattle.std.proofs.Common.{None, ℤ, length, take, drop, refl, sym, ap, ◌∙◌, subst, arith}
use Rattle.std.specs.Fmt.{decimal, signed_decimal}
use Rattle.std.specs.List.{onto_first, position, position_or_len, slice_split}
use Rattle.std.specs.Str.{bytes_eq}
use Rattle.std.specs.Str.Parse.{digits_value}
use Rattle.std.proofs.lemmas.Bool.Decides.{Decides-ltb}
use Rattle.std.proofs.lemmas.Fmt.{decimal_is_IsNumeral_wide}
use Rattle.std.proofs.lemmas.List.{length-drop}
use Rattle.std.proofs.lemmas.List.Splits.{slice_split_first}
use Rattle.std.proofs.lemmas.Slice.Eq.{bytes_eq-Decides}
use Rattle.fraction128.specs.Range.{InRange}
use Rattle.edit_line.specs.Combinations.{in_range}
use Rattle.edit_line.proofs.BoolLaws.{both_true}
use Rattle.proof_grammar.specs.Cuts.{lines_in, lines_of_parts, push, split}
use Rattle.proof_grammar.specs.Words.{decimal_said, whole_of, whole_said}
use Rattle.proof_grammar.proofs.Cutting.{join, join-split, some-part, split-last, without}
use Rattle.proof_grammar.proofs.NumberLaws.{ranged-Decides, signed-whole}

-- Words as they are read.

-- ---- parts

pushed : (b : ℕ) (ss : List (List ℕ)) → push b ss ≡ onto_first b ss
pushed b [] = refl
pushed b (s ∷ ss) = refl

-- the parts are those that std's `split` gives
split-is : (mark : ℕ) (bytes : List ℕ) → split mark bytes ≡ slice_split (λ b. b == mark) bytes
split-is mark [] = refl
split-is mark (b ∷ bytes) = by (b == mark) (split-is mark bytes)
  where
    by : (c : Bool) → split mark bytes ≡ slice_split (λ k. k == mark) bytes → (if c then [] ∷ split mark bytes else push b (split mark bytes))
        ≡ (if c then [] ∷ slice_split (λ k. k == mark) bytes else onto_first b (slice_split (λ k. k == mark) bytes))
    by true same = ap (λ ss. [] ∷ ss) same
    by false same = ap (push b) same ∙ pushed b (slice_split (λ k. k == mark) bytes)

-- a text with the mark is cut at the first one
pub split-cut : (mark : ℕ) (bytes : List ℕ) (i : ℕ) → position (λ b. b == mark) bytes ≡ Some i → (i < length bytes)
    × (split mark bytes ≡ take i bytes ∷ split mark (drop (i + 1) bytes))
split-cut mark bytes i e = by (nat_lt (position_or_len (λ b. b == mark) bytes) (length bytes)) refl e
  where
    by : (c : Bool) → nat_lt (position_or_len (λ b. b == mark) bytes) (length bytes) ≡ c → (if c then Some (position_or_len (λ b. b == mark) bytes) else None)
        ≡ Some i
        → (i < length bytes) × (split mark bytes ≡ take i bytes ∷ split mark (drop (i + 1) bytes))
    by false is h = absurd (cc)
    by true is h =
        let place : position_or_len (λ b. b == mark) bytes ≡ i = cc in
        let inside = (Decides-ltb (position_or_len (λ b. b == mark) bytes) (length bytes)).0 is in (
          subst (λ (k : ℕ). k < length bytes) place inside,
          split-is mark bytes ∙ slice_split_first (λ b. b == mark) bytes 0 inside
              ∙ ap (λ (k : ℕ). take k bytes ∷ slice_split (λ b. b == mark) (drop (k + 1) bytes)) place
              ∙ ap (λ ss. take i bytes ∷ ss) (sym (split-is mark (drop (i + 1) bytes))),
        )

less-off : (a b : ℕ) → nat_lt (1 + a) (suc b) ≡ false → nat_lt a b ≡ false
less-off a b far = by (nat_lt a b) refl
  where
    by : (c : Bool) → nat_lt a b ≡ c → c ≡ false
    by false is = refl
    by true is = let more : nat_lt (1 + a) (suc b) ≡ true = (Decides-ltb (1 + a) (suc b)).1 (omega (arith, (Decides-ltb a b).0 is)) in absurd (cc (far, more))

unmarked : (mark : ℕ) (bs : List ℕ) → nat_lt (position_or_len (λ b. b == mark) bs) (length bs) ≡ false → without mark bs ≡ true
unmarked mark [] far = refl
unmarked mark (b ∷ bs) far = at (b == mark) far (unmarked mark bs)
  where
    at : (c : Bool) → nat_lt (if not c then 1 + position_or_len (λ k. k == mark) bs else 0) (suc (length bs)) ≡ false
        → (nat_lt (position_or_len (λ k. k == mark) bs) (length bs) ≡ false → without mark bs ≡ true) → (not c && without mark bs) ≡ true
    at true far_ later = let some : nat_lt 0 (suc (length bs)) ≡ true = (Decides-ltb 0 (suc (length bs))).1 (omega arith) in absurd (cc (far_, some))
    at false far_ later = later (less-off (position_or_len (λ k. k == mark) bs) (length bs) far_)

-- a text without the mark is one part
pub split-whole : (mark : ℕ) (bytes : List ℕ) → position (λ b. b == mark) bytes ≡ None → split mark bytes ≡ bytes ∷ []
split-whole mark bytes e = split-last mark bytes (unmarked mark bytes (by (nat_lt (position_or_len (λ b. b == mark) bytes) (length bytes)) refl e))
  where
    by : (c : Bool) → nat_lt (position_or_len (λ b. b == mark) bytes) (length bytes) ≡ c → (if c then Some (position_or_len (λ b. b == mark) bytes) else None)
        ≡ None → nat_lt (position_or_len (λ b. b == mark) bytes) (length bytes) ≡ false
    by false is h = is
    by true is h = absurd (cc)

-- ---- numbers

pub decimal_said-again : (n : ℕ) → n < 2 ^ 128 → decimal_said (decimal n) ≡ Some n
decimal_said-again n fits = rw (
  (decimal_is_IsNumeral_wide n (omega (arith, fits))).1,
  (bytes_eq-Decides (decimal n) (decimal n)).1 refl,
  (Decides-ltb n (2 ^ 128)).1 fits,
) refl

pub decimal_said-found : (w : List ℕ) (n : ℕ) → decimal_said w ≡ Some n → (n < 2 ^ 128) × (w ≡ decimal n)
decimal_said-found w n e = by (bytes_eq w (decimal (digits_value 10 w)) && nat_lt (digits_value 10 w) (2 ^ 128)) refl e
  where
    by : (b : Bool) → (bytes_eq w (decimal (digits_value 10 w)) && nat_lt (digits_value 10 w) (2 ^ 128)) ≡ b → (if b then Some (digits_value 10 w) else None)
        ≡ Some n → (n < 2 ^ 128) × (w ≡ decimal n)
    by false is h = absurd (cc)
    by true is h =
        let (same, fits) = both_true _ _ is in
        let own : digits_value 10 w ≡ n = cc in (
          subst (λ (k : ℕ). k < 2 ^ 128) own ((Decides-ltb (digits_value 10 w) (2 ^ 128)).0 fits),
          (bytes_eq-Decides w (decimal (digits_value 10 w))).0 same
              ∙ ap decimal own,
        )

pub decimal_said-none : (w : List ℕ) → ((n : ℕ) → n < 2 ^ 128 → decimal n ≢ w) → None ≡ decimal_said w
decimal_said-none w none_says = by (decimal_said w) refl
  where
    by : (r : Option ℕ) → decimal_said w ≡ r → None ≡ r
    by None is = refl
    by (Some n) is = let (fits, same) = decimal_said-found w n is in absurd (none_says n fits (sym same))

pub whole_said-again : (z : ℤ) → InRange z → whole_said (signed_decimal z) ≡ Some z
whole_said-again z fits = rw (signed-whole z fits, (bytes_eq-Decides (signed_decimal z) (signed_decimal z)).1 refl, (ranged-Decides z).1 fits) refl

pub whole_said-found : (w : List ℕ) (z : ℤ) → whole_said w ≡ Some z → InRange z × (w ≡ signed_decimal z)
whole_said-found w z e = by (bytes_eq w (signed_decimal (whole_of w)) && in_range (whole_of w)) refl e
  where
    by : (b : Bool) → (bytes_eq w (signed_decimal (whole_of w)) && in_range (whole_of w)) ≡ b → (if b then Some (whole_of w) else None) ≡ Some z → InRange z
        × (w ≡ signed_decimal z)
    by false is h = absurd (cc)
    by true is h =
        let (same, fits) = both_true _ _ is in
        let own : whole_of w ≡ z = cc in
        (subst InRange own ((ranged-Decides (whole_of w)).0 fits), (bytes_eq-Decides w (signed_decimal (whole_of w))).0 same ∙ ap signed_decimal own)

pub whole_said-none : (w : List ℕ) → ((z : ℤ) → InRange z → signed_decimal z ≢ w) → None ≡ whole_said w
whole_said-none w none_says = by (whole_said w) refl
  where
    by : (r : Option ℤ) → whole_said w ≡ r → None ≡ r
    by None is = refl
    by (Some z) is = let (fits, same) = whole_said-found w z is in absurd (none_says z fits (sym same))

-- all that is left behind a place
pub rest-is : {X : Type 0} (xs : List X) (i : ℕ) → drop i xs ≡ take (length xs - i) (drop i xs)
rest-is xs i = sym (ap (λ (n : ℕ). take n (drop i xs)) (sym (length-drop i xs)) ∙ take-length (drop i xs))
  where
    take-length : {X : Type 0} (ys : List X) → take (length ys) ys ≡ ys
    take-length [] = refl
    take-length (y ∷ ys) = ap (λ zs. y ∷ zs) (take-length ys)

-- ---- lines

-- a text whose first line is cut off
pub line-cut : (text line rest : List ℕ) → split 10 text ≡ line ∷ split 10 rest → lines_in text ≡ split 32 line ∷ lines_in rest
line-cut text line rest e = let (s, ss, parts) = some-part 10 rest in ap lines_of_parts (e ∙ ap (λ (ps : List (List ℕ)). line ∷ ps) parts) ∙ first line s ss
    ∙ ap (λ (ps : List (List ℕ)). split 32 line ∷ lines_of_parts ps) (sym parts)
  where
    first : (l s : List ℕ) (ss : List (List ℕ)) → lines_of_parts (l ∷ s ∷ ss) ≡ split 32 l ∷ lines_of_parts (s ∷ ss)
    first [] s ss = refl
    first (b ∷ l) s ss = refl

-- where bytes are left, a line is
pub some-line : (b : ℕ) (text : List ℕ) → lines_in (b ∷ text) ≢ []
some-line b text e = by (split 10 (b ∷ text)) (join-split 10 (b ∷ text)) e
  where
    by : (ps : List (List ℕ)) → join 10 ps ≡ b ∷ text → lines_of_parts ps ≡ [] → ⊥
    by [] same none = absurd (cc (same))
    by ([] ∷ []) same none = absurd (cc (same))
    by ((c ∷ s) ∷ []) same none = absurd (cc (none))
    by ([] ∷ t ∷ ss) same none = absurd (cc (none))
    by ((c ∷ s) ∷ t ∷ ss) same none = absurd (cc (none))

pub left-some : (text : List ℕ) → (length text == 0) ≡ false → lines_in text ≢ []
left-some [] some e = absurd (cc (some))
left-some (b ∷ text) some e = some-line b text e
