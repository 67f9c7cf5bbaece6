use Rattle.std.proofs.Common.{◌≡◌, ◌≢◌, ℕ, zero, suc, ◌<◌, ◌==◌, ◌^◌, ◌||◌, Bool, true, false, List, [], ◌∷◌, ◌++◌, refl, sym, ap, ◌∙◌, arith}
use Rattle.std.specs.Int.{bit_at}
use Rattle.std.specs.List.{fold}
use Rattle.std.proofs.lemmas.Bool.Decides.{Decides-eqb}
use Rattle.std.proofs.lemmas.List.Sums.{fold-append}
use Rattle.std.proofs.lemmas.Nat.Bits.{bit_at-lt, bit_at-pow_other, bit_at-pow_same, bit_at-zero, bit_at_or, bit_at_xor, same_from_bits}
use Rattle.edit_model.specs.FieldSets.{has_field, has_number, set_of, with_number, without_number}

-- Sets of fields, kept as bits.

-- two sets with the same fields are equal
pub same_set : (a b : ℕ) → ((f : ℕ) → has_number a f ≡ has_number b f) → a ≡ b
same_set a b same = same_from_bits a b (λ f. same_bit (bit_at a f) (bit_at b f) (bit_at-lt a f) (bit_at-lt b f) (same f))
  where
    same_bit : (a b : ℕ) → a < 2 → b < 2 → (a == 1) ≡ (b == 1) → a ≡ b
    same_bit zero zero below under e = refl
    same_bit zero (suc zero) below under e = absurd (cc)
    same_bit (suc zero) zero below under e = absurd (cc)
    same_bit (suc zero) (suc zero) below under e = refl
    same_bit (suc (suc k)) b below under e = absurd (omega arith)
    same_bit a (suc (suc k)) below under e = absurd (omega arith)

-- the empty set has no field
pub has-none : (f : ℕ) → has_number 0 f ≡ false
has-none f = ap (λ (b : ℕ). b == 1) (bit_at-zero f)

-- a set with a field has it
pub has-with_same : (set n : ℕ) → has_number (with_number set n) n ≡ true
has-with_same set n = (Decides-eqb (bit_at (with_number set n) n) 1).1 (omega (arith, bit_at_or set (2 ^ n) n, bit_at-pow_same n, bit_at-lt set n))

-- and of the others those that it had
pub has-with_other : (set n f : ℕ) → f ≢ n → has_number (with_number set n) f ≡ has_number set f
has-with_other set n f apart = ap (λ (b : ℕ). b == 1) (omega (arith, bit_at_or set (2 ^ n) f, bit_at-pow_other n f apart))

-- a set without a field has it not
pub has-without_same : (set n : ℕ) → has_number (without_number set n) n ≡ false
has-without_same set n =
    let taken : bit_at (without_number set n) n ≡ 0 = omega (
      arith,
      bit_at_xor (with_number set n) (2 ^ n) n,
      bit_at_or set (2 ^ n) n,
      bit_at-pow_same n,
      bit_at-lt set n,
    ) in
    ap (λ (b : ℕ). b == 1) taken

-- and of the others those that it had
pub has-without_other : (set n f : ℕ) → f ≢ n → has_number (without_number set n) f ≡ has_number set f
has-without_other set n f apart =
    ap (λ (b : ℕ). b == 1) (omega (arith, bit_at_xor (with_number set n) (2 ^ n) f, bit_at_or set (2 ^ n) f, bit_at-pow_other n f apart, bit_at-lt set f))

-- a field is another one or the same
module _ (f n : ℕ) {P : Type 0} (same : f ≡ n → P) (other : f ≢ n → P) where
  by_field : P
  by_field = by (f == n) (Decides-eqb f n).0 (Decides-eqb f n).1
    where
      by : (b : Bool) → (b ≡ true → f ≡ n) → (f ≡ n → b ≡ true) → P
      by true is told = same (is refl)
      by false is told = other (λ e. absurd (cc (told e)))

-- the fields of a set with one more are that one and those that it had
pub has-with : (set n f : ℕ) → has_number (with_number set n) f ≡ ((n == f) || has_number set f)
has-with set n f =
    by_field f n
    (λ same. ap (has_number (with_number set n)) same ∙ has-with_same set n ∙ sym (ap (λ (b : Bool). b || has_number set f) ((Decides-eqb n f).1 (sym same))))
    (λ apart. has-with_other set n f apart ∙ sym (ap (λ (b : Bool). b || has_number set f) (unequal n f (λ e. apart (sym e)))))
  where
    unequal : (a b : ℕ) → a ≢ b → (a == b) ≡ false
    unequal a b apart = by (a == b) (Decides-eqb a b).0
      where
        by : (c : Bool) → (c ≡ true → a ≡ b) → c ≡ false
        by true is = absurd (apart (is refl))
        by false is = refl

-- a set that has a field and of the others those that another has is that one with the field
pub with-is : (set n next : ℕ) → has_number next n ≡ true → ((f : ℕ) → f ≢ n → has_number next f ≡ has_number set f) → next ≡ with_number set n
with-is set n next has others =
    same_set next (with_number set n) (λ f. by_field f n
    (λ same. ap (has_number next) same ∙ has ∙ sym (has-with_same set n) ∙ ap (has_number (with_number set n)) (sym same))
    (λ apart. others f apart ∙ sym (has-with_other set n f apart)))

-- and one that has not the field is that one without it
pub without-is : (set n next : ℕ) → has_number next n ≡ false → ((f : ℕ) → f ≢ n → has_number next f ≡ has_number set f) → next ≡ without_number set n
without-is set n next out others =
    same_set next (without_number set n) (λ f. by_field f n
    (λ same. ap (has_number next) same ∙ out ∙ sym (has-without_same set n) ∙ ap (has_number (without_number set n)) (sym same))
    (λ apart. others f apart ∙ sym (has-without_other set n f apart)))

has-fold : (set : ℕ) (fields : List ℕ) (f : ℕ) → has_number (fold with_number set fields) f ≡ (has_field fields f || has_number set f)
has-fold set [] f = refl
has-fold set (n ∷ fields) f = has-fold (with_number set n) fields f ∙ ap (λ (b : Bool). has_field fields f || b) (has-with set n f)
    ∙ moved (has_field fields f) (n == f) (has_number set f)
  where
    moved : (a b c : Bool) → (a || (b || c)) ≡ ((b || a) || c)
    moved true true c = refl
    moved true false c = refl
    moved false true c = refl
    moved false false c = refl

-- the set of the fields of a list has exactly these
pub has-set_of : (fields : List ℕ) (f : ℕ) → has_number (set_of fields) f ≡ has_field fields f
has-set_of fields f = has-fold 0 fields f ∙ ap (λ (b : Bool). has_field fields f || b) (has-none f) ∙ or_false (has_field fields f)
  where
    or_false : (b : Bool) → (b || false) ≡ b
    or_false true = refl
    or_false false = refl

-- a field more at the list's end is one more in the set
pub set_of-push : (fields : List ℕ) (f : ℕ) → set_of (fields ++ f ∷ []) ≡ with_number (set_of fields) f
set_of-push fields f = fold-append with_number 0 fields (f ∷ [])
