-- Numbers of records, and names of fields.
use Rattle.std.proofs.Common.{◌≡◌, ◌≢◌, ◌∙◌, sym, ap, refl, inl, inr, ℕ, zero, suc, ◌-◌, ◌<◌, ◌≤◌, ◌^◌, Bool, true, false, List, Some, None, arith}
use Rattle.std.specs.Fmt.{decimal}
use Rattle.std.specs.Str.{bytes_eq}
use Rattle.std.proofs.lemmas.Bool.{cases_lt}
use Rattle.std.proofs.lemmas.Fmt.{decimal_injective}
use Rattle.std.proofs.lemmas.Slice.Eq.{bytes_eq-Decides}
use Rattle.reason_lines.specs.ReasonLines.{record_named}

-- ---- the record whose number is printed so

-- a number that is printed is that of its record
named_by : (b : Bool) (m n : ℕ) (text : List ℕ) → bytes_eq text (decimal (suc m)) ≡ b → m < 2 ^ 32 → n < 2 ^ 32 → text ≡ decimal (suc n)
    → (n < m → record_named m text ≡ Some n) → n < suc m → record_named (suc m) text ≡ Some n
named_by true m n text tested few below same later within =
    let printed : decimal (suc m) ≡ decimal (suc n) = sym ((bytes_eq-Decides text (decimal (suc m))).0 tested) ∙ same in
    let one : suc m ≡ suc n = decimal_injective (suc m) (suc n) (omega arith) (omega arith) printed in
    let number : m ≡ n = omega arith in
    rw tested (ap Some number)
named_by false m n text tested few below same later within = elim (cases_lt n m) [
  | inl before ↦ rw tested (later before)
  | inr last ↦
      let number : n ≡ m = omega arith in
      let equal : bytes_eq text (decimal (suc m)) ≡ true = (bytes_eq-Decides text (decimal (suc m))).1 (same ∙ ap (λ (k : ℕ). decimal (suc k)) number) in
      absurd (cc (tested, equal))
]

pub named_some : (rows n : ℕ) (text : List ℕ) → rows < 2 ^ 32 → text ≡ decimal (suc n) → n < rows → record_named rows text ≡ Some n
named_some zero n text few same within = absurd (omega arith)
named_some (suc m) n text few same within =
    named_by (bytes_eq text (decimal (suc m))) m n text refl (omega arith) (omega arith) same (λ before. named_some m n text (omega arith) same before) within

-- and no other text is
none_by : (b : Bool) (m : ℕ) (text : List ℕ) → bytes_eq text (decimal (suc m)) ≡ b → text ≢ decimal (suc m) → record_named m text ≡ None
    → record_named (suc m) text ≡ None
none_by true m text tested other later = absurd (other ((bytes_eq-Decides text (decimal (suc m))).0 tested))
none_by false m text tested other later = rw tested later

pub named_none : (rows : ℕ) (text : List ℕ) → ((n : ℕ) → n < rows → text ≢ decimal (suc n)) → record_named rows text ≡ None
named_none zero text others = refl
named_none (suc m) text others =
    none_by (bytes_eq text (decimal (suc m))) m text refl (others m (omega arith)) (named_none m text (λ n before. others n (omega arith)))

-- a number that is none from 1 to `rows`
pub named_outside : (rows number : ℕ) (text : List ℕ) → rows < 2 ^ 32 → number < 2 ^ 32 → text ≡ decimal number → ((n : ℕ) → n < rows → number ≢ suc n)
    → record_named rows text ≡ None
named_outside rows number text few small same outside = named_none rows text (λ n within printed.
    outside n within (decimal_injective number (suc n) (omega arith) (omega arith) (sym same ∙ printed)))

-- and one that is
pub named_inside : (rows number : ℕ) (text : List ℕ) → rows < 2 ^ 32 → text ≡ decimal number → 1 ≤ number → number ≤ rows
    → record_named rows text ≡ Some (number - 1)
named_inside rows zero text few same some within = absurd (omega arith)
named_inside rows (suc n) text few same some within =
    let before : n ≡ suc n - 1 = omega arith in
    named_some rows n text few same (omega arith) ∙ ap (λ (k : ℕ). Some k) before
