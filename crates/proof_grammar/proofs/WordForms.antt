use Rattle.std.proofs.Common.{◌≡◌, ℕ, zero, suc, ◌<◌, ◌≤◌, ◌^◌, nat_lt, Bool, true, false, if◌then◌else◌, List, [], ◌∷◌, Option, Some, None, ℤ, pos, ◌≤ℤ◌}
use Rattle.std.proofs.Common.{int_le, map, refl, sym, ap, ◌∙◌, subst, arith}
use Rattle.std.specs.Fmt.{decimal, signed_decimal}
use Rattle.std.specs.List.{AllByRecursion}
use Rattle.std.proofs.lemmas.Bool.Decides.{Decides-ltb}
use Rattle.fraction128.specs.Range.{InRange}
use Rattle.bound_cert.specs.Paths.{named}
use Rattle.proof_grammar.specs.Limits.{IsLong, IsShort}
use Rattle.proof_grammar.specs.ProofLines.{Line}
use Rattle.proof_grammar.specs.Words.{below, decimal_said, divisor_said, ended, named_below, not_negative, whole_said, with_rest, word_in}
use Rattle.proof_grammar.specs.inner.WordLists.{all_in, consed, then_in}
use Rattle.proof_grammar.proofs.NumberLaws.{positive-Decides}
use Rattle.proof_grammar.proofs.Productions.{LineForm}
use Rattle.proof_grammar.proofs.WordLaws.{decimal_said-again, decimal_said-found, whole_said-again, whole_said-found}

-- The forms of words, and of words one after another.

-- ---- numbers

pub below-found : (limit : ℕ) (r : Option ℕ) (n : ℕ) → below limit r ≡ Some n → (r ≡ Some n) × (n < limit)
below-found limit None n e = absurd (cc)
below-found limit (Some m) n e = by (nat_lt m limit) refl e
  where
    by : (b : Bool) → nat_lt m limit ≡ b → (if b then Some m else None) ≡ Some n → (Some m ≡ Some n) × (n < limit)
    by false is h = absurd (cc)
    by true is h = let own : m ≡ n = cc (h) in (h, subst (λ (k : ℕ). k < limit) own ((Decides-ltb m limit).0 is))

pub named-found : (limit : ℕ) (r : Option ℕ) (n : ℕ) → named_below limit r ≡ Some n → (r ≡ Some (suc n)) × (n < limit)
named-found limit None n e = absurd (cc)
named-found limit (Some zero) n e = absurd (cc)
named-found limit (Some (suc m)) n e = by (nat_lt m limit) refl e
  where
    by : (b : Bool) → nat_lt m limit ≡ b → (if b then Some m else None) ≡ Some n → (Some (suc m) ≡ Some (suc n)) × (n < limit)
    by false is h = absurd (cc)
    by true is h = let own : m ≡ n = cc (h) in (ap (λ (k : ℕ). Some (suc k)) own, subst (λ (k : ℕ). k < limit) own ((Decides-ltb m limit).0 is))

-- the name of n is the spelling of the number behind it
pub name-is : (n : ℕ) → named n ≡ decimal (suc n)
name-is n = ap decimal (omega arith)

module _ (limit : ℕ) (small : limit ≤ 2 ^ 64) where
  pub below-again : (n : ℕ) → n < limit → below limit (decimal_said (decimal n)) ≡ Some n
  below-again n fits = rw (decimal_said-again n (omega (arith, fits, small)), (Decides-ltb n limit).1 fits) refl

  pub named-again : (n : ℕ) → n < limit → named_below limit (decimal_said (named n)) ≡ Some n
  named-again n fits = rw (name-is n, decimal_said-again (suc n) (omega (arith, fits, small)), (Decides-ltb n limit).1 fits) refl

  abbrev pub below_form : 0 < limit → LineForm {L = List ℕ} (λ n. n < limit) decimal
  below_form some = record {
    read = λ w. below limit (decimal_said w);
    sample = 0;
    sound_sample = some;
    again = below-again;
    found = λ w n e. let (is, fits) = below-found limit (decimal_said w) n e in (fits, (decimal_said-found w n is).1);
  }

  abbrev pub named_form : 0 < limit → LineForm {L = List ℕ} (λ n. n < limit) named
  named_form some = record {
    read = λ w. named_below limit (decimal_said w);
    sample = 0;
    sound_sample = some;
    again = named-again;
    found = λ w n e. let (is, fits) = named-found limit (decimal_said w) n e in (fits, (decimal_said-found w (suc n) is).1 ∙ sym (name-is n));
  }

abbrev pub long_form : LineForm {L = List ℕ} IsLong decimal
long_form = below_form (2 ^ 64) (omega arith) (omega arith)

abbrev pub short_form : LineForm {L = List ℕ} IsShort decimal
short_form = below_form (2 ^ 32) (omega arith) (omega arith)

abbrev pub named_long_form : LineForm {L = List ℕ} IsLong named
named_long_form = named_form (2 ^ 64) (omega arith) (omega arith)

abbrev pub named_short_form : LineForm {L = List ℕ} IsShort named
named_short_form = named_form (2 ^ 32) (omega arith) (omega arith)

abbrev pub whole_form : LineForm {L = List ℕ} InRange signed_decimal
whole_form = record { read = whole_said; sample = pos 0; sound_sample = omega arith; again = whole_said-again; found = whole_said-found }

abbrev pub IsDivisor : ℤ → Type 0
IsDivisor z = InRange z × (pos 0 ≤ℤ z)

abbrev pub divisor_form : LineForm {L = List ℕ} IsDivisor signed_decimal
divisor_form = record {
  read = divisor_said;
  sample = pos 0;
  sound_sample = (omega arith, (positive-Decides (pos 0)).0 refl);
  again = again;
  found =
      λ w z e. found w (whole_said w) refl z e;
}
  where
    again : (z : ℤ) → IsDivisor z → divisor_said (signed_decimal z) ≡ Some z
    again z fits = rw (whole_said-again z fits.0, (positive-Decides z).1 fits.1) refl

    found : (w : List ℕ) (r : Option ℤ) → whole_said w ≡ r → (z : ℤ) → not_negative r ≡ Some z → IsDivisor z × (w ≡ signed_decimal z)
    found w None is z e = absurd (cc (e))
    found w (Some y) is z e = by (int_le (pos 0) y) refl e
      where
        by : (b : Bool) → int_le (pos 0) y ≡ b → (if b then Some y else None) ≡ Some z → IsDivisor z × (w ≡ signed_decimal z)
        by false low h = absurd (cc (h))
        by true low h =
            let own : y ≡ z = cc (h) in
            let (fits, same) = whole_said-found w y is in
            (subst IsDivisor own (fits, (positive-Decides y).0 low), same ∙ ap signed_decimal own)

-- ---- words one after another

module _ {X Y : Type 0} (Good : X → Type 0) (print : X → List ℕ) (F : LineForm Good print) where
  -- what is read behind a first word
  pub next-found : (ws : Line) (next : X → Line → Option Y) (y : Y) → then_in (word_in F.read ws) next ≡ Some y → (x : X) × (rest : Line) × Good x
      × (ws ≡ print x ∷ rest) × (next x rest ≡ Some y)
  next-found [] next y e = absurd (cc (e))
  next-found (w ∷ ws) next y e = by (F.read w) refl e
    where
      by : (r : Option X) → F.read w ≡ r → then_in (with_rest ws r) next ≡ Some y → (x : X) × (rest : Line) × Good x × (w ∷ ws ≡ print x ∷ rest)
          × (next x rest ≡ Some y)
      by None is h = absurd (cc (h))
      by (Some x) is h = let (good, same) = F.found w x is in (x, ws, good, ap (λ (v : List ℕ). v ∷ ws) same, h)

  pub next-again : (x : X) (rest : Line) (next : X → Line → Option Y) → Good x → then_in (word_in F.read (print x ∷ rest)) next ≡ next x rest
  next-again x rest next good = rw (F.again x good) refl

pub end-found : {X : Type 0} (x y : X) (ws : Line) → ended x ws ≡ Some y → (x ≡ y) × (ws ≡ [])
end-found x y [] e = (cc (e), refl)
end-found x y (w ∷ ws) e = absurd (cc (e))

module _ {X : Type 0} (Good : X → Type 0) (print : X → List ℕ) (F : LineForm Good print) where
  pub all-again : (xs : List X) → AllByRecursion Good xs → all_in F.read (map print xs) ≡ Some xs
  all-again [] all = refl
  all-again (x ∷ xs) all = rw (F.again x all.0, all-again xs all.1) refl

  pub all-found : (ws : Line) (xs : List X) → all_in F.read ws ≡ Some xs → AllByRecursion Good xs × (ws ≡ map print xs)
  all-found [] xs e = let own : [] ≡ xs = cc (e) in (subst (AllByRecursion Good) own tt, ap (map print) own)
  all-found (w ∷ ws) xs e = by (F.read w) refl (all_in F.read ws) refl e (all-found ws)
    where
      by : (r : Option X) → F.read w ≡ r → (rs : Option (List X)) → all_in F.read ws ≡ rs → consed r rs ≡ Some xs
          → ((ys : List X) → all_in F.read ws ≡ Some ys → AllByRecursion Good ys × (ws ≡ map print ys)) → AllByRecursion Good xs × (w ∷ ws ≡ map print xs)
      by None is rs are h later = absurd (cc (h))
      by (Some x) is None are h later = absurd (cc (h))
      by (Some x) is (Some ys) are h later =
          let own : x ∷ ys ≡ xs = cc (h) in
          let (good, same) = F.found w x is in
          let (fine, rest) = later ys are in
          (subst (AllByRecursion Good) own (good, fine), ap (λ (v : List ℕ). v ∷ ws) same ∙ ap (λ (vs : Line). print x ∷ vs) rest ∙ ap (map print) own)
