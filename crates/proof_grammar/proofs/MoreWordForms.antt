use Rattle.std.proofs.Common.{◌≡◌, ℕ, zero, suc, ◌-◌, ◌^◌, nat_lt, Bool, true, false, if◌then◌else◌, List, ◌∷◌, ◌++◌, Option, Some, None, IfSome, codes, refl}
use Rattle.std.proofs.Common.{sym, ap, ◌∙◌, subst, arith}
use Rattle.std.specs.Fmt.{decimal}
use Rattle.std.specs.Str.{bytes_eq}
use Rattle.std.proofs.lemmas.Bool.Decides.{Decides-ltb}
use Rattle.std.proofs.lemmas.Fmt.{decimal_digit}
use Rattle.std.proofs.lemmas.Slice.Eq.{bytes_eq-Decides}
use Rattle.edit_line.specs.declared.place.Place.{Place}
use Rattle.edit_line.specs.declared.place.Place.TheVariants.{Field, Constant}
use Rattle.bound_cert.specs.Paths.{named}
use Rattle.bound_cert.specs.declared.outcome.GiftFault.{GiftFault}
use Rattle.bound_cert.specs.declared.outcome.GiftFault.TheVariants as gift
use Rattle.proof_grammar.specs.Limits.{IsGift, IsLong, IsPlace, IsShort}
use Rattle.proof_grammar.specs.ProofLines.{Line, gift_words, named_or_0, place_word}
use Rattle.proof_grammar.specs.inner.RowReading.{gift_fault_behind, gift_fault_in}
use Rattle.proof_grammar.specs.Words.{decimal_said, fixed_said, named_or_none, named_short_or_0, place_said, positive_said, said_place}
use Rattle.proof_grammar.specs.inner.WordLists.{then_in}
use Rattle.proof_grammar.proofs.Productions.{LineForm}
use Rattle.proof_grammar.proofs.WordForms.{name-is, named-again, named-found, named_long_form, named_short_form, next-again, next-found}
use Rattle.proof_grammar.proofs.WordLaws.{decimal_said-again, decimal_said-found}

-- The forms of fixed words, of numbers that may be none, and of two words that name a number's place.

-- ---- a fixed word

abbrev pub Always : Unit {0} → Type 0
Always u = Unit {0}

pub fixed-again : (word : List ℕ) → fixed_said word word ≡ Some tt
fixed-again word = rw ((bytes_eq-Decides word word).1 refl) refl

pub fixed-found : (word w : List ℕ) (u : Unit {0}) → fixed_said word w ≡ Some u → Always u × (w ≡ word)
fixed-found word w u e = by (bytes_eq w word) refl e
  where
    by : (b : Bool) → bytes_eq w word ≡ b → (if b then Some tt else None) ≡ Some u → Always u × (w ≡ word)
    by false is h = absurd (cc (h))
    by true is h = (tt, (bytes_eq-Decides w word).0 is)

abbrev pub fixed_form : (word : List ℕ) → LineForm {L = List ℕ} Always (λ u. word)
fixed_form word = record { read = fixed_said word; sample = tt; sound_sample = tt; again = λ u good. fixed-again word; found = fixed-found word }

-- ---- a number that is not 0

abbrev pub IsLess : ℕ → Type 0
IsLess w = IsLong (suc w)

pub positive-again : (w : ℕ) → IsLess w → positive_said (decimal (suc w)) ≡ Some w
positive-again w fits = ap positive_said (sym (name-is w)) ∙ named-again (2 ^ 64 - 1) (omega arith) w (omega (arith, fits))

pub positive-found : (v : List ℕ) (w : ℕ) → positive_said v ≡ Some w → IsLess w × (v ≡ decimal (suc w))
positive-found v w e = let (is, fits) = named-found (2 ^ 64 - 1) (decimal_said v) w e in (omega (arith, fits), (decimal_said-found v (suc w) is).1)

abbrev pub positive_form : LineForm {L = List ℕ} IsLess (λ w. decimal (suc w))
positive_form = record { read = positive_said; sample = 0; sound_sample = omega arith; again = positive-again; found = positive-found }

-- ---- a name, or 0 for none

abbrev pub IsOption : Option ℕ → Type 0
IsOption o = IfSome o IsShort

zero-word : codes "0" ≡ decimal 0
zero-word = sym (decimal_digit 0 (omega arith))

pub option-again : (o : Option ℕ) → IsOption o → named_short_or_0 (named_or_0 o) ≡ Some o
option-again None fits = ap (λ (w : List ℕ). named_or_none (2 ^ 32) (decimal_said w)) zero-word
    ∙ ap (named_or_none (2 ^ 32)) (decimal_said-again 0 (omega arith))
option-again (Some n) fits = rw (name-is n, decimal_said-again (suc n) (omega (arith, fits)), (Decides-ltb n (2 ^ 32)).1 fits) refl

pub option-found : (w : List ℕ) (o : Option ℕ) → named_short_or_0 w ≡ Some o → IsOption o × (w ≡ named_or_0 o)
option-found w o e = by (decimal_said w) refl e
  where
    by : (r : Option ℕ) → decimal_said w ≡ r → named_or_none (2 ^ 32) r ≡ Some o → IsOption o × (w ≡ named_or_0 o)
    by None is h = absurd (cc (h))
    by (Some zero) is h = let own : None ≡ o = cc (h) in (subst IsOption own tt, (decimal_said-found w 0 is).1 ∙ sym zero-word ∙ ap named_or_0 own)
    by (Some (suc n)) is h = at (nat_lt n (2 ^ 32)) refl h
      where
        at : (b : Bool) → nat_lt n (2 ^ 32) ≡ b → (if b then Some (Some n) else None) ≡ Some o → IsOption o × (w ≡ named_or_0 o)
        at false low h_ = absurd (cc (h_))
        at true low h_ = let own : Some n ≡ o = cc (h_) in (
          subst IsOption own ((Decides-ltb n (2 ^ 32)).0 low),
          (decimal_said-found w (suc n) is).1
              ∙ sym (name-is n) ∙ ap named_or_0 own,
        )

abbrev pub option_form : LineForm {L = List ℕ} IsOption named_or_0
option_form = record { read = named_short_or_0; sample = None; sound_sample = tt; again = option-again; found = option-found }

-- ---- the place of a number

pub place-again : (p : Place) → IsPlace p → place_said (place_word p) ≡ Some p
place-again Constant fits = ap said_place (option-again None tt)
place-again (Field f) fits = ap said_place (option-again (Some f) fits)

pub place-found : (w : List ℕ) (p : Place) → place_said w ≡ Some p → IsPlace p × (w ≡ place_word p)
place-found w p e = by (named_short_or_0 w) refl e
  where
    by : (r : Option (Option ℕ)) → named_short_or_0 w ≡ r → said_place r ≡ Some p → IsPlace p × (w ≡ place_word p)
    by None is h = absurd (cc (h))
    by (Some None) is h = let own : Constant ≡ p = cc (h) in (subst IsPlace own tt, (option-found w None is).1 ∙ ap place_word own)
    by (Some (Some f)) is h = let own : Field f ≡ p = cc (h) in
        let (fits, same) = option-found w (Some f) is in (subst IsPlace own fits, same ∙ ap place_word own)

abbrev pub place_form : LineForm {L = List ℕ} IsPlace place_word
place_form = record { read = place_said; sample = Constant; sound_sample = tt; again = place-again; found = place-found }

-- ---- a number that left the range while values were given

gift-again : (g : GiftFault) (rest : Line) → IsGift g → gift_fault_in (gift_words g ++ rest) ≡ Some (g, rest)
gift-again (gift.Bound field line) rest fits = next-again IsOption named_or_0 option_form (Some field) _ _ fits.0
    ∙ next-again IsLong named named_long_form line rest _ fits.1
gift-again (gift.Test rule) rest fits = next-again IsOption named_or_0 option_form None _ _ tt ∙ next-again IsShort named named_short_form rule rest _ fits

gift-found : (ws : Line) (g : GiftFault) (rest : Line) → gift_fault_in ws ≡ Some (g, rest) → IsGift g × (ws ≡ gift_words g ++ rest)
gift-found ws g rest e = let (o, w1, fits, e1, h1) = next-found IsOption named_or_0 option_form ws _ (g, rest) e in by o w1 fits e1 h1
  where
    by : (o : Option ℕ) (w1 : Line) → IsOption o → ws ≡ named_or_0 o ∷ w1 → gift_fault_behind o w1 ≡ Some (g, rest) → IsGift g × (ws ≡ gift_words g ++ rest)
    by None w1 fits e1 h1 =
        let (rule, w2, r_fits, e2, h2) = next-found IsShort named named_short_form w1 _ (g, rest) h1 in
        let both : (gift.Test rule, w2) ≡ (g, rest) = cc (h2) in
        let own : gift.Test rule ≡ g = ap (λ (p : GiftFault × Line). p.0) both in
        let end : w2 ≡ rest = ap (λ (p : GiftFault × Line). p.1) both in (
          subst IsGift own r_fits,
          e1 ∙ ap (λ (v : Line). codes "0" ∷ v) (e2 ∙ ap (λ (v : Line). named rule ∷ v) end)
              ∙ ap (λ (x : GiftFault). gift_words x ++ rest) own,
        )
    by (Some field) w1 fits e1 h1 =
        let (line, w2, l_fits, e2, h2) = next-found IsLong named named_long_form w1 _ (g, rest) h1 in
        let both : (gift.Bound field line, w2) ≡ (g, rest) = cc (h2) in
        let own : gift.Bound field line ≡ g = ap (λ (p : GiftFault × Line). p.0) both in
        let end : w2 ≡ rest = ap (λ (p : GiftFault × Line). p.1) both in (
          subst IsGift own (fits, l_fits),
          e1 ∙ ap (λ (v : Line). named field ∷ v) (e2 ∙ ap (λ (v : Line). named line ∷ v) end)
              ∙ ap (λ (x : GiftFault). gift_words x ++ rest) own,
        )

-- what is read behind it
pub gift-next : {Y : Type 0} (ws : Line) (next : GiftFault → Line → Option Y) (y : Y) → then_in (gift_fault_in ws) next ≡ Some y → (g : GiftFault)
    × (rest : Line) × IsGift g × (ws ≡ gift_words g ++ rest) × (next g rest ≡ Some y)
gift-next {Y} ws next y e = by (gift_fault_in ws) refl e
  where
    by : (r : Option (GiftFault × Line)) → gift_fault_in ws ≡ r → then_in r next ≡ Some y → (g : GiftFault) × (rest : Line) × IsGift g
        × (ws ≡ gift_words g ++ rest) × (next g rest ≡ Some y)
    by None is h = absurd (cc (h))
    by (Some (g, rest)) is h = let (fits, same) = gift-found ws g rest is in (g, rest, fits, same, h)

pub gift-then : {Y : Type 0} (g : GiftFault) (rest : Line) (next : GiftFault → Line → Option Y) → IsGift g → then_in (gift_fault_in (gift_words g ++ rest)) next
    ≡ next g rest
gift-then g rest next fits = ap (λ (r : Option (GiftFault × Line)). then_in r next) (gift-again g rest fits)
