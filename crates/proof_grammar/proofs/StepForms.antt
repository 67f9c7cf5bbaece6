use Rattle.std.proofs.Common.{◌≡◌, ◌⊎◌, inl, inr, ℕ, zero, suc, ◌+◌, ◌-◌, ◌^◌, ◌<◌, ◌≤◌, nat_lt, Bool, true, false, if◌then◌else◌, List, [], ◌∷◌, Option, Some}
use Rattle.std.proofs.Common.{None, codes, option_map, refl, sym, ap, ◌∙◌, subst, arith}
use Rattle.std.specs.Fmt.{signed_decimal}
use Rattle.std.specs.List.{AllByRecursion}
use Rattle.std.specs.Str.{bytes_eq}
use Rattle.std.proofs.lemmas.Bool.Decides.{Decides-ltb}
use Rattle.std.proofs.lemmas.Slice.Eq.{bytes_eq-Decides}
use Rattle.fraction128.specs.Range.{InRange}
use Rattle.derivation.specs.declared.step.Step.{Step}
use Rattle.derivation.specs.declared.step.Step.TheVariants as step
use Rattle.bound_cert.specs.Paths.{named}
use Rattle.proof_grammar.specs.Limits.{IsLong, IsShort, IsStep, IsTableStep}
use Rattle.proof_grammar.specs.ProofLines.{Line, step_line_in, step_line}
use Rattle.proof_grammar.specs.inner.StepReading.{combine_in, cover_in, ended_if, fail_in, few_given_in, fix_in, given_in, shared_in, shared_step_in, step_in}
use Rattle.proof_grammar.specs.inner.StepReading.{table_step_in}
use Rattle.proof_grammar.specs.Words.{named_long}
use Rattle.proof_grammar.specs.inner.WordLists.{all_in}
use Rattle.proof_grammar.proofs.Productions.{LineForm}
use Rattle.proof_grammar.proofs.WordForms.{IsDivisor, all-again, all-found, divisor_form, end-found, named_long_form, named_short_form, next-again, next-found}
use Rattle.proof_grammar.proofs.WordForms.{whole_form}

-- The form of a step's line.

-- ---- a first word of several

pub chosen : {Y : Type 0} (w word : List ℕ) (here other : Option Y) (y : Y) → (if bytes_eq w word then here else other) ≡ Some y
    → ((w ≡ word) × (here ≡ Some y)) ⊎ (other ≡ Some y)
chosen w word here other y e = by (bytes_eq w word) refl e
  where
    by : (b : Bool) → bytes_eq w word ≡ b → (if b then here else other) ≡ Some y → ((w ≡ word) × (here ≡ Some y)) ⊎ (other ≡ Some y)
    by true is h = inl ((bytes_eq-Decides w word).0 is, h)
    by false is h = inr h

-- what is read behind a first word, of several that each have a reading of their own
abbrev pub first_of : {Y : Type 0} → List (List ℕ × (Line → Option Y)) → List ℕ → Line → Option Y
first_of [] w ws = None
first_of (kind ∷ kinds) w ws = if bytes_eq w kind.0 then kind.1 ws else first_of kinds w ws

-- what is read behind this word is good, and its line begins with the word
abbrev pub IsFound : {Y : Type 0} → (Y → Type 0) → (Y → Line) → List ℕ × (Line → Option Y) → Type 0
IsFound {Y} Good print kind = (ws : Line) (y : Y) → kind.1 ws ≡ Some y → Good y × (kind.0 ∷ ws ≡ print y)

pub first-found : {Y : Type 0} (Good : Y → Type 0) (print : Y → Line) (kinds : List (List ℕ × (Line → Option Y))) → AllByRecursion (IsFound Good print) kinds
    → (w : List ℕ) (ws : Line) (y : Y) → first_of kinds w ws ≡ Some y
    → Good y × (w ∷ ws ≡ print y)
first-found Good print [] all w ws y e = absurd (cc (e))
first-found Good print (kind ∷ kinds) all w ws y e = elim (chosen w kind.0 (kind.1 ws) (first_of kinds w ws) y e) [
  | inl (is, h) ↦ let (fits, same) = all.0 ws y h in (fits, ap (λ (v : List ℕ). v ∷ ws) is ∙ same)
  | inr later ↦ first-found Good print kinds all.1 w ws y later
]

-- ---- found

-- two words that differ
other-word : (one other : List ℕ) → bytes_eq one other ≡ false → one ≡ other → ⊥
other-word one other differs same = let is : bytes_eq one other ≡ true = (bytes_eq-Decides one other).1 same in cc

not-below : (n m : ℕ) → m ≤ n → nat_lt n m ≡ false
not-below n m least = by (nat_lt n m) refl
  where
    by : (b : Bool) → nat_lt n m ≡ b → nat_lt n m ≡ false
    by false is = is
    by true is = let less : n < m = (Decides-ltb n m).0 is in absurd (omega arith)

at-least : (n m : ℕ) → nat_lt n m ≡ false → m ≤ n
at-least n m is = elim (order n m) [ inl less ↦ let yes_less : nat_lt n m ≡ true = (Decides-ltb n m).1 less in absurd (cc) | inr least ↦ least ]
  where
    order : (n m : ℕ) → (n < m) ⊎ (m ≤ n)
    order zero zero = inr (omega arith)
    order zero (suc m) = inl (omega arith)
    order (suc n) zero = inr (omega arith)
    order (suc n) (suc m) = elim (order n m) [ inl less ↦ inl (omega arith) | inr least ↦ inr (omega arith) ]

-- a step whose line has this word, and these behind it
abbrev Found : Step → List ℕ → Line → Type 0
Found s word ws = IsStep s × (word ∷ ws ≡ step_line s)

given-found : (ws : Line) (s : Step) → given_in ws ≡ Some s → Found s (codes "given") ws
given-found ws s e =
    let (i, w1, fits, e1, h1) = next-found IsLong named named_long_form ws _ s e in
    let (own, none) = end-found (step.Given i) s w1 h1 in
    (subst IsStep own fits, ap (λ (v : Line). codes "given" ∷ v) (e1 ∙ ap (λ (v : Line). named i ∷ v) none) ∙ ap step_line own)

fail-found : (ws : Line) (s : Step) → fail_in ws ≡ Some s → Found s (codes "fail") ws
fail-found ws s e =
    let (i, w1, fits, e1, h1) = next-found IsLong named named_long_form ws _ s e in
    let (own, none) = end-found (step.Fail i) s w1 h1 in
    (subst IsStep own fits, ap (λ (v : Line). codes "fail" ∷ v) (e1 ∙ ap (λ (v : Line). named i ∷ v) none) ∙ ap step_line own)

fix-found : (ws : Line) (s : Step) → fix_in ws ≡ Some s → Found s (codes "fix") ws
fix-found ws s e =
    let (f, w1, f_fits, e1, h1) = next-found IsShort named named_short_form ws _ s e in
    let (p, w2, p_fits, e2, h2) = next-found IsLong named named_long_form w1 _ s h1 in
    let (own, none) = end-found (step.Fix f p) s w2 h2 in (
      subst IsStep own (f_fits, p_fits),
      ap (λ (v : Line). codes "fix" ∷ v) (e1 ∙ ap (λ (v : Line). named f ∷ v) (e2 ∙ ap (λ (v : Line). named p ∷ v) none))
          ∙ ap step_line own,
    )

combine-found : (ws : Line) (s : Step) → combine_in ws ≡ Some s → Found s (codes "combine") ws
combine-found ws s e =
    let (a, w1, a_fits, e1, h1) = next-found IsLong named named_long_form ws _ s e in
    let (m, w2, m_fits, e2, h2) = next-found InRange signed_decimal whole_form w1 _ s h1 in
    let (b, w3, b_fits, e3, h3) = next-found IsLong named named_long_form w2 _ s h2 in
    let (n, w4, n_fits, e4, h4) = next-found InRange signed_decimal whole_form w3 _ s h3 in
    let (g, w5, g_fits, e5, h5) = next-found IsDivisor signed_decimal divisor_form w4 _ s h4 in
    let (own, none) = end-found (step.Combine a m b n g) s w5 h5 in
    let words : ws ≡ named a ∷ signed_decimal m ∷ named b ∷ signed_decimal n ∷ signed_decimal g ∷ [] =
    e1 ∙ ap (λ (v : Line). named a ∷ v)
    (e2 ∙ ap (λ (v : Line). signed_decimal m ∷ v)
    (e3 ∙ ap (λ (v : Line). named b ∷ v) (e4 ∙ ap (λ (v : Line). signed_decimal n ∷ v) (e5 ∙ ap (λ (v : Line). signed_decimal g ∷ v) none)))) in
    (subst IsStep own (a_fits, m_fits, b_fits, n_fits, g_fits.0, g_fits.1), ap (λ (v : Line). codes "combine" ∷ v) words ∙ ap step_line own)

cover-found : (ws : Line) (s : Step) → cover_in ws ≡ Some s → Found s (codes "cover") ws
cover-found ws s e = let (f, w1, fits, e1, h1) = next-found IsShort named named_short_form ws _ s e in by f w1 fits e1 (all_in named_long w1) refl h1
  where
    by : (f : ℕ) (w1 : Line) → IsShort f → ws ≡ named f ∷ w1 → (r : Option (List ℕ)) → all_in named_long w1 ≡ r
        → option_map (λ (parts : List ℕ). step.Cover f parts) r ≡ Some s → Found s (codes "cover") ws
    by f w1 fits e1 None is h = absurd (cc (h))
    by f w1 fits e1 (Some parts) is h =
        let own : step.Cover f parts ≡ s = cc (h) in
        let (all, words) = all-found IsLong named named_long_form w1 parts is in
        (subst IsStep own (fits, all), ap (λ (v : Line). codes "cover" ∷ v) (e1 ∙ ap (λ (v : Line). named f ∷ v) words) ∙ ap step_line own)

pub step-found : (l : Line) (s : Step) → step_in l ≡ Some s → IsStep s × (l ≡ step_line s)
step-found [] s e = absurd (cc (e))
step-found (w ∷ ws) s e =
    first-found IsStep step_line ((codes "given", given_in) ∷ (codes "combine", combine_in) ∷ (codes "fail", fail_in) ∷ (codes "cover", cover_in)
    ∷ (codes "fix", fix_in) ∷ [])
    (given-found, (combine-found, (fail-found, (cover-found, (fix-found, tt))))) w ws s e

-- ---- read again

pub step-again : (s : Step) → IsStep s → step_in (step_line s) ≡ Some s
step-again (step.Given i) fits = next-again IsLong named named_long_form i [] _ fits
step-again (step.Combine a m b n g) (a_fits, m_fits, b_fits, n_fits, g_fits, above) =
    next-again IsLong named named_long_form a _ _ a_fits ∙ next-again InRange signed_decimal whole_form m _ _ m_fits
    ∙ next-again IsLong named named_long_form b _ _ b_fits ∙ next-again InRange signed_decimal whole_form n _ _ n_fits
    ∙ next-again IsDivisor signed_decimal divisor_form g [] _ (g_fits, above)
step-again (step.Fail i) fits = next-again IsLong named named_long_form i [] _ fits
step-again (step.Cover field parts) fits = next-again IsShort named named_short_form field _ _ fits.0
    ∙ ap (option_map (λ (parts : List ℕ). step.Cover field parts)) (all-again IsLong named named_long_form parts fits.1)
step-again (step.Fix field part) fits = next-again IsShort named named_short_form field _ _ fits.0 ∙ next-again IsLong named named_long_form part [] _ fits.1

abbrev pub step_form : LineForm IsStep step_line
step_form = record { read = step_in; sample = step.Given 0; sound_sample = omega arith; again = step-again; found = step-found }

-- ---- steps of a table

table-given-found : (ws : Line) (s : Step) → given_in ws ≡ Some s → IsTableStep s × (codes "given" ∷ ws ≡ step_line s)
table-given-found ws s e =
    let (i, w1, fits, e1, h1) = next-found IsLong named named_long_form ws _ s e in
    let (own, none) = end-found (step.Given i) s w1 h1 in
    (subst IsTableStep own fits, ap (λ (v : Line). codes "given" ∷ v) (e1 ∙ ap (λ (v : Line). named i ∷ v) none) ∙ ap step_line own)

table-combine-found : (ws : Line) (s : Step) → combine_in ws ≡ Some s → IsTableStep s × (codes "combine" ∷ ws ≡ step_line s)
table-combine-found ws s e = let (fits, same) = combine-found ws s e in (by s fits same, same)
  where
    by : (t : Step) → IsStep t → codes "combine" ∷ ws ≡ step_line t → IsTableStep t
    by (step.Given i) fits same = fits
    by (step.Combine a m b n g) fits same = fits
    by (step.Fail a) fits same = let other : codes "combine" ≡ codes "fail" = cc in absurd (other-word (codes "combine") (codes "fail") refl other)
    by (step.Cover field parts) fits same = let other : codes "combine" ≡ codes "cover" = cc in absurd (other-word (codes "combine") (codes "cover") refl other)
    by (step.Fix field part) fits same = let other : codes "combine" ≡ codes "fix" = cc in absurd (other-word (codes "combine") (codes "fix") refl other)

pub table-step-found : (l : Line) (s : Step) → table_step_in l ≡ Some s → IsTableStep s × (l ≡ step_line s)
table-step-found [] s e = absurd (cc (e))
table-step-found (w ∷ ws) s e = first-found IsTableStep step_line ((codes "given", given_in) ∷ (codes "combine", combine_in) ∷ [])
    (table-given-found, (table-combine-found, tt)) w ws s e

pub table-step-again : (s : Step) → IsTableStep s → table_step_in (step_line s) ≡ Some s
table-step-again (step.Given i) fits = step-again (step.Given i) fits
table-step-again (step.Combine a m b n g) fits = step-again (step.Combine a m b n g) fits
table-step-again (step.Fail a) fits = absurd fits
table-step-again (step.Cover field parts) fits = absurd fits
table-step-again (step.Fix field part) fits = absurd fits

abbrev pub table_step_form : LineForm IsTableStep step_line
table_step_form = record { read = table_step_in; sample = step.Given 0; sound_sample = omega arith; again = table-step-again; found = table-step-found }

-- ---- steps of leaves

-- where no table is, given lines are named as in the rules
pub same-line : (s : Step) → step_line_in None s ≡ step_line s
same-line (step.Given i) = refl
same-line (step.Combine a m b n g) = refl
same-line (step.Fail a) = refl
same-line (step.Cover field parts) = refl
same-line (step.Fix field part) = refl

module _ (count : ℕ) where
  -- only given lines are named in another way
  other-line : (word : List ℕ) (ws : Line) (s : Step) → bytes_eq word (codes "given") ≡ false → word ∷ ws ≡ step_line s → step_line s
      ≡ step_line_in (Some count) s
  other-line word ws (step.Given i) differs same = let is : word ≡ codes "given" = cc in absurd (other-word word (codes "given") differs is)
  other-line word ws (step.Combine a m b n g) differs same = refl
  other-line word ws (step.Fail a) differs same = refl
  other-line word ws (step.Cover field parts) differs same = refl
  other-line word ws (step.Fix field part) differs same = refl

  others : (word : List ℕ) → bytes_eq word (codes "given") ≡ false → (read : Line → Option Step) → ((ws : Line) (s : Step) → read ws ≡ Some s → Found s word ws)
      → (ws : Line) (s : Step) → read ws ≡ Some s → IsStep s × (word ∷ ws ≡ step_line_in (Some count) s)
  others word differs read found ws s e = let (fits, same) = found ws s e in (fits, same ∙ other-line word ws s differs same)

  few-found : (ws : Line) (s : Step) → few_given_in count ws ≡ Some s → IsStep s × (codes "given" ∷ ws ≡ step_line_in (Some count) s)
  few-found ws s e = let (i, w1, fits, e1, h1) = next-found IsLong named named_long_form ws _ s e in by i w1 fits e1 (nat_lt i count) refl h1
    where
      by : (i : ℕ) (w1 : Line) → IsLong i → ws ≡ named i ∷ w1 → (b : Bool) → nat_lt i count ≡ b → ended_if b (step.Given i) w1 ≡ Some s → IsStep s
          × (codes "given" ∷ ws ≡ step_line_in (Some count) s)
      by i w1 fits e1 false is h = absurd (cc (h))
      by i w1 fits e1 true is h =
          let (own, none) = end-found (step.Given i) s w1 h in (
            subst IsStep own fits,
            ap (λ (v : Line). codes "given" ∷ v) (e1 ∙ ap (λ (v : Line). named i ∷ v) none)
                ∙ ap (λ b. if b then codes "given" ∷ named i ∷ [] else codes "shared" ∷ named (i - count) ∷ []) (sym is) ∙ ap (step_line_in (Some count)) own,
          )

  shared-found : (ws : Line) (s : Step) → shared_in count ws ≡ Some s → IsStep s × (codes "shared" ∷ ws ≡ step_line_in (Some count) s)
  shared-found ws s e = let (k, w1, fits, e1, h1) = next-found IsLong named named_long_form ws _ s e in by k w1 fits e1 (nat_lt (count + k) (2 ^ 64)) refl h1
    where
      by : (k : ℕ) (w1 : Line) → IsLong k → ws ≡ named k ∷ w1 → (b : Bool) → nat_lt (count + k) (2 ^ 64) ≡ b → ended_if b (step.Given (count + k)) w1 ≡ Some s
          → IsStep s × (codes "shared" ∷ ws ≡ step_line_in (Some count) s)
      by k w1 fits e1 false is h = absurd (cc (h))
      by k w1 fits e1 true is h =
          let (own, none) = end-found (step.Given (count + k)) s w1 h in
          let long : count + k < 2 ^ 64 = (Decides-ltb (count + k) (2 ^ 64)).0 is in
          let past : nat_lt (count + k) count ≡ false = not-below (count + k) count (omega arith) in
          let number : count + k - count ≡ k = omega arith in (
            subst IsStep own long,
            ap (λ (v : Line). codes "shared" ∷ v) (e1 ∙ ap (λ (v : Line). named k ∷ v) none)
                ∙ ap (λ (n : ℕ). codes "shared" ∷ named n ∷ []) (sym number)
                ∙ ap (λ b. if b then codes "given" ∷ named (count + k) ∷ [] else codes "shared" ∷ named (count + k - count) ∷ []) (sym past)
                ∙ ap (step_line_in (Some count)) own,
          )

  pub shared-step-found : (l : Line) (s : Step) → shared_step_in count l ≡ Some s → IsStep s × (l ≡ step_line_in (Some count) s)
  shared-step-found [] s e = absurd (cc (e))
  shared-step-found (w ∷ ws) s e =
      first-found IsStep (step_line_in (Some count))
      ((codes "given", few_given_in count) ∷ (codes "shared", shared_in count) ∷ (codes "combine", combine_in) ∷ (codes "fail", fail_in)
      ∷ (codes "cover", cover_in) ∷ (codes "fix", fix_in) ∷ []) (
        few-found,
        (
          shared-found,
          (
            others (codes "combine") refl combine_in combine-found,
            (
              others (codes "fail") refl fail_in fail-found,
              (others (codes "cover") refl cover_in cover-found, (others (codes "fix") refl fix_in fix-found, tt)),
            ),
          ),
        ),
      ) w ws s e

  pub shared-step-again : (s : Step) → IsStep s → shared_step_in count (step_line_in (Some count) s) ≡ Some s
  shared-step-again (step.Given i) fits = by (nat_lt i count) refl
    where
      by : (b : Bool) → nat_lt i count ≡ b → shared_step_in count (if b then codes "given" ∷ named i ∷ [] else codes "shared" ∷ named (i - count) ∷ [])
          ≡ Some (step.Given i)
      by true is = next-again IsLong named named_long_form i [] _ fits ∙ ap (λ b. ended_if b (step.Given i) []) is
      by false is =
          let past : count ≤ i = at-least i count is in
          let long : IsLong (i - count) = omega (arith, fits) in
          let whole : count + (i - count) ≡ i = omega arith in
          let below : nat_lt (count + (i - count)) (2 ^ 64) ≡ true = (Decides-ltb (count + (i - count)) (2 ^ 64)).1 (omega (arith, fits)) in
          next-again IsLong named named_long_form (i - count) [] _ long ∙ ap (λ b. ended_if b (step.Given (count + (i - count))) []) below
          ∙ ap (λ (n : ℕ). Some (step.Given n)) whole
  shared-step-again (step.Combine a m b n g) fits = step-again (step.Combine a m b n g) fits
  shared-step-again (step.Fail a) fits = step-again (step.Fail a) fits
  shared-step-again (step.Cover field parts) fits = step-again (step.Cover field parts) fits
  shared-step-again (step.Fix field part) fits = step-again (step.Fix field part) fits

abbrev pub leaf_step_form : (shared : Option ℕ) → LineForm IsStep (step_line_in shared)
leaf_step_form None = record {
  read = step_in;
  sample = step.Given 0;
  sound_sample = omega arith;
  again = λ s fits. ap step_in (same-line s) ∙ step-again s fits;
  found = λ l s e. let (fits, same) = step-found l s e in (fits, same ∙ sym (same-line s));
}
leaf_step_form (Some count) = record {
  read = shared_step_in count;
  sample = step.Given 0;
  sound_sample = omega arith;
  again = shared-step-again count;
  found =
      shared-step-found count;
}
