use Rattle.std.proofs.Common.{◌≡◌, ◌⊎◌, inl, inr, ℕ, if◌then◌else◌, List, [], ◌∷◌, Option, Some, None, codes, option_map, refl, sym, ap, ◌∙◌, subst, arith}
use Rattle.std.specs.Fmt.{decimal}
use Rattle.std.specs.Str.{bytes_eq}
use Rattle.std.proofs.lemmas.Fmt.{decimal_digit}
use Rattle.donor_book.specs.declared.claim.Entry.{Entry}
use Rattle.bound_cert.specs.Paths.{named}
use Rattle.proof_grammar.specs.declared.heads.RunLimits.{RunLimits}
use Rattle.proof_grammar.specs.inner.FileReading.{claim_behind, claim_in, count_in, drop_in, end_in, entry_of, keep_in, limits_in, verdict_in, version_in}
use Rattle.proof_grammar.specs.inner.FileReading.{version_said}
use Rattle.proof_grammar.proofs.HeadLines.{AreLimits, IsVerdictHead, limits_line, verdict_head}
use Rattle.proof_grammar.specs.Limits.{IsEntry, IsLong, IsShort}
use Rattle.proof_grammar.specs.ProofLines.{Line, claim_line, end_line, named_or_0, version_line}
use Rattle.proof_grammar.specs.Words.{named_short}
use Rattle.proof_grammar.specs.inner.WordLists.{all_in}
use Rattle.proof_grammar.proofs.MoreWordForms.{Always, IsOption, fixed_form, option_form}
use Rattle.proof_grammar.proofs.Productions.{LineForm}
use Rattle.proof_grammar.proofs.StepForms.{chosen, first-found}
use Rattle.proof_grammar.proofs.WordForms.{all-again, all-found, end-found, long_form, named_short_form, next-again, next-found, short_form}

-- The forms of the lines of verdicts and claims, and of those that stand once in a file.

-- ---- verdicts

abbrev Found : Option ℕ → List ℕ → Line → Type 0
Found head word ws = IsVerdictHead head × (word ∷ ws ≡ verdict_head head)

keep-found : (ws : Line) (head : Option ℕ) → keep_in ws ≡ Some head → Found head (codes "keep") ws
keep-found ws head e = let (own, none) = end-found None head ws e in (
  subst IsVerdictHead own tt,
  ap (λ (v : Line). codes "keep" ∷ v) none
      ∙ ap verdict_head own,
)

drop-found : (ws : Line) (head : Option ℕ) → drop_in ws ≡ Some head → Found head (codes "drop") ws
drop-found ws head e =
    let (n, w1, n_fits, e1, h1) = next-found IsLong decimal long_form ws _ head e in
    let (own, none) = end-found (Some n) head w1 h1 in
    (subst IsVerdictHead own n_fits, ap (λ (v : Line). codes "drop" ∷ v) (e1 ∙ ap (λ (v : Line). decimal n ∷ v) none) ∙ ap verdict_head own)

pub verdict-found : (l : Line) (head : Option ℕ) → verdict_in l ≡ Some head → IsVerdictHead head × (l ≡ verdict_head head)
verdict-found [] head e = absurd (cc (e))
verdict-found (w ∷ ws) head e = first-found IsVerdictHead verdict_head ((codes "keep", keep_in) ∷ (codes "drop", drop_in) ∷ []) (keep-found, (drop-found, tt)) w
    ws head e

pub verdict-again : (head : Option ℕ) → IsVerdictHead head → verdict_in (verdict_head head) ≡ Some head
verdict-again None fits = refl
verdict-again (Some n) fits = next-again IsLong decimal long_form n [] _ fits

abbrev pub verdict_form : LineForm IsVerdictHead verdict_head
verdict_form = record { read = verdict_in; sample = None; sound_sample = tt; again = verdict-again; found = verdict-found }

-- ---- claims

behind-found : (ws : Line) (entry : Entry) → claim_behind ws ≡ Some entry → IsEntry entry × (codes "claim" ∷ ws ≡ claim_line entry)
behind-found ws entry e =
    let (row, w1, r_fits, e1, h1) = next-found IsShort named named_short_form ws _ entry e in
    let (reply, w2, o_fits, e2, h2) = next-found IsOption named_or_0 option_form w1 _ entry h1 in
    by row reply w1 w2 r_fits o_fits e1 e2 (all_in named_short w2) refl h2
  where
    by : (row : ℕ) (reply : Option ℕ) (w1 w2 : Line) → IsShort row → IsOption reply → ws ≡ named row ∷ w1 → w1 ≡ named_or_0 reply ∷ w2 → (r : Option (List ℕ))
        → all_in named_short w2 ≡ r → option_map (entry_of row reply) r ≡ Some entry
        → IsEntry entry × (codes "claim" ∷ ws ≡ claim_line entry)
    by row reply w1 w2 r_fits o_fits e1 e2 None is h = absurd (cc (h))
    by row reply w1 w2 r_fits o_fits e1 e2 (Some ranking) is h =
        let own : record { row_no = row; ranking = ranking; reply = reply } ≡ entry = cc (h) in
        let (all, words) = all-found IsShort named named_short_form w2 ranking is in (
          subst IsEntry own (r_fits, o_fits, all),
          ap (λ (v : Line). codes "claim" ∷ v) (e1
              ∙ ap (λ (v : Line). named row ∷ v) (e2 ∙ ap (λ (v : Line). named_or_0 reply ∷ v) words)) ∙ ap claim_line own,
        )

pub claim-found : (l : Line) (entry : Entry) → claim_in l ≡ Some entry → IsEntry entry × (l ≡ claim_line entry)
claim-found l entry e =
    let (u, ws, fits, is, h) = next-found Always (λ (u : Unit {0}). codes "claim") (fixed_form (codes "claim")) l _ entry e in
    let (good, same) = behind-found ws entry h in (good, is ∙ same)

pub claim-again : (entry : Entry) → IsEntry entry → claim_in (claim_line entry) ≡ Some entry
claim-again entry fits =
    next-again IsShort named named_short_form entry.row_no _ _ fits.0 ∙ next-again IsOption named_or_0 option_form entry.reply _ _ fits.1
    ∙ ap (option_map (entry_of entry.row_no entry.reply)) (all-again IsShort named named_short_form entry.ranking fits.2)

abbrev pub claim_form : LineForm IsEntry claim_line
claim_form = record {
  read = claim_in;
  sample = record { row_no = 0; ranking = []; reply = None };
  sound_sample = (omega arith, tt, tt);
  again =
      claim-again;
  found = claim-found;
}

-- ---- a count behind a word

pub count-found : (word : List ℕ) (l : Line) (n : ℕ) → count_in word l ≡ Some n → IsLong n × (l ≡ word ∷ decimal n ∷ [])
count-found word l n e =
    let (u, w1, u_fits, e1, h1) = next-found Always (λ (u : Unit {0}). word) (fixed_form word) l _ n e in
    let (m, w2, m_fits, e2, h2) = next-found IsLong decimal long_form w1 _ n h1 in
    let (own, none) = end-found m n w2 h2 in (
      subst IsLong own m_fits,
      e1 ∙ ap (λ (v : Line). word ∷ v) (e2 ∙ ap (λ (v : Line). decimal m ∷ v) none)
          ∙ ap (λ (k : ℕ). word ∷ decimal k ∷ []) own,
    )

pub count-again : (word : List ℕ) (n : ℕ) → IsLong n → count_in word (word ∷ decimal n ∷ []) ≡ Some n
count-again word n fits = next-again Always (λ (u : Unit {0}). word) (fixed_form word) tt _ _ tt ∙ next-again IsLong decimal long_form n [] _ fits

abbrev pub count_form : (word : List ℕ) → LineForm IsLong (λ n. word ∷ decimal n ∷ [])
count_form word = record { read = count_in word; sample = 0; sound_sample = omega arith; again = count-again word; found = count-found word }

-- ---- the limits of a run

pub limits-found : (l : Line) (limits : RunLimits) → limits_in l ≡ Some limits → AreLimits limits × (l ≡ limits_line limits)
limits-found l limits e =
    let (u, w1, u_fits, e1, h1) = next-found Always (λ (u : Unit {0}). codes "limit") (fixed_form (codes "limit")) l _ limits e in
    let (limit, w2, l_fits, e2, h2) = next-found IsShort decimal short_form w1 _ limits h1 in
    let (v, w3, v_fits, e3, h3) = next-found Always (λ (u : Unit {0}). codes "near") (fixed_form (codes "near")) w2 _ limits h2 in
    let (near, w4, n_fits, e4, h4) = next-found IsShort decimal short_form w3 _ limits h3 in
    let (x, w5, x_fits, e5, h5) = next-found Always (λ (u : Unit {0}). codes "budget") (fixed_form (codes "budget")) w4 _ limits h4 in
    let (budget, w6, b_fits, e6, h6) = next-found IsLong decimal long_form w5 _ limits h5 in
    let (own, none) = end-found (record { limit = limit; near = near; budget = budget }) limits w6 h6 in
    let last : w3 ≡ decimal near ∷ codes "budget" ∷ decimal budget ∷ [] = e4 ∙ ap (λ (v : Line). decimal near ∷ v)
    (e5 ∙ ap (λ (v : Line). codes "budget" ∷ v) (e6 ∙ ap (λ (v : Line). decimal budget ∷ v) none)) in
    let words : l ≡ codes "limit" ∷ decimal limit ∷ codes "near" ∷ decimal near ∷ codes "budget" ∷ decimal budget ∷ [] =
    e1 ∙ ap (λ (v : Line). codes "limit" ∷ v) (e2 ∙ ap (λ (v : Line). decimal limit ∷ v) (e3 ∙ ap (λ (v : Line). codes "near" ∷ v) last)) in
    (subst AreLimits own (l_fits, n_fits, b_fits), words ∙ ap limits_line own)

pub limits-again : (limits : RunLimits) → AreLimits limits → limits_in (limits_line limits) ≡ Some limits
limits-again limits fits = next-again IsShort decimal short_form limits.limit _ _ fits.0 ∙ next-again IsShort decimal short_form limits.near _ _ fits.1
    ∙ next-again IsLong decimal long_form limits.budget [] _ fits.2

abbrev pub limits_form : LineForm AreLimits limits_line
limits_form = record {
  read = limits_in;
  sample = record { limit = 0; near = 0; budget = 0 };
  sound_sample = (omega arith, omega arith, omega arith);
  again =
      limits-again;
  found = limits-found;
}

-- ---- the first line and the last

-- one of the versions
abbrev pub IsVersion : ℕ → Type 0
IsVersion version = (version ≡ 1) ⊎ (version ≡ 2)

one-word : codes "1" ≡ decimal 1
one-word = sym (decimal_digit 1 (omega arith))

two-word : codes "2" ≡ decimal 2
two-word = sym (decimal_digit 2 (omega arith))

number-again : (version : ℕ) → IsVersion version → version_said (decimal version) ≡ Some version
number-again version (inl one) = ap (λ n. version_said (decimal n)) one ∙ ap version_said (sym one-word) ∙ ap (λ n. Some n) (sym one)
number-again version (inr two) = ap (λ n. version_said (decimal n)) two ∙ ap version_said (sym two-word) ∙ ap (λ n. Some n) (sym two)

number-found : (w : List ℕ) (version : ℕ) → version_said w ≡ Some version → IsVersion version × (w ≡ decimal version)
number-found w version e = elim (chosen w (codes "1") (Some 1) (if bytes_eq w (codes "2") then Some 2 else None) version e) [
  | inl (is, h) ↦ let own : 1 ≡ version = cc (h) in (inl (sym own), is ∙ one-word ∙ ap decimal own)
  | inr later ↦ elim (chosen w (codes "2") (Some 2) None version later) [
    | inl (is, h) ↦ let own : 2 ≡ version = cc (h) in (inr (sym own), is ∙ two-word ∙ ap decimal own)
    | inr none ↦ absurd (cc (none))
  ]
]

abbrev version_number : LineForm {L = List ℕ} IsVersion decimal
version_number = record { read = version_said; sample = 1; sound_sample = inl refl; again = number-again; found = number-found }

pub version-found : (l : Line) (version : ℕ) → version_in l ≡ Some version → IsVersion version × (l ≡ version_line version)
version-found l version e =
    let (v, w1, v_fits, e1, h1) = next-found Always (λ (u : Unit {0}). codes "fh-proof") (fixed_form (codes "fh-proof")) l _ version e in
    let (x, w2, x_fits, e2, h2) = next-found IsVersion decimal version_number w1 _ version h1 in
    let (own, none) = end-found x version w2 h2 in
    (subst IsVersion own x_fits, e1 ∙ ap (λ (v : Line). codes "fh-proof" ∷ v) (e2 ∙ ap (λ (v : Line). decimal x ∷ v) none) ∙ ap version_line own)

pub version-again : (version : ℕ) → IsVersion version → version_in (version_line version) ≡ Some version
version-again version fits = next-again IsVersion decimal version_number version [] _ fits

abbrev pub version_form : LineForm IsVersion version_line
version_form = record { read = version_in; sample = 1; sound_sample = inl refl; again = version-again; found = version-found }

pub ending-found : (l : Line) (u : Unit {0}) → end_in l ≡ Some u → Always u × (l ≡ end_line)
ending-found l u e =
    let (v, w1, v_fits, e1, h1) = next-found Always (λ (u : Unit {0}). codes "end") (fixed_form (codes "end")) l _ u e in
    let (own, none) = end-found tt u w1 h1 in (tt, e1 ∙ ap (λ (v : Line). codes "end" ∷ v) none)

pub ending-again : (u : Unit {0}) → Always u → end_in end_line ≡ Some u
ending-again u fits = refl

abbrev pub end_form : LineForm Always (λ u. end_line)
end_form = record { read = end_in; sample = tt; sound_sample = tt; again = ending-again; found = ending-found }
