-- The words of a row of claims are read as its history.
use Rattle.std.proofs.Common.{◌≡◌, ◌≢◌, ◌⊎◌, ℕ, zero, suc, ◌+◌, ◌-◌, ◌<◌, ◌≤◌, true, false, true≢false, List, [], ◌∷◌, ◌++◌, map, length, take, Some, None}
use Rattle.std.proofs.Common.{Option, refl, sym, ap, ◌∙◌, subst, ⊎_elim, eqb, arith, inl, inr}
use Rattle.std.specs.Prelude.{slice_get, MatchBool}
use Rattle.std.proofs.lemmas.List.{length-map, take_all, take_more}
use Rattle.std.proofs.Math.Seq.{get_or-append_right}
use Rattle.std.proofs.lemmas.Option.{slice_get_within, get_or_from_slice_get}
use Rattle.std.proofs.lemmas.Bool.{eq-eqb}
use Rattle.std.proofs.lemmas.Bool.Decides.{eqb_tells}
use mathlib.Core.Option.{some, some-injective, some-ne-none}
use lib.ListN.{get_elem?, get_or}
use Rattle.donor_book.specs.declared.claim.Won.{Won}
use Rattle.donor_book.specs.declared.rule.Terms.{Terms}
use Rattle.donor_book.specs.Claims.{IsDonor, IsWithin}
use Rattle.donor_book.specs.inner.Rule.{word_of, words_of}
use Rattle.donor_book.specs.inner.Tries.{AreWordsOf, IsRead}
use Rattle.donor_book.proofs.PassLaws.{most_rows}
use Rattle.donor_book.proofs.WordLaws.{some_at, word_is_not_0, words_front, zeros}

-- the word at a place
get_from_elem : (ws : List ℕ) (i w : ℕ) → get_elem? ws i ≡ some w → get_or ws i 0 ≡ w
get_from_elem [] i w at = absurd (some-ne-none w (sym at))
get_from_elem (x ∷ ws) zero w at = some-injective x w at
get_from_elem (x ∷ ws) (suc i) w at = get_from_elem ws i w at

-- behind the history there is 0
zeros_only : (n i : ℕ) → get_or (zeros n) i 0 ≡ 0
zeros_only zero i = refl
zeros_only (suc n) zero = refl
zeros_only (suc n) (suc i) = zeros_only n i

-- a word that is not 0 is a claim of the history, and the first word that is 0 ends it
pub claim_at : (terms : Terms) (words : List ℕ) (h : List Won) (i word : ℕ) → AreWordsOf terms words h → get_elem? words i ≡ some word → (length h ≤ i)
    × (word ≡ 0) ⊎ ((x : Won) × (slice_get h i ≡ Some x) × (word_of x ≡ word) × IsWithin terms.donors terms.rows x)
claim_at terms words h i word row at = ⊎_elim past within (le_or_lt (length h) i)
  where
    le_or_lt : (a b : ℕ) → (a ≤ b) ⊎ (b < a)
    le_or_lt a b = grind arith

    here : get_or (words_of terms h) i 0 ≡ word
    here = ap (λ ws. get_or ws i 0) (sym row.words_are) ∙ get_from_elem words i word at

    past : length h ≤ i → (length h ≤ i) × (word ≡ 0) ⊎ ((x : Won) × (slice_get h i ≡ Some x) × (word_of x ≡ word) × IsWithin terms.donors terms.rows x)
    past le = inl (
      le,
      sym here ∙ get_or-append_right (map word_of h) (zeros (terms.rows + 1 - length h)) i 0 (let l = length-map h word_of in
          omega (arith, l, le)) ∙ zeros_only (terms.rows + 1 - length h) (i - length (map word_of h)),
    )

    within : i < length h → (length h ≤ i) × (word ≡ 0) ⊎ ((x : Won) × (slice_get h i ≡ Some x) × (word_of x ≡ word) × IsWithin terms.donors terms.rows x)
    within lt =
        let there = some_at h i lt in
        inr (
          there.0,
          there.1,
          sym (words_front h (zeros (terms.rows + 1 - length h)) i there.0 there.1)
              ∙ here,
          subst (IsWithin terms.donors terms.rows) (get_or_from_slice_get h i there.0 there.0 there.1)
              (row.sound.within i there.0 (slice_get_within h i there.0 there.1)),
        )

-- a word that is not 0 is told from it
not_0 : (word : ℕ) → word ≢ 0 → eqb word 0 ≡ false
not_0 word ne = ⊎_elim (λ (t : (eqb word 0 ≡ true) × (word ≡ 0)). absurd (ne t.1)) (λ (f : (eqb word 0 ≡ false) × (word ≢ 0)). f.0) (eqb_tells word 0)

-- the claim of a word that is not 0
claim_there : (terms : Terms) (words : List ℕ) (h : List Won) (i word : ℕ) → AreWordsOf terms words h → get_elem? words i ≡ some word → word ≢ 0 → (x : Won)
    × (slice_get h i ≡ Some x) × (word_of x ≡ word) × IsWithin terms.donors terms.rows x
claim_there terms words h i word row at ne = ⊎_elim (λ (p : (length h ≤ i) × (word ≡ 0)). absurd (ne p.1))
    (λ (q : (x : Won) × (slice_get h i ≡ Some x) × (word_of x ≡ word) × IsWithin terms.donors terms.rows x). q) (claim_at terms words h i word row at)

-- a donor fits into a word
small_donor : (donors : ℕ) (reply : Option ℕ) → donors + 1 < 4294967296 → IsDonor donors reply → IsDonor 4294967295 reply
small_donor donors None small d = tt
small_donor donors (Some d) small lt = omega (arith, lt, small)

-- so it can be read
pub readable : (terms : Terms) (words : List ℕ) (h : List Won) (i word : ℕ) → AreWordsOf terms words h → get_elem? words i ≡ some word
    → terms.rows + 1 < 4294967296 → terms.donors + 1 < 4294967296 → word ≢ 0
    → MatchBool (eqb word 0) (Unit {0}) ((x : Won) × (word_of x ≡ word) × (x.row_no + 1 < 4294967296) × IsDonor 4294967295 x.reply)
readable terms words h i word row at rows donors ne =
    let q = claim_there terms words h i word row at ne in
    rw (not_0 word ne) (q.0, q.2, (let lt = q.3.0 in omega (arith, lt, rows)), small_donor terms.donors q.0.reply donors q.3.1)

-- one more claim is read
pub reads_on : (terms : Terms) (words : List ℕ) (h : List Won) (i word : ℕ) (items : List Won) (w x : Won) → AreWordsOf terms words h → get_elem? words i
    ≡ some word → terms.donors + 1 < 4294967296 → word ≢ 0
    → IsRead w word x → items ≡ take i h → (items ++ x ∷ [] ≡ take (i + 1) h) × (i + 1 ≤ length h)
reads_on terms words h i word items w x row at donors ne read so_far =
    let q = claim_there terms words h i word row at ne in
    let y = q.0 in
    let lt = slice_get_within h i y q.1 in
    let same : x ≡ y = subst (λ b. MatchBool b (x ≡ w) ((z : Won) → word_of z ≡ word → IsDonor 4294967295 z.reply → x ≡ z)) (not_0 word ne) read y q.2
    (small_donor terms.donors y.reply donors q.3.1) in
    ((λ j. so_far j ++ same j ∷ []) ∙ ap (λ z. take i h ++ z ∷ []) (sym (get_or_from_slice_get h i y y q.1)) ∙ sym (take_more h i y lt), omega (arith, lt))

-- at a word that is 0 all are read
pub reads_all : (terms : Terms) (words : List ℕ) (h : List Won) (i word : ℕ) (items : List Won) → AreWordsOf terms words h → get_elem? words i ≡ some word
    → word ≡ 0 → items ≡ take i h → items ≡ h
reads_all terms words h i word items row at zero_is so_far =
    ⊎_elim (λ (p : (length h ≤ i) × (word ≡ 0)). so_far ∙ take_all i h p.0)
    (λ (q : (x : Won) × (slice_get h i ≡ Some x) × (word_of x ≡ word) × IsWithin terms.donors terms.rows x). absurd
    (true≢false (sym (eq-eqb (word_of q.0) 0 (q.2 ∙ zero_is)) ∙ word_is_not_0 q.0)))
    (claim_at terms words h i word row at)

-- and behind as many words as there are rows
pub reads_rows : (terms : Terms) (words : List ℕ) (h : List Won) (i : ℕ) (items : List Won) → AreWordsOf terms words h → terms.rows ≤ i → items ≡ take i h
    → items ≡ h
reads_rows terms words h i items row le so_far = so_far ∙ take_all i h (let m = most_rows terms h row.sound in omega (arith, m, le))
