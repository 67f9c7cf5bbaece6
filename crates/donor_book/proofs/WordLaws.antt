-- The words of a history.
use Rattle.std.proofs.Common.{◌≡◌, ◌≢◌, ℕ, zero, suc, ◌+◌, ◌-◌, ◌<◌, true, false, List, [], ◌∷◌, ◌++◌, map, length, set, replicate, Some, refl, sym, ap, ◌∙◌}
use Rattle.std.proofs.Common.{⊎_elim, eqb, arith, append_assoc, length-append}
use Rattle.std.specs.Prelude.{slice_get, slice_index}
use Rattle.std.proofs.lemmas.List.{map-append, length-map}
use Rattle.std.proofs.Math.Seq.{set-append_seam, get_or-append_seam}
use Rattle.std.proofs.lemmas.Bool.Decides.{eqb_tells}
use lib.ListN.{get_or}
use Rattle.donor_book.specs.declared.claim.Won.{Won}
use Rattle.donor_book.specs.declared.rule.Terms.{Terms}
use Rattle.donor_book.specs.inner.Rule.{word_of, words_of}

-- what is found at a place is one claim
pub some_same : (y x : Won) → Some y ≡ Some x → y ≡ x
some_same y x is = cc

-- the words of a history
pub words_front : (history : List Won) (rest : List ℕ) (k : ℕ) (x : Won) → slice_get history k ≡ Some x → get_or (map word_of history ++ rest) k 0 ≡ word_of x
words_front [] rest k x is = absurd (cc)
words_front (y ∷ history) rest zero x is = ap word_of (some_same y x is)
words_front (y ∷ history) rest (suc k) x is = words_front history rest k x is

pub some_at : (history : List Won) (k : ℕ) → k < length history → (x : Won) × (slice_get history k ≡ Some x)
some_at [] k lt = absurd (omega arith)
some_at (x ∷ history) zero lt = (x, refl)
some_at (x ∷ history) (suc k) lt = some_at history k (omega (arith, lt))

abbrev pub zeros : ℕ → List ℕ
zeros n = replicate n 0

zeros_more : (n k : ℕ) → k < n → zeros (n - k) ≡ 0 ∷ zeros (n - suc k)
zeros_more n k lt = let e : n - k ≡ suc (n - suc k) = omega (arith, lt) in ap zeros e

-- the first word behind the history is 0
pub words_behind : (terms : Terms) (history : List Won) → length history < terms.rows + 1 → slice_index (words_of terms history) (length history) ≡ 0
words_behind terms history lt =
    ap (λ ws. get_or (map word_of history ++ ws) (length history) 0) (zeros_more (terms.rows + 1) (length history) lt)
    ∙ ap (λ k. get_or (map word_of history ++ 0 ∷ zeros (terms.rows + 1 - suc (length history))) k 0) (sym (length-map history word_of))
    ∙ get_or-append_seam (map word_of history) 0 (zeros (terms.rows + 1 - suc (length history))) 0

-- a claim written there is one more of the history
pub words_push : (terms : Terms) (history : List Won) (w : Won) → length history < terms.rows + 1 → set (words_of terms history) (length history) (word_of w)
    ≡ words_of terms (history ++ w ∷ [])
words_push terms history w lt =
    let rest : List ℕ = zeros (terms.rows + 1 - suc (length history)) in
    let len : length (history ++ w ∷ []) ≡ suc (length history) = length-append history (w ∷ []) ∙ omega arith in
    ap (λ ws. set (map word_of history ++ ws) (length history) (word_of w)) (zeros_more (terms.rows + 1) (length history) lt)
    ∙ ap (λ k. set (map word_of history ++ 0 ∷ rest) k (word_of w)) (sym (length-map history word_of))
    ∙ set-append_seam (map word_of history) 0 rest (word_of w)
    ∙ sym (append_assoc (map word_of history) (word_of w ∷ []) rest)
    ∙ ap (λ ws. ws ++ rest) (sym (map-append word_of history (w ∷ [])))
    ∙ ap (λ n. map word_of (history ++ w ∷ []) ++ zeros (terms.rows + 1 - n)) (sym len)

-- a word that is read and written again
pub set_same : (ws : List ℕ) (k : ℕ) → set ws k (get_or ws k 0) ≡ ws
set_same [] k = refl
set_same (w ∷ ws) zero = refl
set_same (w ∷ ws) (suc k) = ap (λ l. w ∷ l) (set_same ws k)

pub word_is_not_0 : (w : Won) → eqb (word_of w) 0 ≡ false
word_is_not_0 w = ⊎_elim (λ (t : (eqb (word_of w) 0 ≡ true) × (word_of w ≡ 0)). absurd (omega (arith, t.1)))
    (λ (f : (eqb (word_of w) 0 ≡ false) × (word_of w ≢ 0)). f.0) (eqb_tells (word_of w) 0)
