use Rattle.std.proofs.Common.{◌≡◌, ◌≢◌, ℕ, zero, suc, ◌+◌, ◌<◌, ◌==◌, ◌⊎◌, inl, inr, not, Bool, true, false, if◌then◌else◌, List, [], ◌∷◌, ◌++◌, Ok, Err}
use Rattle.std.proofs.Common.{length, map, refl, sym, ap, ◌∙◌, subst, append_assoc, arith}
use Rattle.std.specs.List.{AllByRecursion}
use Rattle.std.proofs.lemmas.List.{length-append, length-map}
use Rattle.edit_line.proofs.BoolLaws.{both_true}
use Rattle.proof_grammar.specs.FirstFaults.{GoesOn, IsFirstFaultyLine, IsInGrammar, feed_count}
use Rattle.proof_grammar.specs.Limits.{IsPlain}
use Rattle.proof_grammar.specs.ProofLines.{Line, line_text, lines_text, proof_lines, words_text}
use Rattle.proof_grammar.specs.Cuts.{lines_in, lines_of_parts, push, split}
use Rattle.proof_grammar.proofs.Cutting.{IsWordLine, join, join-split, join-words, lines-cut, no-feed, not_true, some-part, without}
use Rattle.proof_grammar.proofs.Productions.{IsFirstStop}
use Rattle.proof_grammar.proofs.ProofGrammar.{plain_proof, proof-stops}
use Rattle.proof_grammar.proofs.ProofWords.{AreWordLines, proof-words, proof_of_bytes, text-again}

-- The first line that can't go on.

-- ---- parts of lists

-- two ways to part a list
parted : {X : Type 0} (xs ys front left : List X) → xs ++ ys ≡ front ++ left → length xs ≡ suc (length front) → (l : X) × (xs ≡ front ++ l ∷ [])
    × (left ≡ l ∷ ys)
parted [] ys front left same count = absurd (omega (arith, count))
parted (x ∷ []) ys [] left same count = (x, refl, sym same)
parted (x ∷ z ∷ xs) ys [] left same count = absurd (omega (arith, count))
parted (x ∷ xs) ys (f ∷ front) left same count =
    let first : x ≡ f = cc in
    let later : xs ++ ys ≡ front ++ left = cc in
    let fewer : length xs ≡ suc (length front) = omega (arith, count) in
    let (l, own, rest) = parted xs ys front left later fewer in (l, ap (λ zs. x ∷ zs) own ∙ ap (λ z. z ∷ (front ++ l ∷ [])) first, rest)

-- an element of the front, and what is before and behind it
placed : {X : Type 0} (k : ℕ) (xs : List X) → k < length xs → (before : List X) × (x : X) × (behind : List X) × (xs ≡ before ++ x ∷ behind)
    × (length before ≡ k)
placed k [] below = absurd (omega arith)
placed zero (x ∷ xs) below = ([], x, xs, refl, refl)
placed (suc k) (x ∷ xs) below =
    let (before, y, behind, same, count) = placed k xs (omega (arith, below)) in (x ∷ before, y, behind, ap (λ zs. x ∷ zs) same, ap suc count)

all-placed : {X : Type 0} (P : X → Type 0) (xs : List X) (x : X) (ys : List X) → AllByRecursion P (xs ++ x ∷ ys) → P x
all-placed P [] x ys all = all.0
all-placed P (z ∷ xs) x ys all = all-placed P xs x ys all.1

all-front : {X : Type 0} (P : X → Type 0) (xs ys : List X) → AllByRecursion P (xs ++ ys) → AllByRecursion P xs
all-front P [] ys all = tt
all-front P (x ∷ xs) ys all = (all.0, all-front P xs ys all.1)

-- ---- line feeds

-- the text of two lists of lines
pub lines-append : (ls ks : List Line) → lines_text (ls ++ ks) ≡ lines_text ls ++ lines_text ks
lines-append [] ks = refl
lines-append (l ∷ ls) ks = ap (λ (bs : List ℕ). line_text l ++ bs) (lines-append ls ks) ∙ sym (append_assoc (line_text l) (lines_text ls) (lines_text ks))

feeds-append : (s t : List ℕ) → feed_count (s ++ t) ≡ feed_count s + feed_count t
feeds-append [] t = omega arith
feeds-append (b ∷ s) t = by (b == 10) (feeds-append s t)
  where
    by : (c : Bool) → feed_count (s ++ t) ≡ feed_count s + feed_count t → (if c then suc (feed_count (s ++ t)) else feed_count (s ++ t))
        ≡ (if c then suc (feed_count s) else feed_count s) + feed_count t
    by true same = omega (arith, same)
    by false same = same

no-feeds : (s : List ℕ) → without 10 s ≡ true → feed_count s ≡ 0
no-feeds [] free = refl
no-feeds (b ∷ s) free = let (here, rest) = both_true (not (b == 10)) (without 10 s) free in rw (not_true (b == 10) here) (no-feeds s rest)

feeds-lines : (ls : List Line) → AllByRecursion IsWordLine ls → feed_count (lines_text ls) ≡ length ls
feeds-lines [] all = refl
feeds-lines (l ∷ ls) all =
    omega (
      arith,
      feeds-append (words_text l ++ 10 ∷ []) (lines_text ls),
      feeds-append (words_text l) (10 ∷ []),
      no-feeds (words_text l) (no-feed l all.0.1),
      feeds-lines ls all.1,
    )

-- ---- parts between line feeds

split-append : (s rest : List ℕ) → split 10 (s ++ 10 ∷ rest) ≡ split 10 s ++ split 10 rest
split-append [] rest = refl
split-append (b ∷ s) rest = by (b == 10) (some-part 10 s) (split-append s rest)
  where
    by : (c : Bool) → (p : List ℕ) × (ps : List (List ℕ)) × (split 10 s ≡ p ∷ ps) → split 10 (s ++ 10 ∷ rest) ≡ split 10 s ++ split 10 rest
        → (if c then [] ∷ split 10 (s ++ 10 ∷ rest) else push b (split 10 (s ++ 10 ∷ rest))) ≡ (if c then [] ∷ split 10 s else push b (split 10 s))
        ++ split 10 rest
    by true parts same = ap (λ (ps : List (List ℕ)). [] ∷ ps) same
    by false (p, ps, parts) same = ap (push b) (same ∙ ap (λ (qs : List (List ℕ)). qs ++ split 10 rest) parts)
        ∙ ap (λ (qs : List (List ℕ)). push b qs ++ split 10 rest) (sym parts)

split-count : (s : List ℕ) → length (split 10 s) ≡ suc (feed_count s)
split-count [] = refl
split-count (b ∷ s) = by (b == 10) (some-part 10 s) (split-count s)
  where
    by : (c : Bool) → (p : List ℕ) × (ps : List (List ℕ)) × (split 10 s ≡ p ∷ ps) → length (split 10 s) ≡ suc (feed_count s)
        → length (if c then [] ∷ split 10 s else push b (split 10 s)) ≡ suc (if c then suc (feed_count s) else feed_count s)
    by true parts same = ap suc same
    by false (p, ps, parts) same = ap (λ (qs : List (List ℕ)). length (push b qs)) parts ∙ ap length (sym parts) ∙ same

lines-of-parts : (ps : List (List ℕ)) (q : List ℕ) (qs : List (List ℕ)) → lines_of_parts (ps ++ q ∷ qs) ≡ map (split 32) ps ++ lines_of_parts (q ∷ qs)
lines-of-parts [] q qs = refl
lines-of-parts (p ∷ []) q qs = one p
  where
    one : (p : List ℕ) → lines_of_parts (p ∷ q ∷ qs) ≡ split 32 p ∷ lines_of_parts (q ∷ qs)
    one [] = refl
    one (b ∷ p) = refl
lines-of-parts (p ∷ r ∷ ps) q qs = one p (lines-of-parts (r ∷ ps) q qs)
  where
    one : (p : List ℕ) → lines_of_parts ((r ∷ ps) ++ q ∷ qs) ≡ map (split 32) (r ∷ ps) ++ lines_of_parts (q ∷ qs) → lines_of_parts (p ∷ (r ∷ ps) ++ q ∷ qs)
        ≡ split 32 p ∷ (map (split 32) (r ∷ ps) ++ lines_of_parts (q ∷ qs))
    one [] same = ap (λ (ls : List Line). split 32 [] ∷ ls) same
    one (b ∷ p) same = ap (λ (ls : List Line). split 32 (b ∷ p) ∷ ls) same

-- the lines up to a line feed, and those behind it
lines-up_to : (s rest : List ℕ) → lines_in (s ++ 10 ∷ rest) ≡ map (split 32) (split 10 s) ++ lines_in rest
lines-up_to s rest =
    let (q, qs, parts) = some-part 10 rest in
    ap lines_of_parts (split-append s rest ∙ ap (λ (ps : List (List ℕ)). split 10 s ++ ps) parts) ∙ lines-of-parts (split 10 s) q qs
    ∙ ap (λ (ps : List (List ℕ)). map (split 32) (split 10 s) ++ lines_of_parts ps) (sym parts)

-- lines at the front of those of the bytes are their text there
cut-front : (front left : List Line) (parts : List (List ℕ)) → lines_of_parts parts ≡ front ++ left → AllByRecursion (λ l. l ≢ []) front → parts ≢ []
    → (tail : List ℕ) × (join 10 parts ≡ lines_text front ++ tail)
cut-front [] left parts same all some = (join 10 parts, refl)
cut-front (f ∷ front) left [] same all some = absurd (cc)
cut-front (f ∷ front) left ([] ∷ []) same all some = absurd (cc)
cut-front (f ∷ front) left ((b ∷ s) ∷ []) same all some = let none : f ≡ [] = cc in absurd (all.0 none)
cut-front (f ∷ front) left (s ∷ t ∷ ss) same all some = more s same (cut-front front left (t ∷ ss))
  where
    with_first : (s : List ℕ) → split 32 s ≡ f → lines_of_parts (t ∷ ss) ≡ front ++ left
        → (lines_of_parts (t ∷ ss) ≡ front ++ left → AllByRecursion (λ l. l ≢ []) front → (t ∷ ss) ≢ [] → (tail : List ℕ)
        × (join 10 (t ∷ ss) ≡ lines_text front ++ tail))
        → (tail : List ℕ) × (s ++ 10 ∷ join 10 (t ∷ ss) ≡ lines_text (f ∷ front) ++ tail)
    with_first s first rest later =
        let (tail, same_tail) = later rest all.1 (λ none. absurd (cc)) in (
          tail,
          ap (λ (bs : List ℕ). bs ++ 10 ∷ join 10 (t ∷ ss)) (sym (join-split 32 s) ∙ ap (join 32) first ∙ sym (join-words f))
              ∙ ap (λ (bs : List ℕ). words_text f ++ 10 ∷ bs) same_tail
              ∙ sym (append_assoc (words_text f) (10 ∷ []) (lines_text front ++ tail)) ∙ sym (append_assoc (words_text f ++ 10 ∷ []) (lines_text front) tail),
        )

    more : (s : List ℕ) → lines_of_parts (s ∷ t ∷ ss) ≡ f ∷ front ++ left
        → (lines_of_parts (t ∷ ss) ≡ front ++ left → AllByRecursion (λ l. l ≢ []) front → (t ∷ ss) ≢ [] → (tail : List ℕ)
        × (join 10 (t ∷ ss) ≡ lines_text front ++ tail))
        → (tail : List ℕ) × (s ++ 10 ∷ join 10 (t ∷ ss) ≡ lines_text (f ∷ front) ++ tail)
    more [] same later =
        let first : split 32 [] ≡ f = cc in
        let rest : lines_of_parts (t ∷ ss) ≡ front ++ left = cc in with_first [] first rest later
    more (b ∷ s) same later =
        let first : split 32 (b ∷ s) ≡ f = cc in
        let rest : lines_of_parts (t ∷ ss) ≡ front ++ left = cc in with_first (b ∷ s) first rest later

-- ---- the first fault

nonempty : (ls : List Line) → AreWordLines ls → AllByRecursion (λ l. l ≢ []) ls
nonempty [] all = tt
nonempty (l ∷ ls) all = (all.0.0, nonempty ls all.1)

-- where reading stops is the first line that can't go on
pub text-stops : (bytes : List ℕ) (left : List Line) → proof_of_bytes bytes ≡ Err left → (line : ℕ) × (line + length left ≡ suc (length (lines_in bytes)))
    × IsFirstFaultyLine bytes line
text-stops bytes left e = (suc (length stop.front), number, record { refused = refused; numbered = omega arith; before = before; here = here })
  where
    stop : IsFirstStop IsPlain proof_lines plain_proof (lines_in bytes) left
    stop = proof-stops (lines_in bytes) left e

    refused : ¬ IsInGrammar bytes
    refused = λ (p, plain, same). let twice : Ok p ≡ Err left = sym (text-again p plain) ∙ ap proof_of_bytes (sym same) ∙ e in absurd (cc)

    fronted : AreWordLines stop.front
    fronted = let (p, plain, more, same) = stop.before in all-front IsWordLine stop.front more (subst AreWordLines same (proof-words p plain))

    number : suc (length stop.front) + length left ≡ suc (length (lines_in bytes))
    number = omega (arith, ap length stop.split, length-append stop.front left)

    before : (k : ℕ) → 0 < k → k < suc (length stop.front) → GoesOn bytes k
    before zero some below = absurd (omega (arith, some))
    before (suc k) some below =
        let (p, plain, more, same) = stop.before in
        let (f, l, g, parts, count) = placed k stop.front (omega (arith, below)) in
        let (s0, ss0, there) = some-part 10 bytes in
        let (tail, whole) = cut-front stop.front left (split 10 bytes) stop.split (nonempty stop.front fronted) (λ none. absurd (cc)) in
        let text = lines_text f ++ words_text l in
        let clean = subst AreWordLines parts fronted in
        let f_clean = all-front IsWordLine f (l ∷ g) clean in
        let all_text : lines_text stop.front ≡ text ++ 10 ∷ lines_text g =
        ap lines_text parts ∙ lines-append f (l ∷ g) ∙ ap (λ (bs : List ℕ). lines_text f ++ bs) (append_assoc (words_text l) (10 ∷ []) (lines_text g))
        ∙ sym (append_assoc (lines_text f) (words_text l) (10 ∷ lines_text g)) in (
          text,
          lines_text g ++ tail,
          sym (join-split 10 bytes) ∙ whole ∙ ap (λ (bs : List ℕ). bs ++ tail) all_text ∙ append_assoc text (10 ∷ lines_text g) tail,
          omega (
            arith,
            feeds-append (lines_text f) (words_text l),
            feeds-lines f f_clean,
            no-feeds (words_text l) (no-feed l (all-placed IsWordLine f l g clean).1),
            count,
          ),
          (
            p,
            plain,
            lines_text g ++ lines_text more,
            ap lines_text same ∙ lines-append stop.front more ∙ ap (λ (bs : List ℕ). bs ++ lines_text more) all_text
                ∙ append_assoc text (10 ∷ lines_text g) (lines_text more) ∙ sym (append_assoc text (10 ∷ []) (lines_text g ++ lines_text more)),
          ),
        )

    here : ¬ GoesOn bytes (suc (length stop.front))
    here = λ (fr, rest, same, count, (q, plain, rest_q, begins)).
        let xs = map (split 32) (split 10 fr) in
        let many : length xs ≡ suc (length stop.front) = omega (arith, length-map (split 10 fr) (split 32), split-count fr, count) in
        let (l, own, left_is) = parted xs (lines_in rest) stop.front left (sym (lines-up_to fr rest) ∙ ap lines_in (sym same) ∙ stop.split) many in
        let q_lines : proof_lines q ≡ (stop.front ++ l ∷ []) ++ lines_in rest_q =
        sym (lines-cut (proof_lines q) (proof-words q plain)) ∙ ap lines_in (begins ∙ append_assoc fr (10 ∷ []) rest_q) ∙ lines-up_to fr rest_q
        ∙ ap (λ (ls : List Line). ls ++ lines_in rest_q) own in
        stop.here l (lines_in rest) left_is (q, plain, lines_in rest_q, q_lines)

-- there is one such line
pub one-line : (bytes : List ℕ) (line other : ℕ) → IsFirstFaultyLine bytes line → IsFirstFaultyLine bytes other → line ≡ other
one-line bytes line other first second = by_order line other (λ less. second.before line first.numbered less) (λ less. first.before other second.numbered less)
  where
    by_order : (m n : ℕ) → (m < n → GoesOn bytes line) → (n < m → GoesOn bytes other) → m ≡ n
    by_order m n less more = elim (compared m n) [
      | inl same ↦ same
      | inr (inl below) ↦ absurd (first.here (less below))
      | inr (inr above) ↦ absurd (second.here (more above))
    ]
      where
        compared : (m n : ℕ) → (m ≡ n) ⊎ ((m < n) ⊎ (n < m))
        compared zero zero = inl refl
        compared zero (suc n) = inr (inl (omega arith))
        compared (suc m) zero = inr (inr (omega arith))
        compared (suc m) (suc n) = elim (compared m n) [
          | inl same ↦ inl (ap suc same)
          | inr (inl below) ↦ inr (inl (omega (arith, below)))
          | inr (inr above) ↦
              inr (inr (omega (arith, above)))
        ]
