use Rattle.std.proofs.Common.{◌≡◌, ℕ, ◌+◌, ◌<◌, List, [], ◌∷◌, ◌++◌, Option, codes, get_or, length, map, take, refl, sym, ap, subst, ◌∙◌, append_assoc}
use Rattle.std.proofs.lemmas.List.{flat_map_more, take_more}
use Rattle.std.specs.List.{AllByRecursion, flat_map}
use Rattle.bound_cert.specs.Paths.{named}
use Rattle.proof_grammar.specs.ProofLines.{Line, claim_line, count_line, has_table, line_text, lines_text, proof_text, row_lines_in, shared_from, table_lines}
use Rattle.proof_grammar.specs.ProofLines.{verdict_lines, words_text}
use Rattle.donor_book.specs.declared.claim.Entry.{Entry}
use Rattle.proof_grammar.specs.declared.proof.Proof.{Proof}
use Rattle.bound_cert.specs.declared.outcome.RowProof.{RowProof}
use Rattle.proof_grammar.proofs.TextFaults.{lines-append}
use Rattle.proof_text.specs.inner.Texts.{limits_text, parts_text, table_text, verdict_text, version_text}

-- The text of a proof, part by part.

-- a word, and names behind it, each behind a space
pub named-words : (word : List ℕ) (ns : List ℕ) → words_text (word ∷ map named ns) ≡ word ++ flat_map (λ (n : ℕ). 32 ∷ named n) ns
named-words word [] = sym (append-none word)
  where
    append-none : (w : List ℕ) → w ++ [] ≡ w
    append-none [] = refl
    append-none (b ∷ w) = ap (λ (v : List ℕ). b ∷ v) (append-none w)
named-words word (n ∷ ns) = ap (λ (rest : List ℕ). word ++ 32 ∷ rest) (named-words (named n) ns)

-- the text of the lines of all elements
flat-text : {X : Type 0} (lines : X → List Line) (xs : List X) → lines_text (flat_map lines xs) ≡ flat_map (λ x. lines_text (lines x)) xs
flat-text lines [] = refl
flat-text lines (x ∷ xs) = lines-append (lines x) (flat_map lines xs) ∙ ap (λ (bs : List ℕ). lines_text (lines x) ++ bs) (flat-text lines xs)

map-text : {X : Type 0} (said : X → Line) (xs : List X) → lines_text (map said xs) ≡ flat_map (λ x. line_text (said x)) xs
map-text said [] = refl
map-text said (x ∷ xs) = ap (λ (bs : List ℕ). line_text (said x) ++ bs) (map-text said xs)

-- one text more
pub text_more : {X : Type 0} (f : X → List ℕ) (before : List ℕ) (xs : List X) (i : ℕ) (d : X) (now next : List ℕ) → i < length xs
    → now ≡ before ++ flat_map f (take i xs) → next ≡ now ++ f (get_or xs i d) → next ≡ before ++ flat_map f (take (i + 1) xs)
text_more f before xs i d now next within e step = rw (step, e, take_more xs i d within) (flat_map_more f before (take i xs) (get_or xs i d))

-- one line more behind a count
pub line_more : {X : Type 0} (said : X → Line) (before : List ℕ) (xs : List X) (i : ℕ) (x : X) (now line next : List ℕ) → i < length xs
    → x ≡ get_or xs i x → now ≡ before ++ (10 ∷ lines_text (map said (take i xs))) → line ≡ now ++ words_text (said x) → next ≡ line ++ 10 ∷ []
    → next ≡ before ++ (10 ∷ lines_text (map said (take (i + 1) xs)))
line_more {X} said before xs i x now line next within here e written ended =
    let text = λ (y : X). line_text (said y) in
    let step = ended ∙ ap (λ (t : List ℕ). t ++ 10 ∷ []) written ∙ append_assoc now (words_text (said x)) (10 ∷ []) ∙ ap (λ (y : X). now ++ text y) here in
    text_more text (before ++ 10 ∷ []) xs i x now next within (e ∙ flat i) step ∙ sym (flat (i + 1))
  where
    flat : (j : ℕ) → before ++ (10 ∷ lines_text (map said (take j xs))) ≡ (before ++ 10 ∷ []) ++ flat_map (λ (y : X). line_text (said y)) (take j xs)
    flat j = ap (λ (t : List ℕ). before ++ (10 ∷ t)) (map-text said (take j xs)) ∙ sym (append_assoc before (10 ∷ []) _)

-- the lines of one element more behind a count
pub lines_more : {X : Type 0} (lines : X → List Line) (before : List ℕ) (xs : List X) (i : ℕ) (x : X) (now next : List ℕ) → i < length xs
    → x ≡ get_or xs i x → now ≡ before ++ (10 ∷ lines_text (flat_map lines (take i xs))) → next ≡ now ++ lines_text (lines x)
    → next ≡ before ++ (10 ∷ lines_text (flat_map lines (take (i + 1) xs)))
lines_more {X} lines before xs i x now next within here e written =
    let text = λ (y : X). lines_text (lines y) in
    text_more text (before ++ 10 ∷ []) xs i x now next within (e ∙ flat i) (written ∙ ap (λ (y : X). now ++ text y) here) ∙ sym (flat (i + 1))
  where
    flat : (j : ℕ) → before ++ (10 ∷ lines_text (flat_map lines (take j xs))) ≡ (before ++ 10 ∷ []) ++ flat_map (λ (y : X). lines_text (lines y)) (take j xs)
    flat j = ap (λ (t : List ℕ). before ++ (10 ∷ t)) (flat-text lines (take j xs)) ∙ sym (append_assoc before (10 ∷ []) _)

-- one more that has the property
pub all_more : {X : Type 0} (P : X → Type 0) (xs : List X) (i : ℕ) (d : X) → i < length xs → AllByRecursion P (take i xs) → P (get_or xs i d)
    → AllByRecursion P (take (i + 1) xs)
all_more {X} P xs i d within all has = subst (AllByRecursion P) (sym (take_more xs i d within)) (all_push (take i xs) (get_or xs i d) all has)
  where
    all_push : (ys : List X) (y : X) → AllByRecursion P ys → P y → AllByRecursion P (ys ++ y ∷ [])
    all_push [] y none p = (p, tt)
    all_push (x ∷ ys) y (first, rest) p = (first, all_push ys y rest p)

-- a count, its elements' lines, and lines behind them
behind-count : (count : Line) (ls ks : List Line) (part rest : List ℕ) → lines_text ls ≡ part → lines_text ks ≡ rest
    → lines_text (count ∷ (ls ++ ks)) ≡ (line_text count ++ part) ++ rest
behind-count count ls ks part rest first later =
    ap (λ (bs : List ℕ). line_text count ++ bs) (lines-append ls ks ∙ ap (λ (bs : List ℕ). bs ++ lines_text ks) first ∙ ap (λ (bs : List ℕ). part ++ bs) later)
    ∙ sym (append_assoc (line_text count) part rest)

-- the text of a proof is the texts of its parts
pub proof-parts : (p : Proof) → proof_text p ≡ parts_text p
proof-parts p =
    ap (λ (bs : List ℕ). version_text p.version ++ (limits_text p ++ bs))
    (behind-count (count_line (codes "lines") p.verdicts) (flat_map verdict_lines p.verdicts) _ (flat_map verdict_text p.verdicts) _
    (flat-text verdict_lines p.verdicts)
    (lines-append (table_lines (has_table p.version) p.table) _ ∙ ap (λ (bs : List ℕ). table_text (has_table p.version) p.table ++ bs)
    (behind-count (count_line (codes "records") p.rows) (flat_map (row_lines_in shared) p.rows) _
    (flat_map (λ (row : RowProof). lines_text (row_lines_in shared row)) p.rows) _ (flat-text (row_lines_in shared) p.rows)
    (behind-count (count_line (codes "claims") p.claims) (map claim_line p.claims) ((codes "end" ∷ []) ∷ [])
    (flat_map (λ (claim : Entry). line_text (claim_line claim)) p.claims) (codes "end\n") (map-text claim_line p.claims) refl))))
  where
    shared : Option ℕ
    shared = shared_from (has_table p.version) (length p.verdicts)

-- seven texts, one behind another
pub seven-appended : (t0 t1 t2 t3 t4 t5 t6 t7 a b c d e f g : List ℕ) → t1 ≡ t0 ++ a → t2 ≡ t1 ++ b → t3 ≡ t2 ++ c → t4 ≡ t3 ++ d → t5 ≡ t4 ++ e → t6 ≡ t5 ++ f
    → t7 ≡ t6 ++ g → t7 ≡ t0 ++ (a ++ (b ++ (c ++ (d ++ (e ++ (f ++ g))))))
seven-appended t0 t1 t2 t3 t4 t5 t6 t7 a b c d e f g first second third fourth fifth sixth seventh =
    seventh ∙ ap (λ (t : List ℕ). t ++ g) sixth ∙ append_assoc t5 f g ∙ ap (λ (t : List ℕ). t ++ (f ++ g)) fifth ∙ append_assoc t4 e (f ++ g)
    ∙ ap (λ (t : List ℕ). t ++ (e ++ (f ++ g))) fourth ∙ append_assoc t3 d (e ++ (f ++ g)) ∙ ap (λ (t : List ℕ). t ++ (d ++ (e ++ (f ++ g)))) third
    ∙ append_assoc t2 c (d ++ (e ++ (f ++ g)))
    ∙ ap (λ (t : List ℕ). t ++ (c ++ (d ++ (e ++ (f ++ g))))) second ∙ append_assoc t1 b (c ++ (d ++ (e ++ (f ++ g))))
    ∙ ap (λ (t : List ℕ). t ++ (b ++ (c ++ (d ++ (e ++ (f ++ g)))))) first ∙ append_assoc t0 a (b ++ (c ++ (d ++ (e ++ (f ++ g)))))

-- the words of a combination, piece by piece
pub combine-words : (t0 t1 t2 t3 t4 a m b n g : List ℕ) → t1 ≡ t0 ++ codes "combine" → t2 ≡ (t1 ++ (32 ∷ a)) ++ (32 ∷ m) → t3 ≡ (t2 ++ (32 ∷ b)) ++ (32 ∷ n)
    → t4 ≡ t3 ++ (32 ∷ g)
    → t4 ≡ t0 ++ words_text (codes "combine" ∷ a ∷ m ∷ b ∷ n ∷ g ∷ [])
combine-words t0 t1 t2 t3 t4 a m b n g first second third fourth =
    rw (fourth, third, second, first) (simp append_assoc
    (ap (λ (w : List ℕ). t0 ++ (codes "combine " ++ w)) (append_assoc a (32 ∷ (m ++ (32 ∷ (b ++ (32 ∷ n))))) (32 ∷ g)
    ∙ ap (λ (w : List ℕ). a ++ (32 ∷ w)) (append_assoc m (32 ∷ (b ++ (32 ∷ n))) (32 ∷ g)
    ∙ ap (λ (w : List ℕ). m ++ (32 ∷ w)) (append_assoc b (32 ∷ n) (32 ∷ g))))))
