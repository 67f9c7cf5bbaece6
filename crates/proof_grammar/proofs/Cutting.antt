use Rattle.std.proofs.Common.{◌≡◌, ◌≢◌, ℕ, ◌==◌, not, Bool, true, false, if◌then◌else◌, List, [], ◌∷◌, ◌++◌, refl, sym, ap, ◌∙◌, append_assoc}
use Rattle.std.specs.List.{AllByRecursion, list_all}
use Rattle.std.proofs.lemmas.Bool.Decides.{Decides-eqb}
use Rattle.edit_line.proofs.BoolLaws.{both_true}
use Rattle.proof_grammar.specs.ProofLines.{Line, lines_text, words_text}
use Rattle.proof_grammar.specs.Cuts.{lines_in, lines_of_parts, push, split}

-- Bytes that are cut into lines and words.

-- the parts with marks between them
abbrev pub join : ℕ → List (List ℕ) → List ℕ
join mark [] = []
join mark (s ∷ []) = s
join mark (s ∷ t ∷ ss) = s ++ mark ∷ join mark (t ∷ ss)

pub some-part : (mark : ℕ) (bytes : List ℕ) → (s : List ℕ) × (ss : List (List ℕ)) × (split mark bytes ≡ s ∷ ss)
some-part mark [] = ([], [], refl)
some-part mark (b ∷ bytes) = by (b == mark) (some-part mark bytes)
  where
    by : (c : Bool) → (s : List ℕ) × (ss : List (List ℕ)) × (split mark bytes ≡ s ∷ ss) → (s : List ℕ) × (ss : List (List ℕ))
        × ((if c then [] ∷ split mark bytes else push b (split mark bytes)) ≡ s ∷ ss)
    by true (s, ss, is) = ([], split mark bytes, refl)
    by false (s, ss, is) = (b ∷ s, ss, ap (push b) is)

join-push : (mark b : ℕ) (s : List ℕ) (ss : List (List ℕ)) → join mark ((b ∷ s) ∷ ss) ≡ b ∷ join mark (s ∷ ss)
join-push mark b s [] = refl
join-push mark b s (t ∷ ss) = refl

-- the parts joined are the whole
pub join-split : (mark : ℕ) (bytes : List ℕ) → join mark (split mark bytes) ≡ bytes
join-split mark [] = refl
join-split mark (b ∷ bytes) = by (b == mark) refl (some-part mark bytes) (join-split mark bytes)
  where
    by : (c : Bool) → (b == mark) ≡ c → (s : List ℕ) × (ss : List (List ℕ)) × (split mark bytes ≡ s ∷ ss) → join mark (split mark bytes) ≡ bytes
        → join mark (if c then [] ∷ split mark bytes else push b (split mark bytes)) ≡ b ∷ bytes
    by true is (s, ss, parts) rest =
        ap (λ (ps : List (List ℕ)). join mark ([] ∷ ps)) parts ∙ ap (λ (k : ℕ). k ∷ join mark (s ∷ ss)) (sym ((Decides-eqb b mark).0 is))
        ∙ ap (λ (bs : List ℕ). b ∷ bs) (ap (join mark) (sym parts) ∙ rest)
    by false is (s, ss, parts) rest = ap (λ (ps : List (List ℕ)). join mark (push b ps)) parts ∙ join-push mark b s ss
        ∙ ap (λ (bs : List ℕ). b ∷ bs) (ap (join mark) (sym parts) ∙ rest)

-- whether a mark is not there
abbrev pub without : ℕ → List ℕ → Bool
without mark bytes = list_all (λ b. not (b == mark)) bytes

pub not_true : (b : Bool) → not b ≡ true → b ≡ false
not_true true h = absurd (cc)
not_true false h = refl

-- a part before a mark, and a last part
pub split-front : (mark : ℕ) (s bytes : List ℕ) → without mark s ≡ true → split mark (s ++ mark ∷ bytes) ≡ s ∷ split mark bytes
split-front mark [] bytes free = rw ((Decides-eqb mark mark).1 refl) refl
split-front mark (b ∷ s) bytes free =
    let (here, rest) = both_true _ _ free in
    rw (not_true (b == mark) here) (ap (push b) (split-front mark s bytes rest))

pub split-last : (mark : ℕ) (s : List ℕ) → without mark s ≡ true → split mark s ≡ s ∷ []
split-last mark [] free = refl
split-last mark (b ∷ s) free = let (here, rest) = both_true _ _ free in rw (not_true (b == mark) here) (ap (push b) (split-last mark s rest))

-- ---- words

-- a word has neither a space nor a line feed
abbrev pub IsWord : List ℕ → Type 0
IsWord w = (without 32 w ≡ true) × (without 10 w ≡ true)

-- a line has a word at least
abbrev pub IsWordLine : Line → Type 0
IsWordLine l = (l ≢ []) × AllByRecursion IsWord l

pub join-words : (l : Line) → words_text l ≡ join 32 l
join-words [] = refl
join-words (w ∷ []) = refl
join-words (w ∷ v ∷ l) = ap (λ (bs : List ℕ). w ++ 32 ∷ bs) (join-words (v ∷ l))

pub words-split : (l : Line) → IsWordLine l → split 32 (words_text l) ≡ l
words-split [] is = absurd (is.0 refl)
words-split (w ∷ []) is = split-last 32 w is.1.0.0
words-split (w ∷ v ∷ l) is =
    split-front 32 w (words_text (v ∷ l)) is.1.0.0 ∙ ap (λ (ws : Line). w ∷ ws) (words-split (v ∷ l) ((λ none. absurd (cc)), is.1.1))

without-append : (mark : ℕ) (s t : List ℕ) → without mark s ≡ true → without mark t ≡ true → without mark (s ++ t) ≡ true
without-append mark [] t first second = second
without-append mark (b ∷ s) t first second = let (here, rest) = both_true (not (b == mark)) (without mark s) first in
    rw here (without-append mark s t rest second)

pub no-feed : (l : Line) → AllByRecursion IsWord l → without 10 (words_text l) ≡ true
no-feed [] all = refl
no-feed (w ∷ []) all = all.0.1
no-feed (w ∷ v ∷ l) all = without-append 10 w (32 ∷ words_text (v ∷ l)) all.0.1 (no-feed (v ∷ l) all.1)

-- ---- lines

pub lines-cut : (ls : List Line) → AllByRecursion IsWordLine ls → lines_in (lines_text ls) ≡ ls
lines-cut [] all = refl
lines-cut (l ∷ ls) all =
    let parts : split 10 (lines_text (l ∷ ls)) ≡ words_text l ∷ split 10 (lines_text ls) =
    ap (split 10) (append_assoc (words_text l) (10 ∷ []) (lines_text ls)) ∙ split-front 10 (words_text l) (lines_text ls) (no-feed l all.0.1) in
    let (s, ss, behind) = some-part 10 (lines_text ls) in
    ap lines_of_parts (parts ∙ ap (λ (ps : List (List ℕ)). words_text l ∷ ps) behind) ∙ more (words_text l) s ss
    ∙ ap (λ (w : Line). w ∷ lines_of_parts (s ∷ ss)) (words-split l all.0) ∙ ap (λ (ps : List (List ℕ)). l ∷ lines_of_parts ps) (sym behind)
    ∙ ap (λ (ks : List Line). l ∷ ks) (lines-cut ls all.1)
  where
    more : (w s : List ℕ) (ss : List (List ℕ)) → lines_of_parts (w ∷ s ∷ ss) ≡ split 32 w ∷ lines_of_parts (s ∷ ss)
    more [] s ss = refl
    more (b ∷ w) s ss = refl

-- a line, and the parts behind it
line-before : (s t : List ℕ) (ss : List (List ℕ)) (ls : List Line) → split 32 s ∷ lines_of_parts (t ∷ ss) ≡ ls → AllByRecursion (λ l. l ≢ []) ls
    → ((rest : List Line) → lines_of_parts (t ∷ ss) ≡ rest → AllByRecursion (λ l. l ≢ []) rest → (t ∷ ss) ≢ [] → join 10 (t ∷ ss) ≡ lines_text rest)
    → s ++ 10 ∷ join 10 (t ∷ ss) ≡ lines_text ls
line-before s t ss [] is all later = absurd (cc)
line-before s t ss (l ∷ ls) is all later =
    let first : split 32 s ≡ l = cc in
    let rest : lines_of_parts (t ∷ ss) ≡ ls = cc in
    ap (λ (bs : List ℕ). bs ++ 10 ∷ join 10 (t ∷ ss)) (sym (join-split 32 s) ∙ ap (join 32) first ∙ sym (join-words l))
    ∙ ap (λ (bs : List ℕ). words_text l ++ 10 ∷ bs) (later ls rest all.1 (λ none. absurd (cc))) ∙ sym (append_assoc (words_text l) (10 ∷ []) (lines_text ls))

parts-text : (parts : List (List ℕ)) (ls : List Line) → lines_of_parts parts ≡ ls → AllByRecursion (λ l. l ≢ []) ls → parts ≢ [] → join 10 parts ≡ lines_text ls
parts-text [] ls is all some = absurd (some refl)
parts-text ([] ∷ []) ls is all some = ap lines_text is
parts-text ((b ∷ s) ∷ []) [] is all some = absurd (cc)
parts-text ((b ∷ s) ∷ []) (l ∷ ls) is all some = let none : l ≡ [] = cc in absurd (all.0 none)
parts-text ([] ∷ t ∷ ss) ls is all some = line-before [] t ss ls is all (parts-text (t ∷ ss))
parts-text ((b ∷ s) ∷ t ∷ ss) ls is all some = line-before (b ∷ s) t ss ls is all (parts-text (t ∷ ss))

-- bytes whose lines have words are the text of their lines
pub text-of-lines : (bytes : List ℕ) (ls : List Line) → lines_in bytes ≡ ls → AllByRecursion (λ l. l ≢ []) ls → bytes ≡ lines_text ls
text-of-lines bytes ls is all =
    sym (join-split 10 bytes) ∙ parts-text (split 10 bytes) ls is all (λ none. let (s, ss, parts) = some-part 10 bytes in absurd (cc))
