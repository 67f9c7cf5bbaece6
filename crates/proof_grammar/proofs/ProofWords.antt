use Rattle.std.proofs.Common.{◌≡◌, ◌≢◌, ℕ, zero, suc, ◌+◌, ◌<◌, ◌^◌, ◌==◌, ◌&&◌, ◌⊎◌, inl, inr, ◌-◌, nat_lt, if◌then◌else◌, not, Bool, true, false, List, []}
use Rattle.std.proofs.Common.{◌∷◌, ◌++◌, Option, Some, None, IfSome, Result, Ok, ℤ, pos, negsuc, codes, length, map, refl, sym, ap, ◌∙◌, subst, arith}
use Rattle.std.specs.Fmt.{decimal, signed_decimal}
use Rattle.std.specs.List.{AllByRecursion, flat_map}
use Rattle.std.specs.Str.Parse.{AllDigits}
use Rattle.std.proofs.lemmas.Bool.Decides.{Decides-eqb}
use Rattle.std.proofs.lemmas.Fmt.{decimal_is_IsNumeral_wide}
use Rattle.fraction128.specs.Range.{InRange}
use Rattle.edit_line.specs.declared.place.Place.{Place}
use Rattle.edit_line.specs.declared.place.Place.TheVariants.{Field, Constant}
use Rattle.derivation.specs.declared.step.Step.{Step}
use Rattle.derivation.specs.declared.step.Step.TheVariants as step
use Rattle.bound_cert.specs.declared.cert.Leaf.{Leaf}
use Rattle.bound_cert.specs.declared.cert.LeafWhy.{LeafWhy}
use Rattle.bound_cert.specs.declared.cert.LeafWhy.TheVariants as why
use Rattle.donor_book.specs.declared.claim.Entry.{Entry}
use Rattle.bound_cert.specs.declared.outcome.Event.{Event}
use Rattle.bound_cert.specs.declared.outcome.Event.TheVariants as event
use Rattle.bound_cert.specs.declared.outcome.GiftFault.{GiftFault}
use Rattle.bound_cert.specs.declared.outcome.GiftFault.TheVariants as gift
use Rattle.bound_cert.specs.declared.outcome.Outcome.{Outcome}
use Rattle.bound_cert.specs.declared.outcome.Outcome.TheVariants as outcome
use Rattle.proof_grammar.specs.declared.proof.Proof.{Proof}
use Rattle.proof_grammar.specs.Limits.{AreFit, IsChange, IsEntry, IsEvent, IsGift, IsLeaf, IsLong, IsOutcome, IsPlace, IsPlain, IsRowProof, IsShort, IsStep}
use Rattle.proof_grammar.specs.Limits.{IsTable, IsTableStep}
use Rattle.bound_cert.specs.Paths.{letter, named, path_text}
use Rattle.proof_grammar.specs.ProofLines.{Line, change_lines_in, claim_line, event_line, gift_words, given_words, has_table, leaf_lines_in, step_line_in}
use Rattle.proof_grammar.specs.ProofLines.{named_or_0, place_word, proof_lines, proof_text, row_lines_in, shared_from, step_line, table_lines, verdict_lines}
use Rattle.proof_grammar.specs.Cuts.{lines_in}
use Rattle.proof_grammar.proofs.Cutting.{IsWord, IsWordLine, lines-cut, text-of-lines, without}
use Rattle.proof_grammar.proofs.ProofGrammar.{proof-again, proof-found, proof_in}

-- The words of a plain proof's lines, and so its text.

-- ---- words

digits-free : (mark : ℕ) (ds : List ℕ) → AllDigits 10 ds → (AllDigits 10 (mark ∷ []) → ⊥) → without mark ds ≡ true
digits-free mark [] digits none = refl
digits-free mark (d ∷ ds) digits none = by (d == mark) refl (digits-free mark ds digits.1 none)
  where
    by : (b : Bool) → (d == mark) ≡ b → without mark ds ≡ true → (not b && without mark ds) ≡ true
    by false is rest = rest
    by true is rest = absurd (none (subst (λ (k : ℕ). AllDigits 10 (k ∷ [])) ((Decides-eqb d mark).0 is) (digits.0, tt)))

decimal-word : (n : ℕ) → n < 10 ^ 64 → IsWord (decimal n)
decimal-word n below =
    let digits = (decimal_is_IsNumeral_wide n below).0.1 in
    (digits-free 32 (decimal n) digits (λ d. absurd (omega (arith, d.0))), digits-free 10 (decimal n) digits (λ d. absurd (omega (arith, d.0))))

long-word : (n : ℕ) → IsLong n → IsWord (decimal n)
long-word n fits = decimal-word n (omega (arith, fits))

named-word : (n : ℕ) → n < 2 ^ 64 → IsWord (named n)
named-word n below = decimal-word (n + 1) (omega (arith, below))

signed-word : (z : ℤ) → InRange z → IsWord (signed_decimal z)
signed-word (pos n) fits = decimal-word n (omega (arith, fits))
signed-word (negsuc n) fits = decimal-word (suc n) (omega (arith, fits))

letters-word : (path : List Bool) → IsWord (map letter path)
letters-word [] = (refl, refl)
letters-word (true ∷ path) = letters-word path
letters-word (false ∷ path) = letters-word path

path-is_word : (path : List Bool) → IsWord (path_text path)
path-is_word [] = (refl, refl)
path-is_word (true ∷ path) = letters-word path
path-is_word (false ∷ path) = letters-word path

place-is_word : (p : Place) → IsPlace p → IsWord (place_word p)
place-is_word Constant fits = (refl, refl)
place-is_word (Field f) fits = named-word f (omega (arith, fits))

option-is_word : (o : Option ℕ) → IfSome o IsShort → IsWord (named_or_0 o)
option-is_word None fits = (refl, refl)
option-is_word (Some n) fits = named-word n (omega (arith, fits))

-- ---- lists

abbrev pub AreWordLines : List Line → Type 0
AreWordLines ls = AllByRecursion IsWordLine ls

all-append : {X : Type 0} (P : X → Type 0) (xs ys : List X) → AllByRecursion P xs → AllByRecursion P ys → AllByRecursion P (xs ++ ys)
all-append P [] ys first second = second
all-append P (x ∷ xs) ys first second = (first.0, all-append P xs ys first.1 second)

all-flat : {X : Type 0} (Good : X → Type 0) (print : X → List Line) (each : (x : X) → Good x → AreWordLines (print x)) (xs : List X) → AllByRecursion Good xs
    → AreWordLines (flat_map print xs)
all-flat Good print each [] all = tt
all-flat Good print each (x ∷ xs) all = all-append IsWordLine (print x) (flat_map print xs) (each x all.0) (all-flat Good print each xs all.1)

all-map : {X Y : Type 0} (Good : X → Type 0) (P : Y → Type 0) (f : X → Y) (each : (x : X) → Good x → P (f x)) (xs : List X) → AllByRecursion Good xs
    → AllByRecursion P (map f xs)
all-map Good P f each [] all = tt
all-map Good P f each (x ∷ xs) all = (each x all.0, all-map Good P f each xs all.1)

-- a line of words, the first of which is there
headed : (w : List ℕ) (ws : Line) → AllByRecursion IsWord (w ∷ ws) → IsWordLine (w ∷ ws)
headed w ws all = ((λ none. absurd (cc)), all)

-- ---- lines

step-words : (s : Step) → IsStep s → IsWordLine (step_line s)
step-words (step.Given i) fits = headed _ _ ((refl, refl), (named-word i fits, tt))
step-words (step.Combine a m b n g) fits =
    headed _ _ ((refl, refl), (named-word a fits.0, (signed-word m fits.1, (named-word b fits.2, (signed-word n fits.3, (signed-word g fits.4, tt))))))
step-words (step.Fail a) fits = headed _ _ ((refl, refl), (named-word a fits, tt))
step-words (step.Cover field parts) fits =
    headed _ _ ((refl, refl), (named-word field (omega (arith, fits.0)), all-map IsLong IsWord named (λ n below. named-word n below) parts fits.1))
step-words (step.Fix field part) fits = headed _ _ ((refl, refl), (named-word field (omega (arith, fits.0)), (named-word part fits.1, tt)))

steps-words : (steps : List Step) → AllByRecursion IsStep steps → AreWordLines (map step_line steps)
steps-words steps all = all-map IsStep IsWordLine step_line step-words steps all

given-words : (shared : Option ℕ) (i : ℕ) → IsLong i → IsWordLine (given_words shared i)
given-words None i fits = headed _ _ ((refl, refl), (named-word i fits, tt))
given-words (Some count) i fits = by (nat_lt i count)
  where
    by : (b : Bool) → IsWordLine (if b then codes "given" ∷ named i ∷ [] else codes "shared" ∷ named (i - count) ∷ [])
    by true = headed _ _ ((refl, refl), (named-word i fits, tt))
    by false = headed _ _ ((refl, refl), (named-word (i - count) (omega (arith, fits)), tt))

leaf-step-words : (shared : Option ℕ) (s : Step) → IsStep s → IsWordLine (step_line_in shared s)
leaf-step-words shared (step.Given i) fits = given-words shared i fits
leaf-step-words shared (step.Combine a m b n g) fits = step-words (step.Combine a m b n g) fits
leaf-step-words shared (step.Fail a) fits = step-words (step.Fail a) fits
leaf-step-words shared (step.Cover field parts) fits = step-words (step.Cover field parts) fits
leaf-step-words shared (step.Fix field part) fits = step-words (step.Fix field part) fits

leaf-steps-words : (shared : Option ℕ) (steps : List Step) → AllByRecursion IsStep steps → AreWordLines (map (step_line_in shared) steps)
leaf-steps-words shared steps all = all-map IsStep IsWordLine (step_line_in shared) (leaf-step-words shared) steps all

table-words : (b : Bool) (table : List Step) → IsTable b table → AreWordLines (table_lines b table)
table-words false table fits = tt
table-words true table fits = (
  headed (codes "table") (decimal (length table) ∷ []) ((refl, refl), (long-word (length table) fits.0, tt)),
  all-map IsTableStep IsWordLine step_line table-step table fits.1,
)
  where
    table-step : (s : Step) → IsTableStep s → IsWordLine (step_line s)
    table-step (step.Given i) fits = step-words (step.Given i) fits
    table-step (step.Combine a m b n g) fits = step-words (step.Combine a m b n g) fits
    table-step (step.Fail a) fits = absurd fits
    table-step (step.Cover field parts) fits = absurd fits
    table-step (step.Fix field part) fits = absurd fits

leaf-words : (shared : Option ℕ) (path : List Bool) (reason : LeafWhy) → IsLeaf (record { path = path; why = reason })
    → AreWordLines (leaf_lines_in shared (record { path = path; why = reason }))
leaf-words shared path why.Bound fits = (headed _ _ ((refl, refl), (path-is_word path, tt)), tt)
leaf-words shared path why.BadKept fits = (headed _ _ ((refl, refl), (path-is_word path, tt)), tt)
leaf-words shared path (why.Line steps) fits = (
  headed _ _ ((refl, refl), (path-is_word path, (long-word (length steps) fits.0, tt))),
  leaf-steps-words shared steps fits.1,
)
leaf-words shared path (why.Box steps) fits = (
  headed _ _ ((refl, refl), (path-is_word path, (long-word (length steps) fits.0, tt))),
  leaf-steps-words shared steps fits.1,
)

leaves-words : (shared : Option ℕ) (leaves : List Leaf) → AllByRecursion IsLeaf leaves → AreWordLines (flat_map (leaf_lines_in shared) leaves)
leaves-words shared leaves all = all-flat IsLeaf (leaf_lines_in shared) (λ leaf fits. leaf-words shared leaf.path leaf.why fits) leaves all

verdict-words : (v : Option (List Step)) → IfSome v (AreFit IsStep) → AreWordLines (verdict_lines v)
verdict-words None fits = (headed _ _ ((refl, refl), tt), tt)
verdict-words (Some steps) fits = (headed _ _ ((refl, refl), (long-word (length steps) fits.0, tt)), steps-words steps fits.1)

gift-words : (g : GiftFault) (rest : Line) → IsGift g → AllByRecursion IsWord rest → AllByRecursion IsWord (gift_words g ++ rest)
gift-words (gift.Bound field line) rest fits all = (named-word field (omega (arith, fits.0)), (named-word line fits.1, all))
gift-words (gift.Test rule) rest fits all = ((refl, refl), (named-word rule (omega (arith, fits)), all))

change-words : (shared : Option ℕ) (path : List Bool) (weight : ℕ) (leaves : List Leaf) → IsChange path weight leaves
    → AreWordLines (change_lines_in shared path weight leaves)
change-words shared path zero leaves fits = (headed _ _ ((refl, refl), tt), tt)
change-words shared path (suc w) leaves fits =
    (headed _ _ ((refl, refl), (long-word (suc w) fits.0, (path-is_word path, (long-word (length leaves) fits.1.0, tt)))), leaves-words shared leaves fits.1.1)

event-words : (path : List Bool) (e : Event) → IsEvent e → IsWordLine (event_line path e)
event-words path (event.Step first second place) fits =
    headed _ _ ((refl, refl), (path-is_word path, (named-word first fits.0, (named-word second fits.1, (place-is_word place fits.2, tt)))))
event-words path (event.Test line field) fits =
    headed _ _ ((refl, refl), (path-is_word path, (named-word line fits.0, (named-word field (omega (arith, fits.1)), tt))))

row-words : (shared : Option ℕ) (o : Outcome) (g : Option GiftFault) → IsOutcome o g → AreWordLines (row_lines_in shared (record { outcome = o; gift = g }))
row-words shared (outcome.Change path weight cert) None fits = change-words shared path weight cert.leaves fits
row-words shared (outcome.Change path weight cert) (Some g) fits = (
  headed _ _ (
    (refl, refl),
    (
      long-word weight fits.0,
      (
        path-is_word path,
        gift-words g (decimal (length cert.leaves) ∷ []) fits.1
            (long-word (length cert.leaves) fits.2.0, tt),
      ),
    ),
  ),
  leaves-words shared cert.leaves fits.2.1,
)
row-words shared (outcome.Budget path work) None fits = (headed _ _ ((refl, refl), (path-is_word path, (long-word work fits, tt))), tt)
row-words shared (outcome.Budget path work) (Some g) fits = absurd fits
row-words shared (outcome.Overflow path e) None fits = (event-words path e fits, tt)
row-words shared (outcome.Overflow path e) (Some g) fits = absurd fits
row-words shared (outcome.Contradictory cert) None fits = (
  headed _ _ ((refl, refl), (long-word (length cert.leaves) fits.0, tt)),
  leaves-words shared cert.leaves fits.1,
)
row-words shared (outcome.Contradictory cert) (Some g) fits = absurd fits

claim-words : (entry : Entry) → IsEntry entry → IsWordLine (claim_line entry)
claim-words entry fits =
    headed _ _ (
      (refl, refl),
      (
        named-word entry.row_no (omega (arith, fits.0)),
        (option-is_word entry.reply fits.1, all-map IsShort IsWord named (λ n below. named-word n (omega (arith, below))) entry.ranking fits.2),
      ),
    )

count-words : (w : List ℕ) (n : ℕ) → IsWord w → IsLong n → IsWordLine (w ∷ decimal n ∷ [])
count-words w n word fits = headed w (decimal n ∷ []) (word, (long-word n fits, tt))

-- each line of a plain proof has words
pub proof-words : (p : Proof) → IsPlain p → AreWordLines (proof_lines p)
proof-words p plain = (
  headed _ _ ((refl, refl), (version-word p.version plain.version, tt)),
  (
    headed _ _ (
      (refl, refl),
      (
        decimal-word p.limit (omega (arith, plain.limit)),
        ((refl, refl), (decimal-word p.near (omega (arith, plain.near)), ((refl, refl), (long-word p.budget plain.budget, tt)))),
      ),
    ),
    (
      count-words (codes "lines") (length p.verdicts) (refl, refl) plain.verdicts.0,
      all-append IsWordLine (flat_map verdict_lines p.verdicts) _ (all-flat _ verdict_lines verdict-words p.verdicts plain.verdicts.1) (
          all-append IsWordLine (table_lines (has_table p.version) p.table) _ (table-words (has_table p.version) p.table plain.table) (
            count-words (codes "records") (length p.rows) (refl, refl) plain.rows.0,
            all-append IsWordLine (flat_map (row_lines_in shared) p.rows) _ (all-flat IsRowProof (row_lines_in shared)
                (λ row fits. row-words shared row.outcome row.gift fits) p.rows plain.rows.1) (
                  count-words (codes "claims") (length p.claims) (refl, refl) plain.claims.0,
                  all-append IsWordLine (map claim_line p.claims) _ (all-map IsEntry IsWordLine claim_line claim-words p.claims plain.claims.1)
                      (headed _ _ ((refl, refl), tt), tt),
                ),
          )
          ),
    ),
  ),
)
  where
    shared : Option ℕ
    shared = shared_from (has_table p.version) (length p.verdicts)

    version-word : (version : ℕ) → (version ≡ 1) ⊎ (version ≡ 2) → IsWord (decimal version)
    version-word version (inl one) = decimal-word version (omega (arith, one))
    version-word version (inr two) = decimal-word version (omega (arith, two))

-- ---- the text

-- the proof that bytes spell
abbrev pub proof_of_bytes : List ℕ → Result Proof (List Line)
proof_of_bytes bytes = proof_in (lines_in bytes)

-- what is read of bytes is a plain proof, and they are its text
pub text-found : (bytes : List ℕ) (p : Proof) → proof_of_bytes bytes ≡ Ok p → IsPlain p × (bytes ≡ proof_text p)
text-found bytes p e =
    let (plain, same) = proof-found (lines_in bytes) p e in
    (plain, text-of-lines bytes (proof_lines p) same (only (proof_lines p) (proof-words p plain)))
  where
    only : (ls : List Line) → AreWordLines ls → AllByRecursion (λ l. l ≢ []) ls
    only [] all = tt
    only (l ∷ ls) all = (all.0.0, only ls all.1)

-- the text of a plain proof is read as that proof
pub text-again : (p : Proof) → IsPlain p → proof_of_bytes (proof_text p) ≡ Ok p
text-again p plain = ap proof_in (lines-cut (proof_lines p) (proof-words p plain)) ∙ proof-again p plain

-- so two plain proofs of one text are one
pub text-once : (p q : Proof) → IsPlain p → IsPlain q → proof_text p ≡ proof_text q → p ≡ q
text-once p q first second same = let both : Ok p ≡ Ok q = sym (text-again p first) ∙ ap proof_of_bytes same ∙ text-again q second in cc
