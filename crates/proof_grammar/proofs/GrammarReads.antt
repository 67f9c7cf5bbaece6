use Rattle.std.proofs.Common.{◌≡◌, ℕ, zero, suc, List, [], ◌∷◌, Bool, true, false, Option, Some, None, Ok, Err, length, codes, refl, ap, ◌∙◌}
use Rattle.derivation.specs.declared.step.Step.{Step}
use Rattle.bound_cert.specs.declared.cert.Leaf.{Leaf}
use Rattle.bound_cert.specs.declared.outcome.RowProof.{RowProof}
use Rattle.donor_book.specs.declared.claim.Entry.{Entry}
use Rattle.proof_grammar.specs.declared.heads.LeafHead.{LeafHead}
use Rattle.proof_grammar.specs.declared.heads.LeafHead.TheVariants.{BadAt, BoundAt, BoxAt, LineAt}
use Rattle.proof_grammar.specs.declared.heads.RowHead.{RowHead}
use Rattle.proof_grammar.specs.declared.heads.RowHead.TheVariants.{BudgetAt, ChangeAt, CleanAt, ContradictoryAt, EventAt, GiftAt}
use Rattle.proof_grammar.specs.declared.heads.RunLimits.{RunLimits}
use Rattle.proof_grammar.specs.inner.FileReading.{behind_verdict, claim_in, count_in, counted_reading, file_reading, limits_in, lists_reading, rows_reading}
use Rattle.proof_grammar.specs.inner.FileReading.{table_reading, verdict_in, verdict_reading, version_in}
use Rattle.proof_grammar.proofs.HeadLines.{leaves_behind, steps_behind}
use Rattle.proof_grammar.specs.inner.LeafReading.{behind_leaf, leaf_in, leaf_reading, leaf_steps_reading}
use Rattle.proof_grammar.specs.inner.StepReading.{leaf_step_in, table_step_in}
use Rattle.proof_grammar.specs.Limits.{IsEntry, IsLeaf, IsLong, IsRowProof, IsStep, IsTableStep}
use Rattle.proof_grammar.specs.ProofLines.{Line, claim_line, has_table, leaf_lines_in, step_line_in, row_lines_in, shared_from, step_line, verdict_lines}
use Rattle.proof_grammar.proofs.Productions.{paired}
use Rattle.proof_grammar.specs.inner.Readings.{Reading, line_read, read_line, read_many, seen, then_read}
use Rattle.proof_grammar.specs.inner.RowReading.{behind_row, row_in, row_reading}
use Rattle.proof_grammar.proofs.FileForms.{count_form}
use Rattle.proof_grammar.proofs.Grammar.{IsVerdict, Lists, Rows, behind_rows, behind_table, behind_verdicts, behind_version, claims_count, counted}
use Rattle.proof_grammar.proofs.Grammar.{counted_view, ending, leaf, leaf_of, leaf_steps, leaf_view, lines_count, lists, no_table, plain_entry, proof, proof_of}
use Rattle.proof_grammar.proofs.Grammar.{proof_view, records_count, row, row_of, row_view, steps, steps_of_verdict, table, table_count, table_step, table_view}
use Rattle.proof_grammar.proofs.Grammar.{verdict, verdict_of, verdict_view}
use Rattle.proof_grammar.proofs.Productions.{LineForm, Production, as_seen, follow, line, many, many-reads, none}
use Rattle.proof_grammar.proofs.StepForms.{leaf_step_form, step_form}

-- The productions of the grammar are read as the reading functions say.

-- ---- reading joined

fused : {L X Y Z : Type 0} (to : X × Y → Z) (r : Reading L X) (q : X → List L → Reading L Y) → seen to (then_read r (λ x rest. paired x (q x rest)))
    ≡ then_read r (λ x rest. seen (λ y. to (x, y)) (q x rest))
fused to (Err left) q = refl
fused {L} {X} {Y} {Z} to (Ok (x, rest)) q = one (q x rest)
  where
    one : (r : Reading L Y) → seen to (paired x r) ≡ seen (λ y. to (x, y)) r
    one (Err left) = refl
    one (Ok (y, last)) = refl

then-same : {L X Y : Type 0} (r : Reading L X) (p q : X → List L → Reading L Y) → ((x : X) (rest : List L) → p x rest ≡ q x rest) → then_read r p
    ≡ then_read r q
then-same (Err left) p q same = refl
then-same (Ok (x, rest)) p q same = same x rest

many-same : {L X : Type 0} (f g : List L → Reading L X) → ((ls : List L) → f ls ≡ g ls) → (n : ℕ) (ls : List L) → read_many f n ls ≡ read_many g n ls
many-same f g same zero ls = refl
many-same {L} {X} f g same (suc n) ls =
    ap (λ (r : Reading L X). then_read r (λ x rest. seen (λ xs. x ∷ xs) (read_many f n rest))) (same ls)
    ∙ then-same (g ls) (λ x rest. seen (λ xs. x ∷ xs) (read_many f n rest)) (λ x rest. seen (λ xs. x ∷ xs) (read_many g n rest))
    (λ x rest. ap (λ (r : Reading L (List X)). seen (λ xs. x ∷ xs) r) (many-same f g same n rest))

-- a value, what follows it, and how both are seen
joined : {L X Y Z : Type 0} (to : X × Y → Z) (f g : List L → Reading L X) (q : X → List L → Reading L Y) (p : X → List L → Reading L Z)
    → ((ls : List L) → f ls ≡ g ls) → ((x : X) (rest : List L) → seen (λ y. to (x, y)) (q x rest) ≡ p x rest) → (ls : List L)
    → seen to (then_read (f ls) (λ x rest. paired x (q x rest))) ≡ then_read (g ls) p
joined {L} {X} {Y} {Z} to f g q p first later ls =
    ap (λ (r : Reading L X). seen to (then_read r (λ x rest. paired x (q x rest)))) (first ls) ∙ fused to (g ls) q
    ∙ then-same (g ls) (λ x rest. seen (λ y. to (x, y)) (q x rest)) p later

itself : {L X : Type 0} (r : Reading L X) → seen (λ x. x) r ≡ r
itself (Err left) = refl
itself (Ok (x, rest)) = refl

-- ---- leaves, verdicts and rows

-- the form of a leaf's step is read as the reading functions say
step-reads : (shared : Option ℕ) (l : Line) → (leaf_step_form shared).read l ≡ leaf_step_in shared l
step-reads None l = refl
step-reads (Some count) l = refl

line-reads : (shared : Option ℕ) (ls : List Line) → read_line (leaf_step_form shared).read ls ≡ read_line (leaf_step_in shared) ls
line-reads shared [] = refl
line-reads shared (l ∷ ls) = ap (line_read l ls) (step-reads shared l)

pub leaf-reads : (shared : Option ℕ) (ls : List Line) → (leaf shared).read ls ≡ leaf_reading shared ls
unfolding leaf leaf_view leaf_steps as_seen follow line many none
leaf-reads shared ls = joined (λ pair. leaf_of pair.0 pair.1) (read_line leaf_in) (read_line leaf_in)
    (λ head rest. (leaf_steps shared (steps_behind head)).read rest) (behind_leaf shared) (λ ks. refl) behind ls
  where
    steps_of : (n : ℕ) (rest : List Line) → (leaf_steps shared n).read rest ≡ leaf_steps_reading shared n rest
    steps_of n rest = many-reads IsStep (λ s. step_line_in shared s ∷ []) (line IsStep (step_line_in shared) (leaf_step_form shared)) n rest
        ∙ many-same (read_line (leaf_step_form shared).read) (read_line (leaf_step_in shared)) (line-reads shared) n rest

    behind : (head : LeafHead) (rest : List Line) → seen (λ ss. leaf_of head ss) ((leaf_steps shared (steps_behind head)).read rest)
        ≡ behind_leaf shared head rest
    behind (BoundAt path) rest = refl
    behind (BadAt path) rest = refl
    behind (LineAt path n) rest = ap (λ (r : Reading Line (List Step)). seen (λ ss. leaf_of (LineAt path n) ss) r) (steps_of n rest)
    behind (BoxAt path n) rest = ap (λ (r : Reading Line (List Step)). seen (λ ss. leaf_of (BoxAt path n) ss) r) (steps_of n rest)

pub verdict-reads : (ls : List Line) → verdict.read ls ≡ verdict_reading ls
unfolding verdict verdict_view steps as_seen follow line many none
verdict-reads ls = joined (λ pair. verdict_of pair.0 pair.1) (read_line verdict_in) (read_line verdict_in)
    (λ head rest. (steps (steps_of_verdict head)).read rest) behind_verdict (λ ks. refl) behind ls
  where
    behind : (head : Option ℕ) (rest : List Line) → seen (λ ss. verdict_of head ss) ((steps (steps_of_verdict head)).read rest) ≡ behind_verdict head rest
    behind None rest = refl
    behind (Some n) rest = ap (λ (r : Reading Line (List Step)). seen (λ ss. verdict_of (Some n) ss) r)
        (many-reads IsStep (λ s. step_line s ∷ []) (line IsStep step_line step_form) n rest)

pub row-reads : (shared : Option ℕ) (ls : List Line) → (row shared).read ls ≡ row_reading shared ls
unfolding row row_view as_seen follow line many none
row-reads shared ls = joined (λ pair. row_of pair.0 pair.1) (read_line row_in) (read_line row_in)
    (λ head rest. (many IsLeaf (leaf_lines_in shared) (leaf shared) (leaves_behind head)).read rest) (behind_row shared) (λ ks. refl) behind ls
  where
    leaves : (n : ℕ) (rest : List Line) → (many IsLeaf (leaf_lines_in shared) (leaf shared) n).read rest ≡ read_many (leaf_reading shared) n rest
    leaves n rest = many-reads IsLeaf (leaf_lines_in shared) (leaf shared) n rest ∙ many-same (leaf shared).read (leaf_reading shared) (leaf-reads shared) n
        rest

    behind : (head : RowHead) (rest : List Line)
        → seen (λ leaves. row_of head leaves) ((many IsLeaf (leaf_lines_in shared) (leaf shared) (leaves_behind head)).read rest) ≡ behind_row shared head rest
    behind CleanAt rest = refl
    behind (ChangeAt w path n) rest = ap (λ (r : Reading Line (List Leaf)). seen (λ leaves. row_of (ChangeAt w path n) leaves) r) (leaves n rest)
    behind (GiftAt weight path fault n) rest = ap (λ (r : Reading Line (List Leaf)). seen (λ leaves. row_of (GiftAt weight path fault n) leaves) r)
        (leaves n rest)
    behind (BudgetAt path work) rest = refl
    behind (EventAt path event) rest = refl
    behind (ContradictoryAt n) rest = ap (λ (r : Reading Line (List Leaf)). seen (λ leaves. row_of (ContradictoryAt n) leaves) r) (leaves n rest)

-- ---- a count, and as many values as it says

pub counted-reads : {X : Type 0} (Good : X → Type 0) (print : X → List Line) (head : ℕ → Line) (form : LineForm IsLong head) (one : Production Good print)
    (read : List Line → Reading Line X) → ((ls : List Line) → one.read ls ≡ read ls) → (ls : List Line)
    → (counted Good print head form one).read ls ≡ counted_reading form.read read ls
unfolding counted counted_view as_seen follow line
counted-reads {X} Good print head form one read same ls =
    joined (λ (pair : ℕ × List X). pair.1) (read_line form.read) (read_line form.read) (λ n rest. (many Good print one n).read rest)
    (λ n rest. read_many read n rest) (λ ks. refl)
    (λ n rest. itself ((many Good print one n).read rest) ∙ many-reads Good print one n rest ∙ many-same one.read read same n rest) ls

-- ---- the file

claims-reads : (ls : List Line) → (counted IsEntry (λ (entry : Entry). claim_line entry ∷ []) claims_count (count_form (codes "claims")) plain_entry).read ls
    ≡ counted_reading (count_in (codes "claims")) (read_line claim_in) ls
unfolding plain_entry line
claims-reads ls = counted-reads IsEntry (λ (entry : Entry). claim_line entry ∷ []) claims_count (count_form (codes "claims")) plain_entry (read_line claim_in)
    (λ ks. refl) ls

rows-reads : (shared : Option ℕ) (ls : List Line) → (counted IsRowProof (row_lines_in shared) records_count (count_form (codes "records")) (row shared)).read ls
    ≡ counted_reading (count_in (codes "records")) (row_reading shared) ls
rows-reads shared ls = counted-reads IsRowProof (row_lines_in shared) records_count (count_form (codes "records")) (row shared) (row_reading shared)
    (row-reads shared) ls

verdicts-reads : (ls : List Line) → (counted IsVerdict verdict_lines lines_count (count_form (codes "lines")) verdict).read ls
    ≡ counted_reading (count_in (codes "lines")) verdict_reading ls
verdicts-reads ls = counted-reads IsVerdict verdict_lines lines_count (count_form (codes "lines")) verdict verdict_reading verdict-reads ls

table-reads : (b : Bool) (ls : List Line) → (table b).read ls ≡ table_reading b ls
unfolding table table_view table_step no_table as_seen line
table-reads true ls = itself _ ∙ counted-reads IsTableStep (λ (s : Step). step_line s ∷ []) table_count (count_form (codes "table")) table_step
    (read_line table_step_in) (λ ks. refl) ls
table-reads false ls = refl

behind-table : (version : ℕ) (limits : RunLimits) (vs : List (Option (List Step))) (ts : List Step) (ls : List Line)
    → seen (λ (parts : Rows). proof_of version limits (vs, (ts, parts))) ((behind_table (shared_from (has_table version) (length vs))).read ls)
    ≡ rows_reading version limits vs ts ls
unfolding behind_table behind_rows ending follow line
behind-table version limits vs ts ls =
    joined (λ (pair : List RowProof × (List Entry × Unit {0})). proof_of version limits (vs, (ts, pair))) _ _ (λ rs later. behind_rows.read later) _
    (rows-reads (shared_from (has_table version) (length vs))) (λ rs later.
    joined (λ (pair : List Entry × Unit {0}). proof_of version limits (vs, (ts, (rs, pair)))) _ _ (λ cs last. ending.read last) _ claims-reads (λ cs last. refl)
    later) ls

lists-reads : (version : ℕ) (limits : RunLimits) (ls : List Line) → seen (λ (parts : Lists). proof_of version limits parts)
    ((lists (has_table version)).read ls) ≡ lists_reading version limits ls
unfolding lists behind_verdicts follow
lists-reads version limits ls =
    joined (λ (parts : Lists). proof_of version limits parts) _ _
    (λ vs rest. (behind_verdicts (has_table version) (shared_from (has_table version) (length vs))).read rest) _ verdicts-reads (λ vs rest.
    joined (λ (pair : List Step × Rows). proof_of version limits (vs, pair)) _ _ (λ ts later. (behind_table (shared_from (has_table version) (length vs))).read
    later) _ (table-reads (has_table version)) (λ ts later. behind-table version limits vs ts later) rest) ls

pub proof-reads : (ls : List Line) → proof.read ls ≡ file_reading ls
unfolding proof proof_view behind_version as_seen follow line
proof-reads ls =
    joined (λ (pair : ℕ × (RunLimits × Lists)). proof_of pair.0 pair.1.0 pair.1.1) (read_line version_in) (read_line version_in)
    (λ v rest. (behind_version (has_table v)).read rest) _ (λ ks. refl) (λ v rest.
    joined (λ (pair : RunLimits × Lists). proof_of v pair.0 pair.1) (read_line limits_in) (read_line limits_in) (λ l later. (lists (has_table v)).read later)
    (lists_reading v) (λ ks. refl) (lists-reads v) rest) ls
