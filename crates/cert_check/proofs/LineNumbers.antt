-- The lines of a proof are no more than its bytes.
use Rattle.std.proofs.Common.{◌≡◌, ◌∙◌, ℕ, ◌+◌, ◌≤◌, zero, suc, Bool, List, [], ◌∷◌, ◌++◌, Option, Some, None, length, ap, arith, map, refl}
use Rattle.std.specs.List.{flat_map}
use Rattle.std.proofs.lemmas.List.{length-append, length-map}
use Rattle.std.proofs.lemmas.List.Concat.{flat_map-cons}
use Rattle.proof_grammar.specs.ProofLines.{Line, claim_line, count_line, end_line, has_table, leaf_lines, leaf_lines_in, line_text, lines_text, proof_lines}
use Rattle.proof_grammar.specs.ProofLines.{row_lines, row_lines_in, shared_from, step_line, step_line_in, table_lines, verdict_lines, words_text}
use Rattle.bound_cert.specs.declared.cert.Leaf.{Leaf}
use Rattle.bound_cert.specs.declared.cert.LeafWhy.{LeafWhy}
use Rattle.bound_cert.specs.declared.cert.LeafWhy.TheVariants as why
use Rattle.bound_cert.specs.declared.outcome.GiftFault.{GiftFault}
use Rattle.bound_cert.specs.declared.outcome.Outcome.{Outcome}
use Rattle.bound_cert.specs.declared.outcome.Outcome.TheVariants as outcome
use Rattle.bound_cert.specs.declared.outcome.RowProof.{RowProof}
use Rattle.proof_grammar.specs.declared.proof.Proof.{Proof}
use Rattle.std.specs.Prelude.{codes}

-- each line takes a byte at least
pub lines-short : (lines : List Line) → length lines ≤ length (lines_text lines)
lines-short [] = omega arith
lines-short (line ∷ lines) =
    let parts : length (lines_text (line ∷ lines)) ≡ length (line_text line) + length (lines_text lines) =
    ap (λ (text : List ℕ). length text) (flat_map-cons line_text line lines) ∙ length-append (line_text line) (lines_text lines) in
    let one : length (line_text line) ≡ length (words_text line) + 1 = length-append (words_text line) (10 ∷ []) ∙ omega arith in
    omega (arith, lines-short lines, parts, one)

-- a leaf takes as many lines in both versions
leaf-many : (shared : Option ℕ) (path : List Bool) (reason : LeafWhy) → length (leaf_lines_in shared (record { path = path; why = reason }))
    ≡ length (leaf_lines (record { path = path; why = reason }))
leaf-many shared path why.Bound = refl
leaf-many shared path why.BadKept = refl
leaf-many shared path (why.Line steps) = omega (arith, length-map steps (step_line_in shared), length-map steps step_line)
leaf-many shared path (why.Box steps) = omega (arith, length-map steps (step_line_in shared), length-map steps step_line)

many-same : {X : Type 0} (f g : X → List Line) → ((x : X) → length (f x) ≡ length (g x)) → (xs : List X) → length (flat_map f xs) ≡ length (flat_map g xs)
many-same f g same [] = refl
many-same f g same (x ∷ xs) =
    omega (
      arith,
      ap length (flat_map-cons f x xs),
      ap length (flat_map-cons g x xs),
      length-append (f x) (flat_map f xs),
      length-append (g x) (flat_map g xs),
      same x,
      many-same f g same xs,
    )

leaves-many : (shared : Option ℕ) (leaves : List Leaf) → length (flat_map (leaf_lines_in shared) leaves) ≡ length (flat_map leaf_lines leaves)
leaves-many shared leaves = many-same (leaf_lines_in shared) leaf_lines (λ (leaf : Leaf). leaf-many shared leaf.path leaf.why) leaves

-- and so does what is said of a record
row-many : (shared : Option ℕ) (outcome : Outcome) (gift : Option GiftFault) → length (row_lines_in shared (record { outcome = outcome; gift = gift }))
    ≡ length (row_lines (record { outcome = outcome; gift = gift }))
row-many shared (outcome.Change path zero cert) None = refl
row-many shared (outcome.Change path (suc w) cert) None = omega (arith, leaves-many shared cert.leaves)
row-many shared (outcome.Change path weight cert) (Some fault) = omega (arith, leaves-many shared cert.leaves)
row-many shared (outcome.Budget path work) gift = refl
row-many shared (outcome.Overflow path event) gift = refl
row-many shared (outcome.Contradictory cert) gift = omega (arith, leaves-many shared cert.leaves)

rows-many : (shared : Option ℕ) (rows : List RowProof) → length (flat_map (row_lines_in shared) rows) ≡ length (flat_map row_lines rows)
rows-many shared rows = many-same (row_lines_in shared) row_lines (λ (row : RowProof). row-many shared row.outcome row.gift) rows

-- the lines of a proof: five that stand alone, the last among them, and those of its parts
pub all-lines : (p : Proof) → length (proof_lines p)
    ≡ 6 + (length (flat_map verdict_lines p.verdicts) + (length (table_lines (has_table p.version) p.table) +
    (length (flat_map row_lines p.rows) + length p.claims)))
all-lines p =
    let verdicts = flat_map verdict_lines p.verdicts in
    let table = table_lines (has_table p.version) p.table in
    let shared = shared_from (has_table p.version) (length p.verdicts) in
    let rows = flat_map (row_lines_in shared) p.rows in
    let claims = map claim_line p.claims in
    let behind_rows = count_line (codes "claims") p.claims ∷ (claims ++ end_line ∷ []) in
    let behind_table = count_line (codes "records") p.rows ∷ (rows ++ behind_rows) in
    let a = length-append verdicts (table ++ behind_table) in
    let t = length-append table behind_table in
    let b = length-append rows behind_rows in
    let c = length-append claims (end_line ∷ []) in
    let d = length-map p.claims claim_line in
    omega (arith, a, t, b, c, d, rows-many shared p.rows)
