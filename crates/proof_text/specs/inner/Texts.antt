use Rattle.std.specs.Prelude.{ℕ, ℤ, List, [], ◌∷◌, ◌++◌, Bool, Option, codes, length}
use Rattle.std.specs.Fmt.{decimal, signed_decimal}
use Rattle.std.specs.List.{flat_map}
use Rattle.derivation.specs.declared.step.Step.{Step}
use Rattle.bound_cert.specs.declared.cert.Leaf.{Leaf}
use Rattle.donor_book.specs.declared.claim.Entry.{Entry}
use Rattle.bound_cert.specs.declared.outcome.GiftFault.{GiftFault}
use Rattle.proof_grammar.specs.declared.proof.Proof.{Proof}
use Rattle.bound_cert.specs.declared.outcome.RowProof.{RowProof}
use Rattle.bound_cert.specs.Paths.{named, path_text}
use Rattle.proof_grammar.specs.ProofLines.{Line, claim_line, count_line, gift_words, has_table, limits_words, line_text, lines_text}
use Rattle.proof_grammar.specs.ProofLines.{row_lines_in, shared_from, table_lines, verdict_lines, version_line, with_leaves_in}

-- The texts of the parts of a proof. Private contracts alone cite this page.

-- the line of the limits
abbrev pub limits_text : Proof → List ℕ
limits_text p = line_text (limits_words p.limit p.near p.budget)

-- the lines of a verdict
abbrev pub verdict_text : Option (List Step) → List ℕ
verdict_text verdict = lines_text (verdict_lines verdict)

-- the count of the verdicts, and their lines
abbrev pub verdicts_text : List (Option (List Step)) → List ℕ
verdicts_text verdicts = line_text (count_line (codes "lines") verdicts) ++ flat_map verdict_text verdicts

-- the first line
abbrev pub version_text : ℕ → List ℕ
version_text version = line_text (version_line version)

-- the count of the steps of the table, and their lines, where there is one
abbrev pub table_text : Bool → List Step → List ℕ
table_text there table = lines_text (table_lines there table)

-- the count of the rows, and their lines
abbrev pub rows_text : Option ℕ → List RowProof → List ℕ
rows_text shared rows =
    line_text (count_line (codes "records") rows) ++ flat_map (λ (row : RowProof). lines_text (row_lines_in shared row)) rows

-- the rows of a proof
abbrev pub rows_of : Proof → List ℕ
rows_of p = rows_text (shared_from (has_table p.version) (length p.verdicts)) p.rows

-- the count of the claims, and their lines
abbrev pub claims_text : List Entry → List ℕ
claims_text claims = line_text (count_line (codes "claims") claims) ++ flat_map (λ (claim : Entry). line_text (claim_line claim)) claims

-- a change with a number that left the range while values were given
abbrev pub gift_text : Option ℕ → List Bool → ℕ → GiftFault → List Leaf → List ℕ
gift_text shared path weight fault leaves =
    lines_text (with_leaves_in shared (codes "gift" ∷ decimal weight ∷ path_text path ∷ gift_words fault) leaves)

-- all lines of a proof
abbrev pub parts_text : Proof → List ℕ
parts_text p =
    version_text p.version ++ (limits_text p ++ (verdicts_text p.verdicts
    ++ (table_text (has_table p.version) p.table ++ (rows_of p ++ (claims_text p.claims ++ codes "end\n")))))

-- words that end with a count, and the lines behind them
abbrev pub counted_text : ℕ → List Line → List ℕ
counted_text n lines = (32 ∷ decimal n) ++ (10 ∷ lines_text lines)

-- the words of a combination
abbrev pub combine_line : ℕ → ℤ → ℕ → ℤ → ℤ → Line
combine_line a m b n g = codes "combine" ∷ named a ∷ signed_decimal m ∷ named b ∷ signed_decimal n ∷ signed_decimal g ∷ []
