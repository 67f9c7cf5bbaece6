-- The text of one row.
use Rattle.std.specs.Prelude.{◌≡◌, ℕ, List}
use Rattle.bound_cert.specs.declared.outcome.RowProof.{RowProof}
use Rattle.proof_grammar.specs.Limits.{IsRowProof}
use Rattle.proof_grammar.specs.ProofLines.{lines_text, row_lines}

-- the lines of a row, of a proof file without a table
abbrev pub row_text : RowProof → List ℕ
row_text row = lines_text (row_lines row)

-- no other plain row has this text
abbrev pub IsOnlyRow : List ℕ → RowProof → Type 0
IsOnlyRow text row = (other : RowProof) → IsRowProof other → text ≡ row_text other → other ≡ row
