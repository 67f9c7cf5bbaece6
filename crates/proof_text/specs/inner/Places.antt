-- Where rows stand. Private contracts alone cite this page.
use Rattle.std.specs.Prelude.{◌≡◌, ℕ, List, Option, Ok, Err}
use Rattle.bound_cert.specs.declared.outcome.GiftFault.{GiftFault}
use Rattle.bound_cert.specs.declared.outcome.RowProof.{RowProof}
use Rattle.proof_grammar.specs.ProofLines.{Line}
use Rattle.proof_grammar.specs.inner.Readings.{Reading}
use Rattle.proof_grammar.specs.inner.RowReading.{clean_proof, row_reading}
use Rattle.proof_text.specs.Changes.{change_weight}

-- the row that was read; where none can be, a clean one
abbrev pub row_read : Reading Line RowProof → RowProof
row_read (Ok (row, rest)) = row
row_read (Err left) = clean_proof

-- the row at the front of the lines, where those of a table stand behind this many given ones, if there is a table
abbrev pub row_at : Option ℕ → List Line → RowProof
row_at shared lines = row_read (row_reading shared lines)

-- a row is at the front, with a change of this weight, if it has one, and this fault of its gift
pub record BeginsRow (shared : Option ℕ) (lines : List Line) (weight : Option ℕ) (gift : Option GiftFault) : Type 0 where
  pub rest : List Line
  pub there : row_reading shared lines ≡ Ok (row_at shared lines, rest)
  pub weighs : weight ≡ change_weight (row_at shared lines).outcome
  pub given : gift ≡ (row_at shared lines).gift
