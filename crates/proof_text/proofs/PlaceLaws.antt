use Rattle.std.proofs.Common.{◌≡◌, ℕ, List, Option, Ok, sym, ap, ◌∙◌}
use Rattle.bound_cert.specs.declared.outcome.GiftFault.{GiftFault}
use Rattle.bound_cert.specs.declared.outcome.RowProof.{RowProof}
use Rattle.proof_grammar.specs.ProofLines.{Line}
use Rattle.proof_grammar.specs.LinesLeft.{LinesLeft}
use Rattle.proof_grammar.specs.inner.Readings.{Reading, Reads}
use Rattle.proof_grammar.specs.inner.RowReading.{row_reading}
use Rattle.proof_text.specs.Changes.{change_weight}
use Rattle.proof_text.specs.inner.Places.{BeginsRow, row_at, row_read}

-- What is read at the place of a row.

-- the row that was read is the one at the front
row-is : (shared : Option ℕ) (lines rest : List Line) (row : RowProof) → row_reading shared lines ≡ Ok (row, rest) → row_at shared lines ≡ row
row-is shared lines rest row is = ap (λ (r : Reading Line RowProof). row_read r) is

-- a row is read at its place each time
pub row-again : (shared : Option ℕ) (place begun now : LinesLeft) (row told : RowProof) → begun ≡ place
    → Reads (Ok row) begun now (row_reading shared begun.left) → row_at shared place.left ≡ told → row ≡ told
row-again shared place begun now row told same (is, all) view =
    sym (row-is shared begun.left now.left row is) ∙ ap (λ (l : LinesLeft). row_at shared l.left) same ∙ view

module _ (shared : Option ℕ) (begun old now : LinesLeft) (row : RowProof) (same : begun ≡ old)
    (reads : Reads (Ok row) old now (row_reading shared old.left)) where
  there : row_at shared begun.left ≡ row
  there = ap (λ (l : LinesLeft). row_at shared l.left) same ∙ row-is shared old.left now.left row reads.0

  -- the row of the place that is noted is the one that was read
  pub place-reads : Reads (Ok (row_at shared begun.left)) old now (row_reading shared old.left)
  place-reads = (reads.0 ∙ ap (λ (r : RowProof). Ok (r, now.left)) (sym there), reads.1)

  -- it stands there
  pub place-begins : (weight : Option ℕ) (gift : Option GiftFault) → weight ≡ change_weight row.outcome → gift ≡ row.gift
      → BeginsRow shared begun.left weight gift
  place-begins weight gift weighs given = record {
    rest = now.left;
    there = ap (λ (l : LinesLeft). row_reading shared l.left) same ∙ place-reads.0;
    weighs = weighs ∙ ap (λ (r : RowProof). change_weight r.outcome) (sym there);
    given = given ∙ ap (λ (r : RowProof). r.gift) (sym there);
  }
