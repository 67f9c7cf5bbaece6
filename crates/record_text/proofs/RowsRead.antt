-- The records of a table's rows, read one after another.
use Rattle.std.proofs.Common.{Bor, ◌≡◌, refl, ℕ, ◌<◌, true, false, List, [], ◌∷◌, ◌++◌, length, Some, None, append_assoc}
use Rattle.csv.specs.Reading.{AreRecords, Reached, default_config}
use Rattle.csv.specs.declared.reader.Reader.{Reader}
use Rattle.csv.proofs.ReadFacts.{reached-more}
use Rattle.record_text.specs.inner.Places.{IsAt, IsTextsFault, Place, Reads}
use Rattle.record_text.specs.Tables.{rows_fault}
use Rattle.record_text.specs.declared.table_fault.TableFault.{TableFault}
use Rattle.record_text.specs.declared.table_fault.TableFault.TheVariants.{RowLength, TooManyRows}
use Rattle.record_text.proofs.AllRecords.{has_records, records_joined}
use Rattle.record_text.proofs.FaultLaws.{faultless_more, faulty_count, faulty_length}

-- what was read from the place where a reader stood first up to where it stands now, with nothing wrong so far
pub record IsReadTo (most width : ℕ) (first now : Reader (Bor (List ℕ))) (row_texts : List (List (List ℕ))) : Type 0 where
  pub reached : (start : Place) → IsAt first start → (here : Place) × IsAt now here
      × Reached default_config start.state start.left row_texts here.state here.left
  pub faultless : rows_fault most width 0 row_texts ≡ None

-- nothing yet, one row more, and all rows
pub read_none : (most width : ℕ) (first : Reader (Bor (List ℕ))) → IsReadTo most width first first []
unfolding Reached
read_none most width first = record { reached = λ start at. (start, at, (refl, refl)); faultless = refl }

module _ (most width : ℕ) (first now next : Reader (Bor (List ℕ))) (row_texts : List (List (List ℕ))) (texts : List (List ℕ))
    (read : IsReadTo most width first now row_texts) where
  pub read_more : ((here : Place) → IsAt now here → Reads here true texts next) → length row_texts < most → length texts ≡ width
      → IsReadTo most width first next (row_texts ++ texts ∷ [])
  read_more reads few same = record {
    reached = λ start at.
        let (here, standing, reached) = read.reached start at in
        let (there, behind, next) = reads here standing in
        (there, behind, reached-more default_config start.state here.state start.left here.left row_texts (texts, there.state, there.left) reached next);
    faultless = faultless_more most width row_texts texts read.faultless few same;
  }

  pub read_all : ((here : Place) → IsAt now here → Reads here false texts next) → (start : Place) → IsAt first start
      → AreRecords default_config start.state start.left row_texts
  read_all reads start at =
      let (here, standing, reached) = read.reached start at in
      (here.state, here.left, reached, reads here standing)

  -- a record that is faulty, whatever follows it
  faulty : (fault : TableFault) → ((here : Place) → IsAt now here → Reads here true texts next)
      → ((rest : List (List (List ℕ))) → rows_fault most width 0 (row_texts ++ texts ∷ rest) ≡ Some fault)
      → (start : Place) → IsAt first start → IsTextsFault most width start fault
  faulty fault reads found start at =
      let (here, standing, reached) = read.reached start at in
      let (there, behind, next) = reads here standing in
      let more = reached-more default_config start.state here.state start.left here.left row_texts (texts, there.state, there.left) reached next in
      let (rest, further) = has_records default_config there.state there.left in
      let all : AreRecords default_config start.state start.left ((row_texts ++ texts ∷ []) ++ rest) =
      records_joined default_config start.state there.state start.left there.left (row_texts ++ texts ∷ []) rest more further in
      record { row_texts = row_texts ++ texts ∷ rest; records = rw (append_assoc row_texts (texts ∷ []) rest) at all; found = found rest }

  pub faulty_row : (n : ℕ) → ((here : Place) → IsAt now here → Reads here true texts next) → length row_texts ≡ n → n < most → ¬ (length texts ≡ width)
      → (start : Place) → IsAt first start → IsTextsFault most width start (RowLength n)
  faulty_row n reads count few other = faulty (RowLength n) reads (λ rest. faulty_length most width n row_texts rest texts read.faultless count few other)

  pub row_too_many : ((here : Place) → IsAt now here → Reads here true texts next) → length row_texts ≡ most → (start : Place) → IsAt first start
      → IsTextsFault most width start TooManyRows
  row_too_many reads full = faulty TooManyRows reads (λ rest. faulty_count most width row_texts rest texts read.faultless full)
