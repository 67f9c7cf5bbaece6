-- The first record of a text, and those behind it.
use Rattle.std.proofs.Common.{◌≡◌, ◌≢◌, refl, Bor, ℕ, List, [], ◌∷◌, Some, None, Result, Ok, Err}
use Rattle.std.specs.Prelude.{IfErr, IfOk}
use Rattle.csv.specs.Machine.{next_record}
use Rattle.csv.specs.Reading.{AreRecords, Reached, default_config, strip_bom}
use Rattle.csv.specs.declared.parser.State.TheVariants as st
use Rattle.csv.specs.declared.reader.Reader.{Reader}
use Rattle.record_text.specs.inner.Places.{IsAt, Place, start_of}
use Rattle.record_text.specs.Sheets.{AreRecordsOf}

-- bytes without a record
pub no_records : (bytes : List ℕ) → next_record default_config st.StartRecord [] [] (strip_bom (strip_bom bytes)) ≡ None → AreRecordsOf bytes []
unfolding Reached
no_records bytes none = (st.StartRecord, strip_bom (strip_bom bytes), (refl, refl), none)

-- the first record and those behind it are all records
pub all_records : (bytes : List ℕ) (texts : List (List ℕ)) (there : Place)
    → next_record default_config st.StartRecord [] [] (strip_bom (strip_bom bytes)) ≡ Some (texts, there.state, there.left)
    → (rest : List (List (List ℕ))) → AreRecords default_config there.state there.left rest → AreRecordsOf bytes (texts ∷ rest)
unfolding Reached
all_records bytes texts there begins rest (t, ys, reached, ended) = (t, ys, ((texts, there.state, there.left), begins, refl, reached), ended)

-- what is read by a reader that stands before the first record is read of the bytes
module _ {T E : Type 0} (bytes : List ℕ) (reader : Reader (Bor (List ℕ))) (opened : IsAt reader (start_of bytes)) where
  pub read_of_bytes : (r : Result T E) (P : List ℕ → T → Type 0)
      → IfOk r (λ read. (text : List ℕ) → IsAt reader (start_of text) → P text read) → IfOk r (P bytes)
  read_of_bytes (Ok read) P is = is bytes opened
  read_of_bytes (Err fault) P is = tt

  pub fault_of_bytes : (r : Result T E) (refused : E) (P : List ℕ → E → Type 0)
      → IfErr r (λ e. e ≢ refused → (text : List ℕ) → IsAt reader (start_of text) → P text e) → IfErr r (λ e. e ≢ refused → P bytes e)
  fault_of_bytes (Ok read) refused P is = tt
  fault_of_bytes (Err fault) refused P is = λ other. is other bytes opened
