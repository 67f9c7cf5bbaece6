-- What a table, and a fault of one, say: there is one of them, and callers may rely on what follows here.
use Rattle.std.proofs.Common.{◌≡◌, ◌≢◌, ◌∙◌, sym, ap, ℕ, List, ◌∷◌, length, Some, Result, Ok, Err}
use Rattle.std.specs.Result.{IfErr, IfOk}
use Rattle.std.specs.List.{AllByRecursion}
use Rattle.record_text.specs.Tables.{IsTable, IsTableFault, TableParts, most_table_rows, table_fault}
use Rattle.record_text.specs.declared.table_fault.TableFault.{TableFault}
use Rattle.record_text.specs.declared.table_fault.TableFault.TheVariants.{OutOfMemory}
use Rattle.record_text.proofs.FaultLaws.{faultless_equally_long}
use Rattle.record_text.proofs.HeaderLaws.{header_length}
use Rattle.record_text.proofs.SheetLaws.{records_of}

-- ---- one answer

-- bytes have one fault
pub same_table_fault : (bytes : List ℕ) (a b : TableFault) → IsTableFault bytes a → IsTableFault bytes b → a ≡ b
same_table_fault bytes a b is other =
    let records = records_of bytes is.records other.records is.given other.given in
    let found : table_fault other.records ≡ Some a = ap table_fault records ∙ is.found in
    cc (found, other.found)

-- bytes with a fault have no table
pub table_excludes_fault : (bytes : List ℕ) (table : TableParts) (fault : TableFault) → IsTable bytes table → ¬ IsTableFault bytes fault
table_excludes_fault bytes table fault is other =
    let records = records_of bytes (is.first ∷ table.rows) other.records is.given other.given in
    let found : table_fault (is.first ∷ table.rows) ≡ Some fault = ap table_fault (sym records) ∙ other.found in
    cc (found, is.faultless)

-- bytes have one table
same_parts : (a b : TableParts) → a.header ≡ b.header → a.rows ≡ b.rows → a ≡ b
same_parts a b header rows =
    ap (λ (h : List (List ℕ)). record { header = h; rows = a.rows }) header ∙ ap (λ (rs : List (List (List ℕ))). record { header = b.header; rows = rs }) rows

pub same_table : (bytes : List ℕ) (a b : TableParts) → IsTable bytes a → IsTable bytes b → a ≡ b
same_table bytes a b is other =
    let records = records_of bytes (other.first ∷ b.rows) (is.first ∷ a.rows) other.given is.given in
    let first : is.first ≡ other.first = cc records in
    let rows : a.rows ≡ b.rows = cc records in
    let header : a.header ≡ b.header = cc (is.header, other.header, first) in
    same_parts a b header rows

-- so what is answered is the only answer
pub only_by_table : (bytes : List ℕ) (r : Result TableParts TableFault) → IfOk r (λ table. IsTable bytes table)
    → IfOk r (λ table. (other : TableParts) → IsTable bytes other → other ≡ table)
only_by_table bytes (Ok table) is = λ other also. same_table bytes other table also is
only_by_table bytes (Err e) is = tt

module _ {T : Type 0} (bytes : List ℕ) where
  pub first_by_table_fault : (r : Result T TableFault) → IfErr r (λ e. e ≢ OutOfMemory → IsTableFault bytes e)
      → IfErr r (λ e. e ≢ OutOfMemory → (other : TableFault) → IsTableFault bytes other → other ≡ e)
  first_by_table_fault (Ok t) found = tt
  first_by_table_fault (Err e) found = λ known other also. same_table_fault bytes other e also (found known)

  pub unread_by_table_fault : (r : Result T TableFault) → IfErr r (λ e. e ≢ OutOfMemory → IsTableFault bytes e)
      → IfErr r (λ e. e ≢ OutOfMemory → (table : TableParts) → ¬ IsTable bytes table)
  unread_by_table_fault (Ok t) found = tt
  unread_by_table_fault (Err e) found = λ known table is. table_excludes_fault bytes table e is (found known)

-- ---- what a table is like

-- each row has as many texts as the header
pub table_rows_as_long_as_header : (bytes : List ℕ) (table : TableParts) → IsTable bytes table
    → AllByRecursion (λ texts. length texts ≡ length table.header) table.rows
table_rows_as_long_as_header bytes table is =
    let width : length table.header ≡ length is.first = ap (λ (texts : List (List ℕ)). length texts) is.header ∙ header_length is.first in
    rw width (faultless_equally_long most_table_rows (length is.first) 0 table.rows is.faultless)
