-- The lines of a reasons file, one after another.
use Rattle.std.proofs.Common.{◌≡◌, ◌≢◌, ◌∙◌, sym, ap, refl, ℕ, suc, ◌+◌, ◌<◌, List, [], ◌∷◌, ◌++◌, length, Option, Some, None, Result, Ok, Err, All, drop, take}
use Rattle.std.proofs.Common.{get_or, append-nil, add-one}
use Rattle.std.specs.List.{flat_map}
use Rattle.std.specs.Result.{IfErr, IfOk}
use Rattle.std.proofs.lemmas.List.{drop_more, take_more}
use Rattle.std.proofs.lemmas.List.Elements.{All-from_recursion}
use Rattle.std.proofs.lemmas.Grind.{flat_map-append}
use Rattle.edit_model.specs.declared.field.Field.{Field}
use Rattle.record_text.specs.Tables.{IsTable, IsTableFault, TableParts}
use Rattle.record_text.specs.declared.table_fault.TableFault.{TableFault}
use Rattle.record_text.specs.declared.table_fault.TableFault.TheVariants as table_fault
use Rattle.record_text.proofs.TableLaws.{table_rows_as_long_as_header}
use Rattle.reason_lines.specs.inner.TableFaults.{told_of_table}
use Rattle.reason_lines.specs.ReasonFiles.{AreReasons, IsReasonFault, changes_in, first_fault, left_outs_in, lines_fault, reasons_header, said}
use Rattle.reason_lines.specs.ReasonLines.{entry_of, line_fault}
use Rattle.reason_lines.specs.declared.entry.Entry.{Entry}
use Rattle.reason_lines.specs.declared.fault.LineFault.{LineFault}
use Rattle.reason_lines.specs.declared.fault.ReasonFault.{ReasonFault}
use Rattle.reason_lines.specs.declared.fault.ReasonFault.TheVariants.{Header, Line, OutOfMemory, Table}
use Rattle.reason_lines.specs.declared.reading.Reasons.{Reasons}

-- ---- one line more

-- what is said of the lines up to one, and of it
pub list_more : {A : Type 0} (f : List (List ℕ) → List A) (lines : List (List (List ℕ))) (i : ℕ) (texts : List (List ℕ)) (done : List A) → i < length lines
    → texts ≡ get_or lines i texts
    → done ≡ flat_map f (take i lines) → done ++ f texts ≡ flat_map f (take (i + 1) lines)
list_more {A} f lines i texts done below here are =
    let step : take (i + 1) lines ≡ take i lines ++ texts ∷ [] = take_more lines i texts below
    ∙ ap (λ (t : List (List ℕ)). take i lines ++ t ∷ []) (sym here) in
    let parts : flat_map f (take i lines ++ texts ∷ []) ≡ flat_map f (take i lines) ++ f texts = flat_map-append f (take i lines) (texts ∷ [])
    ∙ ap (λ (xs : List A). flat_map f (take i lines) ++ xs) (append-nil (f texts)) in
    rw (are, step) (sym parts)

module _ (fields : List Field) (rows : ℕ) (lines : List (List (List ℕ))) (i : ℕ) (before : Option Entry) (texts : List (List ℕ)) (below : i < length lines)
    (here : texts ≡ get_or lines i texts) where
  -- what is wrong with the lines from one on: what is wrong with it, or with those behind it
  from_here : lines_fault fields rows i before (drop i lines)
      ≡ first_fault i (line_fault fields before (entry_of fields rows texts))
      (lines_fault fields rows (suc i) (said (entry_of fields rows texts)) (drop (i + 1) lines))
  from_here = ap (lines_fault fields rows i before) (drop_more lines i texts below ∙ ap (λ (t : List (List ℕ)). t ∷ drop (i + 1) lines) (sym here))

  -- a line with which nothing is wrong, and one with which something is
  pub faultless_line : (entry : Entry) (fault : Option ReasonFault) → entry_of fields rows texts ≡ Ok entry → line_fault fields before (Ok entry) ≡ None
      → fault ≡ lines_fault fields rows i before (drop i lines) → fault ≡ lines_fault fields rows (i + 1) (Some entry) (drop (i + 1) lines)
  faultless_line entry fault says behind same = same ∙ from_here ∙ rw (says, behind, add-one) refl

  pub faulty_line : (wrong : LineFault) (fault : Option ReasonFault) → line_fault fields before (entry_of fields rows texts) ≡ Some wrong
      → fault ≡ lines_fault fields rows i before (drop i lines) → fault ≡ Some (Line i wrong)
  faulty_line wrong fault found same = same ∙ from_here ∙ rw found refl

-- ---- the faults of a file

-- what is wrong with lines is told of a line
abbrev pub IsOfLine : ReasonFault → Type 0
IsOfLine (Line i wrong) = Unit {0}
IsOfLine _ = ⊥

of_line_by : (i : ℕ) (wrong : Option LineFault) (later : Option ReasonFault) (fault : ReasonFault) → first_fault i wrong later ≡ Some fault
    → (later ≡ Some fault → IsOfLine fault) → IsOfLine fault
of_line_by i (Some wrong) later fault e behind =
    let same : fault ≡ Line i wrong = cc in
    rw same tt
of_line_by i None later fault e behind = behind e

of_line : (fields : List Field) (rows i : ℕ) (before : Option Entry) (lines : List (List (List ℕ))) (fault : ReasonFault)
    → lines_fault fields rows i before lines ≡ Some fault → IsOfLine fault
of_line fields rows i before [] fault e = absurd (cc e)
of_line fields rows i before (texts ∷ lines) fault e =
    of_line_by i (line_fault fields before (entry_of fields rows texts)) (lines_fault fields rows (suc i) (said (entry_of fields rows texts)) lines) fault e
    (of_line fields rows (suc i) (said (entry_of fields rows texts)) lines fault)

module _ (fields : List Field) (rows : ℕ) (bytes : List ℕ) where
  -- the fault of a text that is no table
  pub fault_of_table : (fault : TableFault) (told : ReasonFault) → told ≡ told_of_table fault → (fault ≢ table_fault.OutOfMemory → IsTableFault bytes fault)
      → told ≢ OutOfMemory → IsReasonFault fields rows bytes told
  fault_of_table table_fault.OutOfMemory told same found known = absurd (known same)
  fault_of_table table_fault.NoHeader told same found known = rw same (found (λ e. absurd (cc e)))
  fault_of_table table_fault.TooManyRows told same found known = rw same (found (λ e. absurd (cc e)))
  fault_of_table (table_fault.RowLength row_no) told same found known = rw same (found (λ e. absurd (cc e)))

  module _ (table : TableParts) (given : IsTable bytes table) (header : table.header ≡ reasons_header) where
    -- the fault of its lines
    pub fault_of_lines : (fault : ReasonFault) → lines_fault fields rows 0 None table.rows ≡ Some fault → IsReasonFault fields rows bytes fault
    fault_of_lines (Line i wrong) e = (table, given, header, e)
    fault_of_lines (Table f) e = absurd (of_line fields rows 0 None table.rows (Table f) e)
    fault_of_lines Header e = absurd (of_line fields rows 0 None table.rows Header e)
    fault_of_lines OutOfMemory e = absurd (of_line fields rows 0 None table.rows OutOfMemory e)

    -- each line has seven texts
    pub lines_of_seven : All (λ texts. length texts ≡ 7) table.rows
    lines_of_seven = rw header at (All-from_recursion (λ (texts : List (List ℕ)). length texts ≡ length table.header) table.rows
        (table_rows_as_long_as_header bytes table given))

    -- so what is said of its lines is said of the file
    pub exact_by_lines : (r : Result Reasons ReasonFault) → IfOk r (λ reasons. lines_fault fields rows 0 None table.rows ≡ None)
        → IfOk r (λ reasons. reasons.changes ≡ changes_in fields rows table.rows)
        → IfOk r (λ reasons. reasons.left_out ≡ left_outs_in fields rows table.rows)
        → IfOk r (λ reasons. AreReasons fields rows bytes reasons)
    exact_by_lines (Ok reasons) faultless changes left_out = record
        { table = table; given = given; header = header; faultless = faultless; changes = changes; left_out = left_out }
    exact_by_lines (Err e) faultless changes left_out = tt

    pub fault_by_lines : (r : Result Reasons ReasonFault) → IfErr r (λ e. e ≢ OutOfMemory → lines_fault fields rows 0 None table.rows ≡ Some e)
        → IfErr r (λ e. e ≢ OutOfMemory → IsReasonFault fields rows bytes e)
    fault_by_lines (Ok reasons) found = tt
    fault_by_lines (Err e) found = λ known. fault_of_lines e (found known)
