-- A fault of a record file that names a field names one of the survey's.
use Rattle.std.proofs.Common.{◌≡◌, ◌≢◌, ◌<◌, ◌≤◌, ◌+◌, ℕ, suc, Bool, true, false, List, [], ◌∷◌, Option, Some, None, arith, length, nat_lt, subst}
use Rattle.std.specs.Prelude.{if◌then◌else◌, ◌==◌}
use Rattle.std.specs.Option.{option_or}
use Rattle.run_parts.specs.Refused.{IsOfFields}
use Rattle.edit_model.specs.declared.field.Field.{Field}
use Rattle.record_text.specs.Columns.{columns_of}
use Rattle.record_text.specs.Faults.{column_fault, field_fault, row_fault, sheet_fault}
use Rattle.record_text.specs.Sheets.{IsSheetFault}
use Rattle.record_text.specs.Trimming.{header_of}
use Rattle.record_text.specs.declared.fault.SheetFault.{SheetFault}
use Rattle.record_text.specs.declared.fault.SheetFault.TheVariants as sheet

-- the fault is of no field, or of one whose number is below this
abbrev IsBelow : ℕ → SheetFault → Type 0
IsBelow bound (sheet.NoColumn number) = number < bound
IsBelow bound (sheet.DoubleColumn number) = number < bound
IsBelow bound fault = Unit {0}

either : (a b : Option SheetFault) (fault : SheetFault) (P : Type 0) → (a ≡ Some fault → P) → (b ≡ Some fault → P) → option_or a b ≡ Some fault → P
either None b fault P f g e = g e
either (Some x) b fault P f g e = f e

field_below : (columns : List ℕ) (i bound : ℕ) (fault : SheetFault) → i < bound → field_fault i columns ≡ Some fault → IsBelow bound fault
field_below [] i bound fault h e = let same : sheet.NoColumn i ≡ fault = cc in subst (IsBelow bound) same h
field_below (column ∷ []) i bound fault h e = cc
field_below (column ∷ second ∷ more) i bound fault h e = let same : sheet.DoubleColumn i ≡ fault = cc in subst (IsBelow bound) same h

column_below : (i bound : ℕ) (fields : List Field) (header : List (List ℕ)) (fault : SheetFault) → i + length fields ≤ bound → column_fault i fields header
    ≡ Some fault → IsBelow bound fault
column_below i bound [] header fault h e = cc
column_below i bound (field ∷ fields) header fault h e =
    either (field_fault i (columns_of field.name header)) (column_fault (suc i) fields header) fault (IsBelow bound fault)
    (field_below (columns_of field.name header) i bound fault (omega arith))
    (column_below (suc i) bound fields header fault (omega arith)) e

row_step : (many same : Bool) (i bound : ℕ) (rest : Option SheetFault) (fault : SheetFault) → (rest ≡ Some fault → IsBelow bound fault)
    → (if many then Some sheet.TooManyRows else if same then rest else Some (sheet.RowLength i)) ≡ Some fault → IsBelow bound fault
row_step true same i bound rest fault f e = let same : sheet.TooManyRows ≡ fault = cc in subst (IsBelow bound) same tt
row_step false true i bound rest fault f e = f e
row_step false false i bound rest fault f e = let same : sheet.RowLength i ≡ fault = cc in subst (IsBelow bound) same tt

row_below : (i width bound : ℕ) (row_texts : List (List (List ℕ))) (fault : SheetFault) → row_fault i width row_texts ≡ Some fault → IsBelow bound fault
row_below i width bound [] fault e = cc
row_below i width bound (raw ∷ row_texts) fault e = row_step (i == 200000) (length raw == width) i bound (row_fault (suc i) width row_texts) fault
    (row_below (suc i) width bound row_texts fault) e

wide_step : (wide : Bool) (bound : ℕ) (rest : Option SheetFault) (fault : SheetFault) → (rest ≡ Some fault → IsBelow bound fault)
    → (if wide then Some sheet.TooManyColumns else rest) ≡ Some fault → IsBelow bound fault
wide_step true bound rest fault f e = let same : sheet.TooManyColumns ≡ fault = cc in subst (IsBelow bound) same tt
wide_step false bound rest fault f e = f e

sheet_below : (fields : List Field) (records : List (List (List ℕ))) (fault : SheetFault) → sheet_fault fields records ≡ Some fault
    → IsBelow (length fields) fault
sheet_below fields [] fault e = let same : sheet.NoHeader ≡ fault = cc in subst (IsBelow (length fields)) same tt
sheet_below fields (first ∷ row_texts) fault e =
    wide_step (nat_lt 256 (length first)) (length fields) (option_or (column_fault 0 fields (header_of first)) (row_fault 0 (length first) row_texts)) fault
    (either (column_fault 0 fields (header_of first)) (row_fault 0 (length first) row_texts) fault (IsBelow (length fields) fault)
    (column_below 0 (length fields) fields (header_of first) fault (omega arith)) (row_below 0 (length first) (length fields) row_texts fault)) e

of_fields : (fields : List Field) (fault : SheetFault) → IsBelow (length fields) fault → IsOfFields fields fault
of_fields fields sheet.NoHeader h = tt
of_fields fields sheet.TooManyColumns h = tt
of_fields fields (sheet.NoColumn number) h = h
of_fields fields (sheet.DoubleColumn number) h = h
of_fields fields sheet.TooManyRows h = tt
of_fields fields (sheet.RowLength row_no) h = tt
of_fields fields sheet.OutOfMemory h = tt

-- what the reading of the records answers names no other field
pub fault_of_fields : (fields : List Field) (bytes : List ℕ) (fault : SheetFault) → (fault ≢ sheet.OutOfMemory → IsSheetFault fields bytes fault)
    → IsOfFields fields fault
fault_of_fields fields bytes sheet.NoHeader h = tt
fault_of_fields fields bytes sheet.TooManyColumns h = tt
fault_of_fields fields bytes (sheet.NoColumn number) h = let found : IsSheetFault fields bytes (sheet.NoColumn number) = h (λ e. cc e) in
    of_fields fields (sheet.NoColumn number) (sheet_below fields found.records _ found.found)
fault_of_fields fields bytes (sheet.DoubleColumn number) h = let found : IsSheetFault fields bytes (sheet.DoubleColumn number) = h (λ e. cc e) in
    of_fields fields (sheet.DoubleColumn number) (sheet_below fields found.records _ found.found)
fault_of_fields fields bytes sheet.TooManyRows h = tt
fault_of_fields fields bytes (sheet.RowLength row_no) h = tt
fault_of_fields fields bytes sheet.OutOfMemory h = tt
