-- What a reasons file says: the changes of fields, and the records that were left out, in the order of its lines.
use Rattle.std.specs.Prelude.{◌≡◌, ◌≢◌, ℕ, suc, List, [], ◌∷◌, Option, None, Some, Result, Ok, Err, codes, flat_map}
use Rattle.edit_model.specs.declared.field.Field.{Field}
use Rattle.record_text.specs.Tables.{IsTable, IsTableFault, TableParts}
use Rattle.reason_lines.specs.ReasonLines.{entry_of, line_fault}
use Rattle.reason_lines.specs.declared.entry.Change.{Change}
use Rattle.reason_lines.specs.declared.entry.Entry.{Entry}
use Rattle.reason_lines.specs.declared.entry.Entry.TheVariants as entry
use Rattle.reason_lines.specs.declared.entry.LeftOut.{LeftOut}
use Rattle.reason_lines.specs.declared.fault.LineFault.{LineFault}
use Rattle.reason_lines.specs.declared.fault.ReasonFault.{ReasonFault}
use Rattle.reason_lines.specs.declared.fault.ReasonFault.TheVariants.{Header, Line, OutOfMemory, Table}
use Rattle.reason_lines.specs.declared.reading.Reasons.{Reasons}

-- what the columns hold
abbrev pub reasons_header : List (List ℕ)
reasons_header = codes "record" ∷ codes "cause" ∷ codes "field" ∷ codes "before" ∷ codes "after" ∷ codes "donor" ∷ codes "detail" ∷ []

-- the change that a line says, as a list of one; and so the record left out. The list is empty where the line says no such thing
abbrev pub change_in : Result Entry LineFault → List Change
change_in (Ok (entry.Changed change)) = change ∷ []
change_in _ = []

abbrev pub left_out_in : Result Entry LineFault → List LeftOut
left_out_in (Ok (entry.LeftOut left_out)) = left_out ∷ []
left_out_in _ = []

-- the changes that lines say of so many records, in order; and so the records left out
abbrev pub changes_in : List Field → ℕ → List (List (List ℕ)) → List Change
changes_in fields rows lines = flat_map (λ texts. change_in (entry_of fields rows texts)) lines

abbrev pub left_outs_in : List Field → ℕ → List (List (List ℕ)) → List LeftOut
left_outs_in fields rows lines = flat_map (λ texts. left_out_in (entry_of fields rows texts)) lines

-- what a line says, where nothing is wrong with it by itself
abbrev pub said : Result Entry LineFault → Option Entry
said (Ok entry) = Some entry
said (Err fault) = None

-- the first of what is wrong with lines: with the line of number i, or else with a later one
abbrev pub first_fault : ℕ → Option LineFault → Option ReasonFault → Option ReasonFault
first_fault i (Some fault) later = Some (Line i fault)
first_fault i None later = later

-- the same of lines from number i on, each behind the one before it
abbrev pub lines_fault : List Field → ℕ → ℕ → Option Entry → List (List (List ℕ)) → Option ReasonFault
lines_fault fields rows i before [] = None
lines_fault fields rows i before (texts ∷ lines) =
    first_fault i (line_fault fields before (entry_of fields rows texts))
    (lines_fault fields rows (suc i) (said (entry_of fields rows texts)) lines)

-- the bytes are a reasons file for these fields and so many records, and these are its reasons
pub record AreReasons (fields : List Field) (rows : ℕ) (bytes : List ℕ) (reasons : Reasons) : Type 0 where
  pub table : TableParts
  pub given : IsTable bytes table
  pub header : table.header ≡ reasons_header
  pub faultless : lines_fault fields rows 0 None table.rows ≡ None
  pub changes : reasons.changes ≡ changes_in fields rows table.rows
  pub left_out : reasons.left_out ≡ left_outs_in fields rows table.rows

-- the first of what is wrong with the bytes: they are no table, its header is another, a line is wrong
abbrev pub IsReasonFault : List Field → ℕ → List ℕ → ReasonFault → Type 0
IsReasonFault fields rows bytes (Table fault) = IsTableFault bytes fault
IsReasonFault fields rows bytes Header = (table : TableParts) × IsTable bytes table × (table.header ≢ reasons_header)
IsReasonFault fields rows bytes (Line line fault) = (table : TableParts)
    × IsTable bytes table × (table.header ≡ reasons_header) × (lines_fault fields rows 0 None table.rows ≡ Some (Line line fault))
IsReasonFault fields rows bytes OutOfMemory = ⊥
