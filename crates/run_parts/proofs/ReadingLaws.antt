-- What a file of records that was fetched reads as, and why it is refused where it was not read.
use Rattle.std.proofs.Common.{◌≡◌, ◌≢◌, ◌⊎◌, ℕ, List, Option, Some, None, Result, Ok, Err, IfErr, IfOk, inl, inr, refl, subst, sym}
use Rattle.edit_model.specs.declared.field.Field.{Field}
use Rattle.record_text.specs.Sheets.{IsSheet, IsSheetFault, SheetParts}
use Rattle.record_text.specs.declared.fault.SheetFault.{SheetFault}
use Rattle.record_text.specs.declared.fault.SheetFault.TheVariants as sheet
use Rattle.edit_desk.specs.Desk.{Files}
use Rattle.run_parts.specs.Faults.{records_fault_of, refusal_by}
use Rattle.run_parts.specs.Limits.{most_bytes}
use Rattle.run_parts.specs.Parts.{TellsUnread}
use Rattle.run_parts.specs.Readings.{AreNoRecords, HoldsBytes, HoldsRecords, ReadsAsSheet}
use Rattle.run_parts.specs.declared.fault.Fault.{Fault}
use Rattle.run_parts.specs.declared.fault.Fault.TheVariants as fault
use Rattle.run_parts.specs.declared.fault.RecordsFault.{RecordsFault}
use Rattle.run_parts.proofs.HeldLaws.{holds}

-- where something is said to be wrong, it is not want of memory
something : (fields : List Field) (told : SheetFault) (what : RecordsFault) → records_fault_of fields told ≡ Some what → told ≢ sheet.OutOfMemory
something fields told what same memory =
    let nothing : None ≡ Some what = subst (λ (t : SheetFault). records_fault_of fields t ≡ Some what) memory same in cc

module _ (files : Option Files) (name bytes : List ℕ) (fields : List Field) (held : HoldsBytes files name most_bytes bytes) where
  -- the sheet that was read is the file's
  pub sheet-held : (found : Result SheetParts SheetFault) → IfOk found (λ s. IsSheet fields bytes s)
      → IfOk found (λ s. (other : SheetParts) → IsSheet fields bytes other → other ≡ s) → IfOk found (λ s. HoldsRecords files name fields s)
  sheet-held (Ok s) is only =
      holds (λ text. ReadsAsSheet fields text s) files name most_bytes bytes held (record { read = is; only = only })
  sheet-held (Err told) is only = tt

  -- or what is wrong with the bytes is wrong with the file
  pub unread-held : (found : Result SheetParts SheetFault) → IfErr found (λ told. told ≢ sheet.OutOfMemory → IsSheetFault fields bytes told)
      → IfErr found (λ told. told ≢ sheet.OutOfMemory → (s : SheetParts) → ¬ IsSheet fields bytes s)
      → IfErr found (TellsUnread name fields files)
  unread-held (Ok s) is none = tt
  unread-held (Err told) is none = λ what same.
      let by_fault = something fields told what same in
      holds (AreNoRecords fields what) files name most_bytes bytes held
      (record { unread = none by_fault; found = told; first = is by_fault; told = same })

-- what is so of the refusals for all that may be wrong, and of want of memory, is so of the refusal for this
pub so-refused : (refuse : RecordsFault → Fault) (o : Option RecordsFault) (f : Fault) → (f ≡ refusal_by refuse o) ⊎ (f ≡ fault.OutOfMemory)
    → (Q : Fault → Type 0) → ((what : RecordsFault) → o ≡ Some what → Q (refuse what)) → Q fault.OutOfMemory → Q f
so-refused refuse None f (inl same) Q each memory = subst Q (sym same) memory
so-refused refuse (Some what) f (inl same) Q each memory = subst Q (sym same) (each what refl)
so-refused refuse o f (inr same) Q each memory = subst Q (sym same) memory
