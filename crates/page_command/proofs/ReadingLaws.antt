-- What a released file or reasons are refused for, once they were fetched.
use Rattle.std.proofs.Common.{◌≡◌, ◌≢◌, ◌∙◌, ℕ, List, [], ◌∷◌, Option, Err, subst, sym}
use Rattle.edit_desk.specs.Desk.{Asked, Files, PutsOnRecord, fetched}
use Rattle.edit_model.specs.declared.field.Field.{Field}
use Rattle.record_text.specs.Sheets.{IsSheet, IsSheetFault, SheetParts}
use Rattle.record_text.specs.declared.fault.SheetFault.{SheetFault}
use Rattle.record_text.specs.declared.fault.SheetFault.TheVariants as sheet
use Rattle.reason_lines.specs.ReasonFiles.{AreReasons, IsReasonFault}
use Rattle.reason_lines.specs.declared.fault.ReasonFault.{ReasonFault}
use Rattle.reason_lines.specs.declared.fault.ReasonFault.TheVariants as reason
use Rattle.reason_lines.specs.declared.reading.Reasons.{Reasons}
use Rattle.run_parts.specs.Limits.{most_bytes}
use Rattle.run_parts.specs.Readings.{HoldsBytes}
use Rattle.run_parts.specs.Run.{AreCallsTo}
use Rattle.run_parts.proofs.CallLaws.{less-calls}
use Rattle.run_parts.proofs.HeldLaws.{holds}
use Rattle.run_parts.proofs.ReadingLaws.{unread-held}
use Rattle.page_command.specs.PageFaults.{AreNoReasons}
use Rattle.page_command.specs.declared.page_fault.PageFault.TheVariants.{Reasons as ReasonsFile, Released}
use Rattle.page_command.specs.declared.refusal.PageRefusal.{PageRefusal}
use Rattle.page_command.specs.declared.refusal.PageRefusal.TheVariants.{Shared, Unfit}
use Rattle.page_command.specs.inner.PageParts.{AreFileCallsTo, AreNoReasonLines, AreNoReleased, RefusesFile, TellsReasons, TellsReleased}

module _ (files : Option Files) (name bytes : List ℕ) (held : HoldsBytes files name most_bytes bytes) (fields : List Field) where
  -- a released file whose bytes were not read
  pub unread-released : (found : SheetFault) → (found ≢ sheet.OutOfMemory → IsSheetFault fields bytes found)
      → (found ≢ sheet.OutOfMemory → (s : SheetParts) → ¬ IsSheet fields bytes s) → (r : PageRefusal) → TellsReleased fields found r
      → RefusesFile name files (AreNoReleased fields) r
  unread-released found is none (Shared f) memory = rw memory (tt, tt)
  unread-released found is none (Unfit (Released what)) told = unread-held files name bytes fields held (Err found) is none what told
  unread-released found is none (Unfit what) told = absurd told

  -- and reasons
  pub unread-reasons : (rows : ℕ) (found : ReasonFault) → (found ≢ reason.OutOfMemory → IsReasonFault fields rows bytes found)
      → (found ≢ reason.OutOfMemory → (reasons : Reasons) → ¬ AreReasons fields rows bytes reasons) → (r : PageRefusal) → TellsReasons found r
      → RefusesFile name files (AreNoReasonLines fields rows) r
  unread-reasons rows found is none (Shared f) memory = rw memory (tt, tt)
  unread-reasons rows found is none (Unfit (ReasonsFile what)) (same, not) =
      let other : found ≢ reason.OutOfMemory = λ e. not (sym same ∙ e) in
      holds (AreNoReasons fields rows what) files name most_bytes bytes held
      (record { unread = none other; first = subst (λ (f : ReasonFault). IsReasonFault fields rows bytes f) same (is other) })
  unread-reasons rows found is none (Unfit what) told = absurd told

-- the one call before such a refusal
pub released-call : (a b : Option (List Asked)) (name : List ℕ) (fields : List Field) (found : SheetFault) (r : PageRefusal)
    → TellsReleased fields found r → PutsOnRecord a b (λ calls. calls ≡ fetched name ∷ []) → PutsOnRecord a b (AreFileCallsTo name r)
released-call a b name fields found (Shared f) memory p = less-calls a b (AreCallsTo (fetched name ∷ []) f) (λ x e. rw memory (1, e)) p
released-call a b name fields found (Unfit what) told p = p
