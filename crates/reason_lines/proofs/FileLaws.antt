-- What is said of a reasons file: its reasons, or one fault, and nothing else.
use Rattle.std.proofs.Common.{◌≡◌, ◌≢◌, ◌∙◌, sym, ap, refl, ℕ, List, Some, None, Result, Ok, Err}
use Rattle.std.specs.Result.{IfErr, IfOk}
use Rattle.edit_model.specs.declared.field.Field.{Field}
use Rattle.record_text.proofs.TableLaws.{same_table, same_table_fault, table_excludes_fault}
use Rattle.reason_lines.specs.ReasonFiles.{AreReasons, IsReasonFault, changes_in, left_outs_in, lines_fault}
use Rattle.reason_lines.specs.declared.entry.Change.{Change}
use Rattle.reason_lines.specs.declared.entry.LeftOut.{LeftOut}
use Rattle.reason_lines.specs.declared.fault.ReasonFault.{ReasonFault}
use Rattle.reason_lines.specs.declared.fault.ReasonFault.TheVariants.{Header, Line, OutOfMemory, Table}
use Rattle.reason_lines.specs.declared.reading.Reasons.{Reasons}

module _ (fields : List Field) (rows : ℕ) (bytes : List ℕ) where
  -- there is one answer
  pub same_reasons : (a b : Reasons) → AreReasons fields rows bytes a → AreReasons fields rows bytes b → a ≡ b
  same_reasons a b is other =
      let table = same_table bytes is.table other.table is.given other.given in
      let changes : a.changes ≡ b.changes = is.changes ∙ ap (λ (t : _). changes_in fields rows t.rows)
      table ∙ sym other.changes in
      let left_out : a.left_out ≡ b.left_out = is.left_out ∙ ap
      (λ (t : _). left_outs_in fields rows t.rows) table ∙ sym other.left_out in
      ap (λ (cs : List Change). record { changes = cs; left_out = a.left_out }) changes
      ∙ ap (λ (ls : List LeftOut). record { changes = b.changes; left_out = ls }) left_out

  pub same_fault : (a b : ReasonFault) → IsReasonFault fields rows bytes a → IsReasonFault fields rows bytes b → a ≡ b
  same_fault (Table f) (Table g) is other = ap Table (same_table_fault bytes f g is other)
  same_fault (Table f) Header is (table, given, differs) = absurd (table_excludes_fault bytes table f given is)
  same_fault (Table f) (Line i g) is (table, given, header, found) = absurd (table_excludes_fault bytes table f given is)
  same_fault Header (Table g) (table, given, differs) other = absurd (table_excludes_fault bytes table g given other)
  same_fault Header Header is other = refl
  same_fault Header (Line i g) (t, given, differs) (u, given', header, found) = absurd
      (differs (ap (λ (x : _). x.header) (same_table bytes t u given given') ∙ header))
  same_fault (Line i f) (Table g) (table, given, header, found) other = absurd (table_excludes_fault bytes table g given other)
  same_fault (Line i f) Header (t, given, header, found) (u, given', differs) = absurd
      (differs (ap (λ (x : _). x.header) (same_table bytes u t given' given) ∙ header))
  same_fault (Line i f) (Line j g) (t, given, header, found) (u, given', header', found') =
      let table = same_table bytes t u given given' in
      let here : lines_fault fields rows 0 None u.rows ≡ Some (Line i f) = ap (λ (x : _). lines_fault fields rows 0 None x.rows) (sym table) ∙ found in
      cc (here, found')
  same_fault OutOfMemory b is other = absurd is
  same_fault a OutOfMemory is other = absurd other

  pub reasons_exclude_fault : (reasons : Reasons) (fault : ReasonFault) → AreReasons fields rows bytes reasons → ¬ IsReasonFault fields rows bytes fault
  reasons_exclude_fault reasons (Table f) is other = table_excludes_fault bytes is.table f is.given other
  reasons_exclude_fault reasons Header is (table, given, differs) = differs
      (ap (λ (x : _). x.header) (same_table bytes table is.table given is.given) ∙ is.header)
  reasons_exclude_fault reasons (Line i f) is (table, given, header, found) =
      let same = same_table bytes table is.table given is.given in
      let here : lines_fault fields rows 0 None is.table.rows ≡ Some (Line i f) = ap (λ (x : _). lines_fault fields rows 0 None x.rows) (sym same) ∙ found in
      cc (here, is.faultless)
  reasons_exclude_fault reasons OutOfMemory is other = other

  -- so what is answered is the only answer
  pub only_by_reasons : (r : Result Reasons ReasonFault) → IfOk r (λ reasons. AreReasons fields rows bytes reasons)
      → IfOk r (λ reasons. (other : Reasons) → AreReasons fields rows bytes other → other ≡ reasons)
  only_by_reasons (Ok reasons) is = λ other also. same_reasons other reasons also is
  only_by_reasons (Err e) is = tt

  module _ {T : Type 0} where
    pub first_by_fault : (r : Result T ReasonFault) → IfErr r (λ e. e ≢ OutOfMemory → IsReasonFault fields rows bytes e)
        → IfErr r (λ e. e ≢ OutOfMemory → (other : ReasonFault) → IsReasonFault fields rows bytes other → other ≡ e)
    first_by_fault (Ok t) found = tt
    first_by_fault (Err e) found = λ known other also. same_fault other e also (found known)

    pub unread_by_fault : (r : Result T ReasonFault) → IfErr r (λ e. e ≢ OutOfMemory → IsReasonFault fields rows bytes e)
        → IfErr r (λ e. e ≢ OutOfMemory → (reasons : Reasons) → ¬ AreReasons fields rows bytes reasons)
    unread_by_fault (Ok t) found = tt
    unread_by_fault (Err e) found = λ known reasons is. reasons_exclude_fault reasons e is (found known)
