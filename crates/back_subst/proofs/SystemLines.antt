use Rattle.std.proofs.Common.{◌≡◌, ℕ, List, ◌++◌, Result, Ok, Err, IfSome, fold, map, refl, sym, ap, ◌∙◌, subst}
use Rattle.edit_line.specs.EditSets.{EditsParts, base_lines}
use Rattle.edit_line.specs.Lines.{HaveShape, LineParts}
use Rattle.edit_line.specs.Reductions.{lines_of, reduce, reduce_derived}
use Rattle.edit_line.specs.declared.derived.Derived.{Derived}
use Rattle.edit_line.specs.declared.place.Place.{Place}
use Rattle.edit_line.proofs.OwnLaws.{own-reduced, reduce-own}
use Rattle.edit_line.proofs.ReductionLaws.{reduce-lines}
use Rattle.linear_elim.specs.Parts.{IsOver}
use Rattle.linear_elim.specs.Steps.{step}
use Rattle.linear_elim.specs.Systems.{IsSystem, SystemOverflow, SystemParts, chosen_fields, system, system_of}
use Rattle.linear_elim.specs.Told.{told_system}
use Rattle.linear_elim.specs.declared.fault.SystemFault.{SystemFault}
use Rattle.linear_elim.specs.declared.fault.SystemFault.TheVariants.{Overflow}
use Rattle.linear_elim.proofs.FoldLaws.{fold-fault}
use Rattle.linear_elim.proofs.ResultLaws.{base-plain, system-plain}
use Rattle.back_subst.specs.inner.Systems.{start_lines, system_left}

-- The lines of systems.

-- the system of the reduced edits is that of the edits
system-start : (edits : EditsParts) (fields : List ℕ) → system (map (λ (e : ℕ × LineParts). e.1) edits.lines) fields ≡ system (start_lines edits) fields
system-start edits fields =
    ap (λ (ls : List LineParts). fold step ls fields)
    (ap (λ (ls : List LineParts). reduce ls) (sym (base-plain edits.lines)) ∙ sym (reduce-lines (base_lines edits.lines))
    ∙ ap (λ (ds : List Derived). lines_of ds) (sym (reduce-own (reduce_derived (base_lines edits.lines)) (own-reduced (base_lines edits.lines))))
    ∙ reduce-lines (reduce_derived (base_lines edits.lines)))

-- the lines of a system are those of the reduced edits' system
pub system-is : (edits : EditsParts) (fields : List ℕ) (lines : List Derived) → system_of edits.lines fields ≡ Ok lines
    → lines_of lines ≡ system (start_lines edits) fields
system-is edits fields lines made = system-plain edits.lines fields lines made ∙ system-start edits fields

-- the lines of a system that a source gave are those of the edits without the fields
pub system-lines : (s : SystemParts) (edits : EditsParts) (left : ℕ) (lines : List Derived) → lines ≡ s.lines → s.edits ≡ edits → s.fields ≡ left
    → IsSystem s → IsOver s
    → (lines_of lines ≡ system_left edits left) × HaveShape edits.shape (lines_of lines)
system-lines s edits left lines lines_are edits_are left_is is is_over = (
  ap (λ ds. lines_of ds) lines_are ∙ system-is s.edits (chosen_fields s.edits.shape s.fields) s.lines is.lines_are
      ∙ ap (λ (e : EditsParts). system (start_lines e) (chosen_fields e.shape s.fields)) edits_are
      ∙ ap (λ n. system (start_lines edits) (chosen_fields edits.shape n)) left_is,
  subst (λ ds. HaveShape edits.shape (lines_of ds)) (sym lines_are) (subst (λ (e : EditsParts). HaveShape e.shape (lines_of s.lines)) edits_are is_over),
)

-- where no number leaves the range for some fields, none does for the first of them
pub system-first : (edits : EditsParts) (first more : List ℕ) (all : List Derived) → system_of edits.lines (first ++ more) ≡ Ok all
    → (lines : List Derived) × (system_of edits.lines first ≡ Ok lines)
system-first edits first more all made = by (system_of edits.lines first) refl
  where
    by : (r : Result (List Derived) SystemOverflow) → system_of edits.lines first ≡ r → (lines : List Derived) × (system_of edits.lines first ≡ Ok lines)
    by (Ok lines) e = (lines, e)
    by (Err fault) e = absurd (cc (sym (fold-fault (reduce_derived (base_lines edits.lines)) first more fault e) ∙ made))

-- and then none is told
pub no-overflow : (fault : SystemFault) (f first second : ℕ) (place : Place) (answer : Result (List Derived) SystemOverflow) (lines : List Derived)
    → fault ≡ Overflow f first second place → IfSome (told_system fault) (λ o. answer ≡ Err o) → answer ≡ Ok lines → ⊥
no-overflow fault f first second place answer lines is says made =
    let told : answer ≡ Err (record { field = f; step = record { first = first; second = second; place = place } }) =
    subst (λ (x : SystemFault). IfSome (told_system x) (λ o. answer ≡ Err o)) is says in
    absurd (cc (sym made ∙ told))
