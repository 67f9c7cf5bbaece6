use Rattle.std.proofs.Common.{◌≡◌, ◌+◌, ◌∙◌, ℕ, Err, IfSome, List, Ok, Option, ap, subst, sym}
use Rattle.edit_line.specs.Lines.{HaveShape}
use Rattle.edit_line.specs.Reductions.{lines_of}
use Rattle.edit_line.specs.declared.derived.Derived.{Derived}
use Rattle.edit_model.specs.FieldSets.{with_number}
use Rattle.edit_line.specs.Shapes.{IsNumerical}
use Rattle.linear_elim.specs.LastFields.{IsPast}
use Rattle.linear_elim.specs.Steps.{pairs_count, step_result}
use Rattle.linear_elim.specs.Systems.{IsSystem, SystemOverflow, SystemParts, chosen_fields, overflow_at, pairs_at, system_at}
use Rattle.linear_elim.specs.Told.{told_step, told_system}
use Rattle.linear_elim.proofs.ExtensionLaws.{if_mapped, pairs-next, step-extends, step-stops, system-own}
use Rattle.linear_elim.proofs.OverflowLaws.{system-overflows}
use Rattle.linear_elim.proofs.StepLoops.{if_told}
use Rattle.linear_elim.proofs.ShapeLaws.{OneShape-have}
use Rattle.linear_elim.proofs.extension.extend.Given as given
use Rattle.linear_elim.proofs.extension.extend.Goals as goal

pub reduced_step-requires-clause-shape : goal.reduced_step-requires-clause-shape
reduced_step-requires-clause-shape g c =
    let said = c.lines.ensures in
    let shape = c.args.system.now.edits.shape in
    OneShape-have shape c.lines.result.now (subst (λ (ls : List Derived). HaveShape shape (lines_of ls)) (sym said.lines) said.over)

pub reduced_step-requires-clause-own : goal.reduced_step-requires-clause-own
reduced_step-requires-clause-own g c =
    let system = c.args.system.now in
    system-own system.edits system.fields c.args.field c.requires.numerical c.requires.past c.lines.result.now
    (c.lines.ensures.system.lines_are ∙ ap (λ (ls : List Derived). Ok ls) (sym c.lines.ensures.lines))

pub system_with-requires-clause-lines : goal.system_with-requires-clause-lines
system_with-requires-clause-lines g c =
    let system = c.args.system.now in
    step-extends system.edits system.fields c.args.field c.requires.numerical c.requires.past c.lines.result.now
    (c.lines.ensures.system.lines_are ∙ ap (λ (ls : List Derived). Ok ls) (sym c.lines.ensures.lines)) c.in-Ok.lines.items c.in-Ok.ensures.exact

-- the pairs of the fold are those of the system and of the step
module _ (system : SystemParts) (field : ℕ) where
  more_pairs : IsSystem system → IsNumerical system.edits.shape field → IsPast system.fields field
      → pairs_at system.edits (with_number system.fields field) ≡ pairs_at system.edits system.fields + pairs_count system.lines field
  more_pairs is number past = pairs-next system.edits system.fields field number past system.lines is.lines_are

pub returns-in_err-system_with-in-Ok-clause-pairs : goal.returns-in_err-system_with-in-Ok-clause-pairs
returns-in_err-system_with-in-Ok-clause-pairs g c = more_pairs c.args.system.now c.args.field c.lines.ensures.system c.requires.numerical c.requires.past

pub returns-in_ok-system_with-in-Ok-clause-pairs : goal.returns-in_ok-system_with-in-Ok-clause-pairs
returns-in_ok-system_with-in-Ok-clause-pairs g c = more_pairs c.args.system.now c.args.field c.lines.ensures.system c.requires.numerical c.requires.past

pub returns-in-Err-clause-pairs : goal.returns-in-Err-clause-pairs
returns-in-Err-clause-pairs g c = more_pairs c.args.system.now c.args.field c.lines.ensures.system c.requires.numerical c.requires.past

-- the fault tells where the fold stops
module _ (g : given.Over) (c : goal.After-at_field g) where
  stops : IfSome (told_system c.at_field.result) (λ f. system_at c.args.system.now.edits (with_number c.args.system.now.fields c.args.field) ≡ Err f)
  stops =
      let system = c.args.system.now in
      let here = system_at system.edits (with_number system.fields c.args.field) in
      let lines_are = c.lines.ensures.system.lines_are ∙ ap (λ (ls : List Derived). Ok ls) (sym c.lines.ensures.lines) in
      subst (λ (told : Option SystemOverflow). IfSome told (λ f. here ≡ Err f)) (sym c.at_field.ensures)
      (if_mapped (λ f. step_result c.lines.result.now c.args.field ≡ Err f) (λ f. here ≡ Err f) (overflow_at c.args.field) (told_step c.in-Err.fault)
      (λ f stopped. step-stops system.edits system.fields c.args.field c.requires.numerical c.requires.past c.lines.result.now lines_are f stopped)
      c.in-Err.ensures.exact)

pub returns-in-Err-clause-exact : goal.returns-in-Err-clause-exact
returns-in-Err-clause-exact g c = stops g c

pub returns-in-Err-clause-overflow : goal.returns-in-Err-clause-overflow
returns-in-Err-clause-overflow g c =
    let system = c.args.system.now in
    if_told (told_system c.at_field.result) (λ o is. system-overflows system.edits.lines
    (chosen_fields system.edits.shape (with_number system.fields c.args.field)) o is) (stops g c)
