use Rattle.std.proofs.Common.{◌≡◌, List, ap, sym, subst, ◌∙◌, Err, IfSome}
use Rattle.edit_line.specs.EditSets.{EditsParts}
use Rattle.edit_line.specs.declared.derived.Derived.{Derived}
use Rattle.linear_elim.specs.Systems.{SystemParts, chosen_fields, system_at}
use Rattle.linear_elim.specs.Parts.{IsMade, Lifts, parts_of_system}
use Rattle.std.specs.Arc.{arc_value}
use Rattle.linear_elim.specs.Overflows.{TellsOverflow}
use Rattle.linear_elim.specs.Told.{told_system}
use Rattle.linear_elim.proofs.OverflowLaws.{system-overflows}
use Rattle.linear_elim.proofs.StepClauses.{said-handed}
use Rattle.linear_elim.proofs.StepLoops.{if_told}
use Rattle.linear_elim.proofs.fold.fold_system.Goals as goal

pub of-requires : goal.of-requires
of-requires g c =
    subst (λ (e : EditsParts). IsMade (parts_of_system e c.args.fields c.in_ok-lines.lines.items)) (c.deref.ensures ∙ sym c.in_ok-share.ensures)
    c.in_ok-lines.ensures.made

pub returns-clause-lifts : goal.returns-clause-lifts
returns-clause-lifts g c =
    let lines = ap (λ (s : SystemParts). s.lines) c.of.ensures in
    subst (λ (e : EditsParts). Lifts (parts_of_system e c.args.fields c.of.result.lines)) c.deref.ensures
    (subst (λ (ls : List Derived). Lifts (parts_of_system c.deref.result.now c.args.fields ls)) (sym lines) c.in_ok-lines.ensures.made.lifts)

pub returns-in_err-lines-clause-overflow : goal.returns-in_err-lines-clause-overflow
returns-in_err-lines-clause-overflow g c =
    let edits = arc_value c.args.edits.now in
    let told = subst (λ (e : EditsParts). IfSome (told_system c.in_err-lines.field-0.0) (λ o. system_at e c.args.fields ≡ Err o)) c.deref.ensures
    c.in_err-lines.ensures.exact in
    said-handed (λ fault. TellsOverflow edits c.args.fields fault) c.in_err-lines.field-0.0 c.from_residual.result c.from_residual.ensures.1
    (if_told (told_system c.in_err-lines.field-0.0) (λ o is. system-overflows edits.lines (chosen_fields edits.shape c.args.fields) o is) told)
