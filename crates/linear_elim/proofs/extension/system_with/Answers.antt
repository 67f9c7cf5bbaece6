use Rattle.std.proofs.Common.{◌≡◌, ◌∙◌, subst, sym, ℕ}
use Rattle.edit_model.specs.FieldSets.{with_number}
use Rattle.edit_line.specs.EditSets.{EditsParts, IsReducedOf}
use Rattle.linear_elim.specs.Parts.{IsMade, parts_of_system}
use Rattle.linear_elim.proofs.ExtensionLaws.{numerical-more}
use Rattle.linear_elim.proofs.MadeLaws.{system-made}
use Rattle.linear_elim.proofs.extension.system_with.Goals as goal

pub of-requires : goal.of-requires
of-requires c =
    let system = c.args.system.now in
    let more = with_number system.fields c.args.field in
    let lines = c.args.lines.items in
    let start = c.reduced-base.result.now in
    let base = subst (λ (e : EditsParts). IsReducedOf e.shape e.lines start) (c.deref.ensures ∙ c.edits-edits.ensures) c.reduced-base.ensures.kept in
    let numerical = numerical-more system.edits.shape system.fields c.args.field c.lines-lines.ensures.system.numerical c.requires.numerical in
    let made = system-made system.edits start base more lines numerical c.requires.lines in
    let fields : c.fields_with.result ≡ more = c.fields_with.ensures in
    subst (λ (e : EditsParts). IsMade (parts_of_system e c.fields_with.result lines)) (sym (c.in_ok-try_clone.ensures ∙ c.edits-edits.ensures))
    (subst (λ (set : ℕ). IsMade (parts_of_system system.edits set lines)) (sym fields) made)
