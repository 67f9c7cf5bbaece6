use Rattle.std.proofs.Common.{List, ap, arith, length, ◌∙◌}
use Rattle.std.proofs.lemmas.List.{length-map}
use Rattle.edit_line.specs.Shapes.{Domain, domain_with}
use Rattle.edit_line.specs.EditSets.{EditsParts}
use Rattle.linear_elim.specs.Systems.{SystemParts}
use Rattle.linear_elim.proofs.ExtensionLaws.{numerical-from}
use Rattle.linear_elim.proofs.system.System.fields_with.Goals as goal

pub with-requires : goal.with-requires
with-requires c =
    let shape = c.args.self.now.edits.shape in
    let below = numerical-from 0 c.args.field shape c.requires in
    let is = c.code_counts-counts.ensures.domains ∙ c.shape-shape.ensures ∙ ap (λ (e : EditsParts). e.shape) c.deref.ensures
    ∙ ap (λ (s : SystemParts). s.edits.shape) c.self.view_is in
    let as_many = ap (λ (s : List Domain). length s) is in
    let mapped = length-map c.code_counts-counts.result.now domain_with in
    omega (arith, below, as_many, mapped, c.code_counts-counts.ensures.few)
